-- How a choice stands at its place as a number. Read, every number means something: 0 the one, any other the other.
use Rattle.std.specs.Prelude.{ℕ, Bool, true, false, not, eqb, Float, None, Some, Option}
use Rattle.words.specs.Constants.{«0·0»}
use Rattle.words.specs.Loop.{pick}
use Rattle.state.specs.declared.settings.Mass.{Mass}
use Rattle.state.specs.declared.settings.Mass.TheVariants as mass
use Rattle.state.specs.declared.settings.Source.{Source}
use Rattle.state.specs.declared.settings.Source.TheVariants as source
use Rattle.state.specs.declared.settings.Rule.{Rule}
use Rattle.state.specs.declared.settings.Rule.TheVariants as rule
use Rattle.state.specs.declared.run.Tolerances.{Tolerances}
use Rattle.state.specs.declared.run.Tolerances.TheVariants as tolerances
use Rattle.state.specs.declared.run.Status.{Status}
use Rattle.state.specs.declared.run.Status.TheVariants as status
use Rattle.state.specs.declared.run.Stage.{Stage}
use Rattle.state.specs.declared.run.Stage.TheVariants as stage
use Rattle.state.specs.Numbers.{status_number}
use Rattle.state.specs.declared.run.Singular.{Singular}
use Rattle.state.specs.declared.run.Strides.{Strides}
use Rattle.state.specs.Talk.{stride_pair}
use Rattle.state.specs.declared.run.Singular.TheVariants.{Real, Complex}
use Rattle.state.specs.Settings.{or_else}

abbrev pub flag_of : ℕ → Bool
flag_of word = not (eqb word 0)

-- what may be absent stands in two places, the first of them 0 where it is
unfoldable pub option_at : {A : Type 0} → ℕ → A → Option A
option_at given x = pick (eqb given 0) None (Some x)

unfoldable pub mass_of : ℕ → Mass
mass_of word = pick (eqb word 0) mass.Identity mass.Full

unfoldable pub source_of : ℕ → Source
source_of word = pick (eqb word 0) source.Host source.Differences

unfoldable pub rule_of : ℕ → Rule
rule_of word = pick (eqb word 0) rule.Rust rule.Book

unfoldable pub tolerances_of : ℕ → Float → Float → Tolerances
tolerances_of lists rtol atol = pick (eqb lists 0) (tolerances.Scalars rtol atol) tolerances.Lists

-- ---- the stage, and the number that it holds

unfoldable pub status_of : ℕ → Status
status_of word =
    pick (eqb word 1) status.UserInterrupt
    (pick (eqb word 2) status.NeedLargerNMax
    (pick (eqb word 3) status.StepSizeTooSmall
    (pick (eqb word 5) status.SingularMatrix
    status.Success)))

unfoldable pub stage_of : ℕ → ℕ → Stage
stage_of tag part =
    pick (eqb tag 1) stage.FirstReport
    (pick (eqb tag 2) stage.FirstDerivativeAgain
    (pick (eqb tag 3) stage.Jacobian
    (pick (eqb tag 4) (stage.Column part)
    (pick (eqb tag 5) stage.Newton1
    (pick (eqb tag 6) stage.Newton2
    (pick (eqb tag 7) stage.Newton3
    (pick (eqb tag 8) stage.Refinement
    (pick (eqb tag 9) stage.Accepted
    (pick (eqb tag 10) stage.Report
    (pick (eqb tag 11) stage.DerivativeAgain
    (pick (eqb tag 12) (stage.Ended (status_of part))
    stage.FirstDerivative)))))))))))

abbrev pub stage_tag : Stage → ℕ
stage_tag stage.FirstDerivative = 0
stage_tag stage.FirstReport = 1
stage_tag stage.FirstDerivativeAgain = 2
stage_tag stage.Jacobian = 3
stage_tag (stage.Column c) = 4
stage_tag stage.Newton1 = 5
stage_tag stage.Newton2 = 6
stage_tag stage.Newton3 = 7
stage_tag stage.Refinement = 8
stage_tag stage.Accepted = 9
stage_tag stage.Report = 10
stage_tag stage.DerivativeAgain = 11
stage_tag (stage.Ended s) = 12

-- the column, or the number of the status
abbrev pub stage_part : Stage → ℕ
stage_part stage.FirstDerivative = 0
stage_part stage.FirstReport = 0
stage_part stage.FirstDerivativeAgain = 0
stage_part stage.Jacobian = 0
stage_part (stage.Column c) = c
stage_part stage.Newton1 = 0
stage_part stage.Newton2 = 0
stage_part stage.Newton3 = 0
stage_part stage.Refinement = 0
stage_part stage.Accepted = 0
stage_part stage.Report = 0
stage_part stage.DerivativeAgain = 0
stage_part (stage.Ended s) = status_number s

-- ---- the latest singular decomposition: of which matrix, and its column

unfoldable pub singular_of : ℕ → ℕ → Option Singular
singular_of kind column =
    pick (eqb kind 1) (Some (Real column))
    (pick (eqb kind 2) (Some (Complex column))
    None)

-- ---- the strides: whether there are any, the smallest and the largest

unfoldable pub strides_of : ℕ → Float → Float → Option Strides
strides_of given smallest largest = option_at given (stride_pair smallest largest)

-- ---- written: the other is 1, and what is absent is 0

abbrev pub flag_word : Bool → ℕ
flag_word false = 0
flag_word true = 1

abbrev pub option_tag : {A : Type 0} → Option A → ℕ
option_tag None = 0
option_tag (Some x) = 1

abbrev pub number_value : Option Float → Float
number_value x = or_else x «0·0»

abbrev pub mass_word : Mass → ℕ
mass_word mass.Identity = 0
mass_word mass.Full = 1

abbrev pub source_word : Source → ℕ
source_word source.Host = 0
source_word source.Differences = 1

abbrev pub rule_word : Rule → ℕ
rule_word rule.Rust = 0
rule_word rule.Book = 1

abbrev pub tolerances_tag : Tolerances → ℕ
tolerances_tag (tolerances.Scalars rtol atol) = 0
tolerances_tag tolerances.Lists = 1

abbrev pub rtol_value : Tolerances → Float
rtol_value (tolerances.Scalars rtol atol) = rtol
rtol_value tolerances.Lists = «0·0»

abbrev pub atol_value : Tolerances → Float
atol_value (tolerances.Scalars rtol atol) = atol
atol_value tolerances.Lists = «0·0»
