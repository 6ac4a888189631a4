-- Wrong readings of 'the smallest and the largest |h| over accepted attempts' (02, [7]), each as a solver that takes
-- it, and each refuted: it is right but for the strides, and one advance that accepts an attempt shows them.
--     not-keeping-first-stride    keeps the h that was accepted first
--     not-taking-later            takes the h after the acceptance, where its report is answered
use mathlib.Core.Path.{◌≡◌, sym, ap}
use mathlib.Core.Bool.{Bool, true, false, true≢false}
use lib.Ieee.{is_nan, le, lt, add, mul, div, of_int, of_bits}
use Rattle.words.specs.Constants.{«1·0», «2·0»}
use Rattle.words.specs.Loop.{loop, pick}
use Rattle.words.specs.Grid.{at}
use Rattle.scalar.specs.Order.{abs_of, max_of, min_of}
use Rattle.scalar.specs.SquareRootComputed.{sqrt_of}
use Rattle.matrix.specs.Linear.{divided, lin_solve_of}
use Rattle.matrix.specs.Substitution.{solved}
use Rattle.state.specs.declared.run.Run.{Run}
use Rattle.state.specs.declared.run.Stage.TheVariants as stage
use Rattle.state.specs.declared.talk.Reply.TheVariants as reply
use Rattle.state.specs.Memory.{amounts_fit, newton_fit, given_fit, factors_fit, differences_fit}
use Rattle.state.specs.Pivots.{stray, stray_at}
use Rattle.opening.specs.Rows.{verdict_of}
use Rattle.opening.specs.Admission.{asking_at, answers_report}
use Rattle.solve_blocks.specs.Setters.{◌▸◌, in_numbers, in_notes, set_h, set_strides}
use Rattle.solve_blocks.specs.Advance.{AdvanceOutcome, advance_outcome, advance_of, advance_by, replied_of, called_of}
use Rattle.solve_blocks.specs.Estimate.{solved_first, error_at, error_of, sum_at}
use Rattle.solve_blocks.specs.Judge.{with_stride, accepted_of, judged_of, refined_of}
use Rattle.solve_blocks.specs.Matrices.{passes_of, pass_at}
use Rattle.history.proofs.Refuted.{Solver, Meets, sample_at, sample_memory}
use Rattle.std.specs.Prelude.{None, Some, Option, Ok, Err}
use Rattle.state.specs.declared.run.Strides.{Strides}
use Rattle.state.specs.Talk.{Answer, call, refused, stride_pair}

-- a run that accepts an attempt of h = 1 at its next reply: of memory that is 0 the error is a NaN, which is small
abbrev striding : Option Strides → Run
striding s = sample_at stage.Refinement ▸ in_numbers (set_h «1·0») ▸ in_notes (set_strides s)

-- whether there are strides, and the smallest is below 2
abbrev is_short : Option Strides → Bool
is_short None = false
is_short (Some s) = lt s.smallest «2·0»

abbrev says_short : Answer → Bool
says_short (Ok c) = is_short c.run.notes.strides
says_short (Err e) = false

abbrev says_short_of : AdvanceOutcome → Bool
says_short_of o = says_short o.answer

-- right but for the strides, which it makes of the run before and the run after
abbrev with_strides : (Run → Option Strides) → Answer → Answer
with_strides f (Ok c) = Ok (call (c.run ▸ in_notes (set_strides (f c.run))) c.request c.place)
with_strides f (Err e) = Err e

abbrev noting : (Run → Run → Option Strides) → Solver
noting f r p m = let o = (advance_of r p m).core in advance_outcome (with_strides (f r) o.answer) o.memory

-- ---- a solver that keeps the first

abbrev first : Option Strides → Option Strides → Option Strides
first None new = new
first (Some s) new = Some s

abbrev pub keeps_first_stride : Solver
keeps_first_stride = noting (λ (before after : Run). first before.notes.strides after.notes.strides)

pub not-keeping-first-stride : Meets keeps_first_stride → ⊥
unfolding advance_by replied_of called_of passes_of pass_at refined_of judged_of accepted_of with_stride abs_of min_of
    max_of error_of error_at sum_at solved_first lin_solve_of solved divided at sqrt_of loop pick verdict_of amounts_fit
    newton_fit given_fit factors_fit differences_fit asking_at answers_report stray stray_at is_nan le lt add mul div
    of_int of_bits
not-keeping-first-stride meets =
    true≢false
    (sym (ap says_short_of (meets (striding (Some (stride_pair «2·0» «2·0»))) reply.Filled sample_memory)))

-- ---- a solver that takes it too late

abbrev later : Run → Run → Option Strides
later before after =
    pick (asking_at before.stage).report (with_stride (abs_of after.numbers.h) before.notes.strides)
    before.notes.strides

abbrev pub takes_later : Solver
takes_later = noting later

pub not-taking-later : Meets takes_later → ⊥
unfolding advance_by replied_of called_of passes_of pass_at refined_of judged_of accepted_of with_stride abs_of min_of
    max_of error_of error_at sum_at solved_first lin_solve_of solved divided at sqrt_of loop pick verdict_of amounts_fit
    newton_fit given_fit factors_fit differences_fit asking_at answers_report stray stray_at is_nan le lt add mul div
    of_int of_bits
not-taking-later meets = true≢false (sym (ap says_short_of (meets (striding None) reply.Filled sample_memory)))
