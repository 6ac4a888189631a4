-- What a byte, and a piece of bytes, does to totals that are read one after another: the code's own definition.
use Rattle.std.specs.Prelude.{ℕ, Option, None, Some, List, [], ◌∷◌, replicate, ◌==◌, Result, Ok, Err}
use Rattle.words.specs.Loop.{pick}
use Rattle.sheet.specs.Sheet.{line_feed}
use Rattle.night_totals.specs.Filling.{blank_of, filled_of}
use Rattle.night_totals.specs.Night.{plus}
use Rattle.night_totals.specs.Printed.{totals_form, totals_from}
use Rattle.night_totals.specs.declared.filling.Filling.{Filling}
use Rattle.night_totals.specs.declared.totals.Totals.{Totals}
use Rattle.night_join.specs.Join.{then_join}
use Rattle.night_join.specs.declared.joining.JoinError.{JoinError}
use Rattle.night_chain.specs.Reads.{answer_of}
use Rattle.night_chain.specs.declared.chain.Chain.{Chain}
use Rattle.night_chain.specs.declared.chain.Stand.{Stand}
use Rattle.night_chain.specs.declared.chain.Stand.TheVariants as stands
use Rattle.night_chain.specs.declared.chain.ChainError.{ChainError}
use Rattle.night_chain.specs.declared.chain.ChainError.TheVariants as chain_error

abbrev pub chain_at : Stand → ℕ → Result Totals JoinError → Chain
chain_at stand lines j = record { stand = stand; lines = lines; joined = j }

abbrev pub start_of : Chain
start_of = chain_at (stands.Open blank_of) 0 (Ok (totals_from (replicate 16 0)))

unfoldable pub lines_of : ℕ → ℕ → ℕ
lines_of lines b = pick (b == line_feed) (plus lines 1) lines

unfoldable pub taken_of : ℕ → Result Totals JoinError → Option Filling → ℕ → Chain
taken_of lines j None b = chain_at (stands.Wrong blank_of) lines j
taken_of lines j (Some q) b =
    pick (q.at == 138) (chain_at (stands.Open blank_of) (lines_of lines b) (then_join j (totals_from q.values)))
    (chain_at (stands.Open q) (lines_of lines b) j)

abbrev pub step_by : Stand → Chain → ℕ → Chain
step_by (stands.Wrong q) c b = c
step_by (stands.Open q) c b = taken_of c.lines c.joined (filled_of totals_form q b) b

unfoldable pub step_of : Chain → ℕ → Chain
step_of c b = step_by c.stand c b

unfoldable pub fed_of : Chain → List ℕ → Chain
fed_of c [] = c
fed_of c (b ∷ piece) = fed_of (step_of c b) piece

-- a line that is wrong, or that has not come to its end
abbrev pub told_by : Stand → Chain → Result Totals ChainError
told_by (stands.Wrong q) c = Err (chain_error.Malformed (plus c.lines 1))
told_by (stands.Open q) c = pick (q.at == 0) (answer_of c.joined) (Err (chain_error.Malformed (plus c.lines 1)))

unfoldable pub told_of : Chain → Result Totals ChainError
told_of c = told_by c.stand c
