-- The bytes that are printed of an answer (02, [13]): what `totals` prints, and 28.
use Rattle.std.specs.Prelude.{ℕ, List, Result, Ok, Err}
use Rattle.forecast_text.specs.Printed.{text}
use Rattle.night_totals.specs.Printed.{printed_of}
use Rattle.night_totals.specs.declared.night.NightError.TheVariants as night_error
use Rattle.night_totals.specs.declared.totals.Totals.{Totals}
use Rattle.night_join.specs.declared.joining.JoinError.{JoinError}
use Rattle.night_join.specs.declared.joining.JoinError.TheVariants as join_error
use Rattle.night_chain.specs.declared.chain.ChainError.{ChainError}
use Rattle.night_chain.specs.declared.chain.ChainError.TheVariants as chain_error

unfoldable pub refusal_text : JoinError → List ℕ
refusal_text join_error.Unfit = text "refused 28\n"
refusal_text join_error.TooMany = printed_of (Err night_error.TooMany)

unfoldable pub answer_text : Result Totals ChainError → List ℕ
answer_text (Ok t) = printed_of (Ok t)
answer_text (Err (chain_error.Malformed line)) = printed_of (Err (night_error.Malformed line))
answer_text (Err (chain_error.Join refused)) = refusal_text refused
