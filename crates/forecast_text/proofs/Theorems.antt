-- What is promised of a printed forecast, beside the contract of `print`: what a user cites, in words, as a statement,
-- and where it is proved.
use Prim.Native.Nat.{◌≤◌}
use mathlib.Core.Path.{◌≡◌}
use lib.ListN.{length}
use Rattle.std.specs.Prelude.{IfOk}
use Rattle.forecast_text.specs.Printed.{Forecast, printed_of}
use Rattle.forecast_text.proofs.Lengths.{printed-few-proof}

-- No forecast of 32 amounts, as an array of them has, is printed with more than 771 bytes.
pub printed-few : (f : Forecast) → IfOk f (λ e. length e.amounts ≡ 32) → length (printed_of f) ≤ 771
printed-few = printed-few-proof
