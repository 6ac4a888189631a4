-- No forecast is printed with more than 771 bytes: so the lent 1,024 always suffice.
use Prim.Native.Nat.{ℕ, ◌*◌, ◌≤◌}
use mathlib.Core.Path.{◌≡◌, refl, sym, ap, ◌∙◌}
use mathlib.Core.List.{List, [], ◌∷◌}
use native.Mathlib.Omega.{arith}
use lib.Ieee.{Float}
use lib.ListN.{length, take, length-append, length-take}
use Rattle.std.specs.Prelude.{Ok, Err, IfOk}
use Rattle.words.specs.Loop.{pick}
use Rattle.state.specs.declared.run.Status.{Status}
use Rattle.state.specs.declared.run.Status.TheVariants as status
use Rattle.state.specs.declared.talk.IntegrationResult.{IntegrationResult}
use Rattle.state.specs.Numbers.{status_number, refusal_number}
use Rattle.sheet.proofs.Inverse.{length_digits}
use Rattle.forecast_text.specs.declared.ending.ForecastError.{ForecastError}
use Rattle.forecast_text.specs.declared.ending.ForecastError.TheVariants.{Opening, Malformed, TooLong}
use Rattle.forecast_text.specs.declared.ending.Reached.{Reached}
use Rattle.forecast_text.specs.Printed.{text, width_in, numeral_of, float_of, status_line}
use Rattle.forecast_text.specs.Printed.{amounts_text, reached_text, refusal_text, Forecast, printed_of}
use Rattle.forecast_text.specs.Put.{put}
use Rattle.forecast_text.proofs.PutLaws.{put-whole}
use Rattle.forecast_text.proofs.DigitLaws.{width_few}

pub numeral-few : (v : ℕ) → length (numeral_of v) ≤ 20
numeral-few v = omega (arith, length_digits 10 (width_in 19 v) v, width_few 19 v)

pub length_float : (x : Float) → length (float_of x) ≡ 16
length_float x = length_digits 16 16 _

status-one : (s : Status) → length (numeral_of (status_number s)) ≡ 1
unfolding width_in pick
status-one status.Success = length_digits 10 1 0
status-one status.UserInterrupt = length_digits 10 1 1
status-one status.NeedLargerNMax = length_digits 10 1 2
status-one status.StepSizeTooSmall = length_digits 10 1 3
status-one status.SingularMatrix = length_digits 10 1 5

length-amounts : (ys : List Float) → length (amounts_text ys) ≡ length ys * 17
unfolding amounts_text text
length-amounts [] = refl
length-amounts (y ∷ ys) = simp length-append (omega (arith, length_float y, length-amounts ys))

status-few : (r : IntegrationResult) → length (status_line r) ≤ 170
unfolding text
status-few r =
    let c = r.counts in
    simp length-append
    (omega (
      arith,
      status-one r.status,
      numeral-few c.accepted,
      numeral-few c.rejected,
      numeral-few c.total,
      numeral-few c.ode,
      numeral-few c.jac,
      numeral-few c.lu,
    ))

reached-few : (e : Reached) → length e.amounts ≡ 32 → length (reached_text e) ≤ 771
unfolding text
reached-few e h =
    simp length-append
    (omega (
      arith,
      simp length-append at (status-few e.result),
      length_float e.result.x,
      length_float e.result.smallest,
      length_float e.result.largest,
      length-amounts (take e.species e.amounts),
      length-take e.species e.amounts,
    ))

refusal-short : (e : ForecastError) → length (refusal_text e) ≤ 32
unfolding refusal_text text
refusal-short (Opening x) = simp length-append (omega (arith, numeral-few (refusal_number x)))
refusal-short (Malformed k) = simp length-append (omega (arith, numeral-few k))
refusal-short TooLong = omega arith

-- an array of amounts has 32 of them
pub printed-few-proof : (f : Forecast) → IfOk f (λ e. length e.amounts ≡ 32) → length (printed_of f) ≤ 771
unfolding printed_of
printed-few-proof (Ok e) h = reached-few e h
printed-few-proof (Err x) h = omega (arith, refusal-short x)

-- what was put of g into fresh room is what is printed of f
pub answered : (f g : Forecast) {before after : List ℕ} → f ≡ g → IfOk g (λ e. length e.amounts ≡ 32) → before ≡ []
    → after ≡ put 1024 before (printed_of g) → after ≡ printed_of f
answered f g {before} {after} is h fresh p =
    let few : length (printed_of g) ≤ 1024 = omega (arith, printed-few-proof g h) in
    p ∙ ap (λ m. put 1024 m (printed_of g)) fresh ∙ put-whole 1024 (printed_of g) few ∙ ap printed_of (sym is)

-- a refusal, in any room of 32 bytes or more
pub refused : (room : ℕ) (f : Forecast) (x y : ForecastError) {before after : List ℕ} → 32 ≤ room → f ≡ Err x → x ≡ y
    → before ≡ [] → after ≡ put room before (refusal_text y) → after ≡ printed_of f
unfolding printed_of
refused room f x y wide is same fresh p =
    let few : length (refusal_text y) ≤ room = omega (arith, refusal-short y) in
    p ∙ ap (λ m. put room m (refusal_text y)) fresh ∙ put-whole room (refusal_text y) few
    ∙ ap printed_of (sym (is ∙ ap Err same))
