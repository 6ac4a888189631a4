-- Numbers with their names, and amounts, one behind the other.
use Prim.Native.Nat.{ℕ, zero, suc, ◌+◌, ◌-◌, ◌<◌}
use mathlib.Core.Path.{◌≡◌, sym, ap, ◌∙◌}
use mathlib.Core.List.{List, [], ◌∷◌, ◌++◌, append_assoc, append-nil}
use native.Mathlib.Numerals.{add-one}
use native.Mathlib.Omega.{arith}
use lib.Ieee.{Float, nan}
use lib.ListN.{length, get_or, take}
use Rattle.std.specs.Prelude.{min}
use Rattle.std.proofs.lemmas.List.{take_min}
use Rattle.forecast_text.specs.Printed.{text, float_of, amounts_text}
use Rattle.forecast_text.specs.Put.{put}
use Rattle.forecast_text.proofs.PutLaws.{put-then}

pub put-named : (room : ℕ) (before xs name number : List ℕ) {mid after : List ℕ} → mid ≡ put room before xs
    → after ≡ put room mid (name ++ number) → after ≡ put room before (xs ++ name ++ number)
put-named room before xs name number p q = rw append_assoc (put-then room before xs (name ++ number) p q)

-- there are no more amounts than the array has
pub few-taken : (n k : ℕ) (ys : List Float) → length ys ≡ 32 → k ≡ min n 32 → take (k - 0) ys ≡ take n ys
few-taken n k ys h e =
    let few : k - 0 ≡ min n (length ys) = omega arith in
    ap (λ i. take i ys) few ∙ take_min n ys

amounts-one : (ys : List Float) (i : ℕ) → i < length ys
    → amounts_text (take (suc i) ys) ≡ amounts_text (take i ys) ++ (text " " ++ float_of (get_or ys i nan))
unfolding amounts_text
amounts-one [] i h = absurd (let z : ⊥ = omega arith in z)
amounts-one (y ∷ ys) zero h = append-nil (text " " ++ float_of y)
amounts-one (y ∷ ys) (suc i) h =
    ap (λ l. text " " ++ float_of y ++ l) (amounts-one ys i (let z : i < length ys = omega arith in z))
    ∙ sym (append_assoc (text " " ++ float_of y) (amounts_text (take i ys)) (text " " ++ float_of (get_or ys i nan)))

pub amounts-more : (ys : List Float) (i : ℕ) → i < length ys
    → amounts_text (take (i + 1) ys) ≡ amounts_text (take i ys) ++ (text " " ++ float_of (get_or ys i nan))
amounts-more ys i h = rw (add-one) (amounts-one ys i h)
