-- What is promised of `interpolate`, of its definition, which its contract says the code equals: what a user cites,
-- each theorem in words, its statement, and where it is proved. A quarter of the coefficients are amounts.
use Prim.Native.Nat.{ℕ, ◌/◌, ◌≤◌, ◌<◌}
use mathlib.Core.Path.{◌≡◌}
use mathlib.Core.List.{List}
use mathlib.Core.Logic.{◌↔◌}
use lib.ListN.{length}
use lib.Ieee.{Float}
use Rattle.std.specs.Prelude.{Ok}
use Rattle.words.specs.Words.{◌!◌}
use Rattle.dense.specs.Answers.{interpolated_number}
use Rattle.dense.specs.Interpolate.{place_of, amount_of, interpolate_of}
use Rattle.dense.proofs.Outcomes.{refused-exactly-proof, refused-kept-proof, length-kept-proof, rest-kept-proof}
use Rattle.dense.proofs.Outcomes.{amounts-written-proof, done-proof}

-- The number is 19 exactly when the target is shorter than the amounts are many.
pub refused-exactly : (xi : Float) (yi cont : List Float) (xold h : Float)
    → (interpolated_number (interpolate_of xi yi cont xold h).answer ≡ 19) ↔ (length yi < length cont / 4)
refused-exactly = refused-exactly-proof

-- A target with room for the amounts isn't refused.
pub done : (xi : Float) (yi cont : List Float) (xold h : Float) → length cont / 4 ≤ length yi
    → (interpolate_of xi yi cont xold h).answer ≡ Ok tt
done = done-proof

-- A refused target is left as it was.
pub refused-kept : (xi : Float) (yi cont : List Float) (xold h : Float) → length yi < length cont / 4
    → (interpolate_of xi yi cont xold h).yi ≡ yi
refused-kept = refused-kept-proof

-- A target keeps its length.
pub length-kept : (xi : Float) (yi cont : List Float) (xold h : Float)
    → length (interpolate_of xi yi cont xold h).yi ≡ length yi
length-kept = length-kept-proof

-- Entries from the number of amounts on stay as they were.
pub rest-kept : (xi : Float) (yi cont : List Float) (xold h : Float) (k : ℕ) → length cont / 4 ≤ k
    → (interpolate_of xi yi cont xold h).yi ! k ≡ yi ! k
rest-kept = rest-kept-proof

-- Where nothing is refused, each entry below that is its amount.
pub amounts-written : (xi : Float) (yi cont : List Float) (xold h : Float) (k : ℕ) → k < length cont / 4
    → length cont / 4 ≤ length yi
    → (interpolate_of xi yi cont xold h).yi ! k ≡ amount_of (place_of xi xold h) (length cont / 4) cont k
amounts-written = amounts-written-proof
