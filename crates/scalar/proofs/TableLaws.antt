-- The coefficients are right. One whole-number test runs over the table (`tested`), and one law turns it into the rule
-- at each entry: of C1, C2, C1M1, C2M1, C1MC2, DD1, DD2 and DD3 the exact number lies strictly between the neighbours
-- of the double, and within two doubles either way of U1 the cubic changes its sign.
use Prim.Native.Nat.{ℕ, ◌<◌}
use mathlib.Core.Path.{◌≡◌, refl, sym, ap, subst}
use mathlib.Core.Bool.{Bool, true, false}
use native.Mathlib.Nat.{le_refl}
use denote.Bor.{Bor}
use borrow.Author.Tests.{ltb-true, ltb-false}
use Rattle.std.specs.Prelude.{Option, None, Some}
use Rattle.std.specs.Option.{option_copied}
use Rattle.std.specs.Slice.{IsItemAt}
use lib.Dec.{T, ltb}
use lib.Ieee.{Float, nan, binary64, of_bits, to_bits}
use lib.Ieee.Fits.{and_l, and_r}
use Rattle.words.specs.Words.{◌!◌}
use Rattle.words.specs.Loop.{pick}
use Rattle.words.specs.Patterns.{units, units_in_one}
use Rattle.scalar.specs.Coefficients.{coefficients, entry_of}
use Rattle.scalar.specs.Exact.{Exact, exact_at, Between, RightAt, entry, past, between, reach}
use Rattle.scalar.specs.Exact.{less, more, cubic_at, signed_units, up, down}
use Rattle.words.proofs.Table.{every, at_each}

right : ℕ → Float → Bool
right k x = between x (exact_at k)

tested : T (every right 0 coefficients)
unfolding right between less more cubic_at signed_units up down units units_in_one pick of_bits to_bits
tested = tt

split : (x : Float) (e : Exact) → T (between x e) → Between x e
unfolding between
split x e t =
    let lower = less (signed_units (down (reach e) (to_bits binary64 x))) e in
    let upper = more (signed_units (up (reach e) (to_bits binary64 x))) e in
    record { lower = and_l lower upper t; upper = and_r lower upper t }

pub coefficient-right-proof : (k : ℕ) → k < 27 → Between (coefficients ! k) (exact_at k)
unfolding right
coefficient-right-proof k h = split _ _ (at_each right nan coefficients tested k h)

-- what the library reads at place k of the table
pub read-right : (k : ℕ) (r : Option (Bor Float)) → IsItemAt coefficients k r
    → (option_copied r ≡ entry_of k) × RightAt k (option_copied r)
unfolding entry_of pick
read-right k None h =
    let out : ltb k 27 ≡ false = sym h.0 in
    rw out (refl, past k (ltb-false k 27 out))
read-right k (Some x) h =
    let inside : ltb k 27 ≡ true = sym h.0 in
    let e : x.now ≡ coefficients ! k = h.4 (le_refl k) nan in
    let low = ltb-true k 27 inside in
    rw inside (
      ap (λ (y : Float). Some y) e,
      entry k x.now low (subst (λ (y : Float). Between y (exact_at k)) (sym e) (coefficient-right-proof k low)),
    )
