-- The tests before the work: what a passed one says.
use Prim.Native.Nat.{ℕ, suc, ◌+◌, ◌*◌, ◌≤◌}
use mathlib.Core.Path.{◌≡◌, refl, ap, ◌∙◌}
use mathlib.Core.Bool.{Bool, true, false, ◌&&◌}
use native.Mathlib.Nat.{mul-le-mul_right, suc-mul}
use native.Mathlib.Omega.{arith}
use lib.Dec.{eqb, leb}
use borrow.Author.Tests.{eqb-true, leb-true, eq-eqb, le-leb}
use Rattle.shelf.specs.declared.answers.Shelf.{Shelf}
use Rattle.shelf.specs.Refusals.{room_fits, shelf_fits, Room, Fit}

both_left : (a b : Bool) → a && b ≡ true → a ≡ true
both_left true b e = refl
both_left false b e = e

both_right : (a b : Bool) → a && b ≡ true → b ≡ true
both_right true b e = e
both_right false true e = refl
both_right false false e = e

pub room-fit : (n c e : ℕ) → room_fits n c e ≡ true → Room n c e
unfolding room_fits
room-fit n c e p =
    record {
      coefficients = eqb-true _ _ (both_left _ _ p);
      ends = eqb-true _ _ (both_right (eqb c (48 * (4 * n))) _ p);
    }

pub shelf-fit : (s : Shelf) → shelf_fits s ≡ true → Fit s
unfolding shelf_fits
shelf-fit s p =
    record {
      steps = leb-true _ _ (both_left _ _ p);
      place = leb-true _ _ (both_right (leb s.steps 48) _ p);
    }

pub fit-room : (n c e : ℕ) → Room n c e → room_fits n c e ≡ true
unfolding room_fits
fit-room n c e r =
    ap (λ (b : Bool). b && eqb e 96) (eq-eqb c (48 * (4 * n)) r.coefficients) ∙ eq-eqb e 96 r.ends

pub fit-shelf : (s : Shelf) → Fit s → shelf_fits s ≡ true
unfolding shelf_fits
fit-shelf s f =
    ap (λ (b : Bool). b && leb s.place 47) (le-leb s.steps 48 f.steps) ∙ le-leb s.place 47 f.place

-- a place's room lies within that of all 48
pub within-room : (n long c place : ℕ) → long ≡ 4 * n → c ≡ 48 * (4 * n) → place ≤ 47 → place * long + long ≤ c
within-room n long c place e f low =
    let g : suc place ≤ 48 = omega arith in
    omega (arith, mul-le-mul_right long g, suc-mul place long)
