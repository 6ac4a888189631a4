-- What the tests of an order and of lengths show, where the code makes several together: one law for the order, and one
-- for the slices of each routine.
use Prim.Native.Nat.{ℕ, ◌*◌, ◌≤◌}
use mathlib.Core.Bool.{Bool, true, false, ◌&&◌}
use mathlib.Core.Path.{◌≡◌, refl, sym, subst}
use native.Mathlib.Nat.{mul-le-mul}
use lib.Dec.{T, leb, eqb}
use borrow.Author.Tests.{leb-true, eqb-true}

both : (p q : Bool) → (p && q) ≡ true → (p ≡ true) × (q ≡ true)
both true q e = (refl, e)
both false q e = absurd (subst T (sym e) tt)

-- n is from 1 to 32, and a square of that order has at most 1,024 entries
pub record Order (n : ℕ) : Type 0 where
  pub low : 1 ≤ n
  pub high : n ≤ 32
  pub square : n * n ≤ 1024

pub order : (n : ℕ) → (leb 1 n && leb n 32) ≡ true → Order n
order n e =
    let p = both (leb 1 n) (leb n 32) e in
    let h : n ≤ 32 = leb-true n 32 p.1 in
    record { low = leb-true 1 n p.0; high = h; square = mul-le-mul h h }

-- one length more
also : (p : Bool) (x y : ℕ) → (p && eqb x y) ≡ true → (p ≡ true) × (x ≡ y)
also p x y e = let l = both p (eqb x y) e in (l.0, eqb-true x y l.1)

-- a matrix and its pivots
pub factors : (n a ip : ℕ) → (eqb a (n * n) && eqb ip n) ≡ true → (a ≡ n * n) × (ip ≡ n)
factors n a ip e = let l = also (eqb a (n * n)) ip n e in (eqb-true a (n * n) l.0, l.1)

-- a matrix, a right side and the pivots; or a complex matrix and its pivots, m being n * n
pub three : (n a m b ip : ℕ) → (eqb a (n * n) && eqb b m && eqb ip n) ≡ true → (a ≡ n * n) × (b ≡ m) × (ip ≡ n)
three n a m b ip e =
    let l = also (eqb a (n * n) && eqb b m) ip n e in
    let k = also (eqb a (n * n)) b m l.0 in
    (eqb-true a (n * n) k.0, k.1, l.1)

-- a complex matrix, a complex right side and the pivots
pub five : (n ar ai br bi ip : ℕ) → (eqb ar (n * n) && eqb ai (n * n) && eqb br n && eqb bi n && eqb ip n) ≡ true
    → (ar ≡ n * n) × (ai ≡ n * n) × (br ≡ n) × (bi ≡ n) × (ip ≡ n)
five n ar ai br bi ip e =
    let l = also (eqb ar (n * n) && eqb ai (n * n) && eqb br n && eqb bi n) ip n e in
    let k = also (eqb ar (n * n) && eqb ai (n * n) && eqb br n) bi n l.0 in
    let j = three n ar (n * n) ai br k.0 in
    (j.0, j.1, j.2, k.1, l.1)
