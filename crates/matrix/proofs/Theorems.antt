-- What is promised of the matrix routines, beside their contracts, each of which is an equation: what a user cites,
-- each theorem in words, its statement, and where it is proved. `Kept` and `KeptSide` stand in Refusals.antt. That
-- each contract settles its call is in Determinism.antt.
use Prim.Native.Nat.{ℕ}
use mathlib.Core.List.{List}
use lib.Ieee.{Float}
use Rattle.matrix.specs.Complex.{Parts}
use Rattle.matrix.specs.Lu.{lu_decomp_of}
use Rattle.matrix.specs.LuComplex.{lu_decomp_complex_of}
use Rattle.matrix.specs.Linear.{lin_solve_of}
use Rattle.matrix.specs.LinearComplex.{lin_solve_complex_of}
use Rattle.matrix.proofs.Refusals.{Kept, KeptSide, lu-decomp-kept-proof, lu-decomp-complex-kept-proof}
use Rattle.matrix.proofs.Refusals.{lin-solve-kept-proof, lin-solve-complex-kept-proof}

-- Where `lu_decomp` refuses, the matrix and the pivots are as they were.
pub lu-decomp-kept : (n : ℕ) (ip : List ℕ) (a : List Float) → Kept a ip (lu_decomp_of n a ip)
lu-decomp-kept = lu-decomp-kept-proof

-- So it is with `lu_decomp_complex`.
pub lu-decomp-complex-kept : (n : ℕ) (ip : List ℕ) (a : Parts) → Kept a ip (lu_decomp_complex_of n a ip)
lu-decomp-complex-kept = lu-decomp-complex-kept-proof

-- Where `lin_solve` refuses, the right side is as it was.
pub lin-solve-kept : (n : ℕ) (ip : List ℕ) (a b : List Float) → KeptSide b (lin_solve_of n a b ip)
lin-solve-kept = lin-solve-kept-proof

-- So it is with `lin_solve_complex`.
pub lin-solve-complex-kept : (n : ℕ) (ip : List ℕ) (a b : Parts) → KeptSide b (lin_solve_complex_of n a b ip)
lin-solve-complex-kept = lin-solve-complex-kept-proof
