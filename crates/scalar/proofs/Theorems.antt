-- What is promised of the square root, of the root of order m and of the coefficients, beside the contracts: what a
-- user cites, each theorem in words, its statement, and where it is proved.
use Prim.Native.Nat.{ℕ, ◌+◌, ◌<◌}
use mathlib.Core.Path.{◌≡◌}
use mathlib.Core.Bool.{true, false}
use lib.Dec.{T}
use lib.Ieee.{Float, binary64, fits}
use Rattle.words.specs.Words.{double, ◌!◌}
use Rattle.words.specs.Patterns.{infinity_pattern}
use Rattle.scalar.specs.SquareRoot.{IsSquareRoot}
use Rattle.scalar.specs.SquareRootComputed.{sqrt_of}
use Rattle.scalar.specs.Root.{keeps, root_of}
use Rattle.scalar.specs.Steps.{Ordered}
use Rattle.scalar.specs.Coefficients.{coefficients}
use Rattle.scalar.specs.Exact.{exact_at, Between}
use Rattle.scalar.proofs.SquareRoots.{sqrt-is-proof, sqrt-exists-proof, sqrt-only-proof}
use Rattle.scalar.proofs.RootLaws.{root_pattern, root-is-proof, root-kept-proof, root-next-proof, root-only-proof}
use Rattle.scalar.proofs.TableLaws.{coefficient-right-proof}

-- ---- the square root (specs/SquareRoot.antt)

-- Every double has a square root.
pub sqrt-exists : (x : Float) → T (fits binary64 x) → (r : Float) × IsSquareRoot x r
sqrt-exists = sqrt-exists-proof

-- It has one only.
pub sqrt-only : (x r r' : Float) → IsSquareRoot x r → IsSquareRoot x r' → r ≡ r'
sqrt-only = sqrt-only-proof

-- It is what `sqrt_of` computes, which by its contract the code returns.
pub sqrt-is : (x : Float) → T (fits binary64 x) → IsSquareRoot x (sqrt_of x)
sqrt-is = sqrt-is-proof

-- ---- the root of order m (specs/Root.antt), of a v that it is halved for

-- The root is the double of `root_pattern`, of which the next two theorems speak.
pub root_is : (m : ℕ) (v : Float) → Ordered m v → root_of m v ≡ double (root_pattern m v)
root_is = root-is-proof

-- Its product of m factors doesn't exceed v.
pub root_kept : (m : ℕ) (v : Float) → Ordered m v → keeps m v (root_pattern m v) ≡ true
root_kept = root-kept-proof

-- That of the next double does.
pub root-next : (m : ℕ) (v : Float) → Ordered m v → keeps m v (root_pattern m v + 1) ≡ false
root-next = root-next-proof

-- A pattern with both properties is the root's, however it was found.
pub root-only : (m : ℕ) (v : Float) → Ordered m v → (b : ℕ) → b < infinity_pattern → keeps m v b ≡ true
    → (b + 1 < infinity_pattern → keeps m v (b + 1) ≡ false) → double b ≡ root_of m v
root-only = root-only-proof

-- ---- the coefficients (specs/Exact.antt)

-- Of each coefficient that has an exact number, that number lies between the neighbours of the double; within two
-- doubles either way of U1 the cubic changes its sign.
pub coefficient-right : (k : ℕ) → k < 27 → Between (coefficients ! k) (exact_at k)
coefficient-right = coefficient-right-proof
