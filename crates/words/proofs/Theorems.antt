-- What is promised of the constants: what a user cites, in words, as a statement, and where it is proved.
use Prim.Native.Nat.{ℕ, ◌<◌}
use lib.ListN.{get_or}
use lib.Ieee.{nan}
use Rattle.words.specs.Constants.{constant, constants, Right}
use Rattle.words.proofs.ConstantLaws.{constant-right-proof}

-- Each of the 23 constants is the double nearest to the number that it is named after.
pub constant-right : (k : ℕ) → k < 23 → Right (get_or constants k (constant nan 0 1))
constant-right = constant-right-proof
