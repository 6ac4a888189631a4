-- `partition_fails` meets its contract: a second or third count above n settles it.
use Prim.Native.Nat.{ℕ, ◌+◌, ◌<◌}
use mathlib.Core.Path.{◌≡◌, sym}
use mathlib.Core.Bool.{true}
use native.Mathlib.Omega.{arith}
use borrow.Author.Tests.{lt-ltb}
use Rattle.state.specs.Settings.{or_none}
use Rattle.opening.specs.Rows.{partition_fails}
use Rattle.opening.proofs.RowLaws.{not_equal}
use Rattle.opening.proofs.checks.partition_fails.Goals as goal
use Rattle.std.specs.Prelude.{None, Some, Option}

too-many : (n : ℕ) (one two three : Option ℕ) → n < or_none two + or_none three → true ≡ partition_fails n one two three
unfolding partition_fails
too-many n None two three l = sym (lt-ltb _ _ l)
too-many n (Some one) two three l = not_equal (one + or_none two + or_none three) n (omega arith)

pub returns-then-n-two : goal.returns-then-n-two
returns-then-n-two c = too-many _ _ _ _ (omega arith)

pub returns-then-n-three : goal.returns-then-n-three
returns-then-n-three c = too-many _ _ _ _ (omega arith)

pub returns-in-None : goal.returns-in-None
unfolding partition_fails
returns-in-None c = cc

pub returns-in-Some : goal.returns-in-Some
unfolding partition_fails
returns-in-Some c = cc
