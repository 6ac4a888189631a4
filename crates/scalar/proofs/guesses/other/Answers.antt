-- `other` meets its contract: what it computes is safe, and nothing is said of the guess.
use native.Mathlib.Nat.{div-le_self}
use native.Mathlib.Omega.{arith}
use Rattle.scalar.proofs.guesses.other.Goals as goal

pub overflow_sub-g : goal.overflow_sub-g
overflow_sub-g c = omega (arith, div-le_self 0x3fef_4000_0000_0000 c.args.m)

pub overflow_add-g : goal.overflow_add-g
overflow_add-g c = omega (
  arith,
  div-le_self 0x3fef_4000_0000_0000 c.args.m,
  div-le_self c.args.b c.args.m,
)
