-- `left_of` meets its contract.
use native.Mathlib.Omega.{arith}
use Rattle.opening.specs.Opening.{nind1_of}
use Rattle.opening.proofs.first.left_of.Goals as goal

pub returns-then-n-two : goal.returns-then-n-two
unfolding nind1_of
returns-then-n-two c = omega arith

pub returns-then-n-two-2 : goal.returns-then-n-two-2
unfolding nind1_of
returns-then-n-two-2 c = omega arith

pub returns : goal.returns
unfolding nind1_of
returns c = omega arith
