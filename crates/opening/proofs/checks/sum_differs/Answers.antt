-- `sum_differs` meets its contract.
use Prim.Native.Nat.{◌+◌}
use native.Mathlib.Omega.{arith}
use Rattle.opening.proofs.RowLaws.{not_equal}
use Rattle.opening.proofs.checks.sum_differs.Goals as goal

pub returns-then-n-one : goal.returns-then-n-one
returns-then-n-one c = let a = c.args in not_equal (a.one + a.two + a.three) a.n (omega arith)

pub returns-then-n-two : goal.returns-then-n-two
returns-then-n-two c = let a = c.args in not_equal (a.one + a.two + a.three) a.n (omega arith)

pub returns-then-n-three : goal.returns-then-n-three
returns-then-n-three c = let a = c.args in not_equal (a.one + a.two + a.three) a.n (omega arith)
