-- `find_pivot` meets its contract.
use mathlib.Core.Path.{ap}
use native.Mathlib.Omega.{arith}
use Rattle.words.proofs.Loops.{begun, turned, ended}
use Rattle.words.proofs.Branch.{yes, no}
use Rattle.matrix.specs.Elimination.{Best, better_at, pivot_row}
use Rattle.matrix.proofs.elimination.find_pivot.Goals as goal
use Rattle.matrix.proofs.elimination.find_pivot.Goals.{else-val-max_val, then-val-max_val}

pub loop-i-init : goal.loop-i-init
loop-i-init g c = begun (omega arith) (omega arith) (cc)

pub loop-i-preserved : goal.loop-i-preserved
unfolding better_at
loop-i-preserved g c = elim c.if-val-max_val.branch [
  | then-val-max_val w ↦ turned c.loop-i.invariant (omega arith)
      (omega arith) (yes _ _ _ (cc) (cc))
  | else-val-max_val w ↦ turned c.loop-i.invariant (omega arith) (omega arith)
      (no _ _ _ (cc) (cc))
]

pub returns : goal.returns
unfolding pivot_row
returns g c = record {
  value = ap (λ (b : Best). b.row) (ended c.loop-i.invariant c.loop-i-test.false);
  upper_bound = omega arith;
}
