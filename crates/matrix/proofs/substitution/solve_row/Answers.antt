-- `solve_row` meets its contract.
use Prim.Native.Nat.{◌+◌, ◌-◌}
use mathlib.Core.Path.{◌≡◌}
use native.Mathlib.Omega.{arith}
use Rattle.words.proofs.Loops.{begun, turned, ended}
use Rattle.matrix.specs.Reordered.{sum_at}
use Rattle.matrix.proofs.Interchange.{moved}
use Rattle.matrix.proofs.Backward.{row_counted}
use Rattle.matrix.proofs.substitution.solve_row.Goals as goal

pub loop-k-init : goal.loop-k-init
loop-k-init g c = moved (omega arith) (begun (omega arith) tt c.read-sum.ensures)

pub loop-k-preserved : goal.loop-k-preserved
unfolding sum_at
loop-k-preserved g c = let e : c.args.n - (c.args.n + 1 - c.loop-k.k) ≡ c.loop-k.k - 1 = omega arith in
    moved (omega arith) (turned c.loop-k.invariant (omega arith) tt
    (rw (c.less-sum.ensures, c.at.ensures.of_entries, c.read.ensures, e)))

pub returns : goal.returns
returns g c = rw (
  c.write.ensures,
  c.over.ensures,
  c.at-2.ensures.of_entries,
  ended c.loop-k.invariant (omega arith),
)
    (row_counted g.E.Entry.entries _ _ _ _ (omega arith))
