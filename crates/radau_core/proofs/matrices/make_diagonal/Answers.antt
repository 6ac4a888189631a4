-- `make_diagonal` meets its contract: its loop is the definition's, over the three matrices at once.
use mathlib.Core.Path.{refl}
use native.Mathlib.Omega.{arith}
use Rattle.words.proofs.Loops.{begun, turned, ended}
use Rattle.words.proofs.Grid.{cell}
use Rattle.solve_blocks.specs.Reordered.{diagonal_at}
use Rattle.radau_core.proofs.matrices.make_diagonal.Goals as goal

pub overflow_mul-r : goal.overflow_mul-r
overflow_mul-r c = omega (arith, cell c.args.n c.loop-r.r c.loop-r.r (omega arith) (omega arith) (omega arith))

pub overflow_add-r : goal.overflow_add-r
overflow_add-r c = omega (arith, cell c.args.n c.loop-r.r c.loop-r.r (omega arith) (omega arith) (omega arith))

pub make-requires : goal.make-requires
make-requires c = let here = cell c.args.n c.loop-r.r c.loop-r.r (omega arith) (omega arith) (omega arith) in
    (omega arith, omega arith, omega arith, omega arith, omega arith)

pub loop-r-init : goal.loop-r-init
loop-r-init c = begun (omega arith) (omega arith) refl

pub loop-r-preserved : goal.loop-r-preserved
unfolding diagonal_at
loop-r-preserved c = turned c.loop-r.invariant
    (omega arith) (omega arith) c.make.ensures

pub returns : goal.returns
returns c = ended c.loop-r.invariant c.loop-r-test.false
