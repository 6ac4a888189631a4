-- `make_plain` meets its contract: its loop is the definition's, over the three matrices at once.
use mathlib.Core.Path.{refl}
use native.Mathlib.Omega.{arith}
use Rattle.words.proofs.Loops.{begun, turned, ended}
use Rattle.solve_blocks.proofs.MatrixLaws.{at_most}
use Rattle.radau_core.proofs.matrices.make_plain.Goals as goal

pub overflow_mul-count : goal.overflow_mul-count
overflow_mul-count c = omega (arith, at_most c.args.n (omega arith))

pub make-requires : goal.make-requires
make-requires c = let small =
    at_most c.args.n (omega arith) in
    (omega arith, omega arith, omega arith, omega arith, omega arith)

pub loop-k-init : goal.loop-k-init
loop-k-init c = begun (omega arith) (omega arith) refl

pub loop-k-preserved : goal.loop-k-preserved
loop-k-preserved c = turned c.loop-k.invariant
    (omega arith) (omega arith) c.make.ensures

pub returns : goal.returns
returns c = ended c.loop-k.invariant c.loop-k-test.false
