-- `sum_of` meets its contract.
use Rattle.std.proofs.Common.{refl, arith}
use Rattle.words.proofs.Loops.{begun, turned, ended}
use Rattle.model.specs.Plan.{term_at}
use Rattle.model.proofs.planned.sum_of.Goals as goal

pub loop-k-init : goal.loop-k-init
loop-k-init c = begun (omega arith) tt refl

pub loop-k-preserved : goal.loop-k-preserved
unfolding term_at
loop-k-preserved c = turned c.loop-k.invariant (omega arith) tt refl

pub returns : goal.returns
returns c = ended c.loop-k.invariant (omega arith)
