-- `forward_phase` meets its contract.
use mathlib.Core.Path.{refl}
use native.Mathlib.Omega.{arith}
use borrow.Author.Rules.{rules}
use Rattle.words.proofs.Loops.{begun, turned, ended}
use Rattle.matrix.specs.Reordered.{stepped_at}
use Rattle.matrix.proofs.substitution.forward_phase.Goals as goal

pub loop-k-init : goal.loop-k-init
loop-k-init g c = record { ran = begun (omega arith) tt refl; vector = c.requires.vector }

pub forward_step-requires : goal.forward_step-requires
forward_step-requires g c = record {
  matrix = search rules;
  vector = search rules;
  within = omega (
    arith,
    c.requires.by_index
        c.loop-k.k (omega arith),
  );
}

pub loop-k-preserved : goal.loop-k-preserved
unfolding stepped_at
loop-k-preserved g c = record {
  ran = turned c.loop-k.invariant.ran (omega arith) tt c.forward_step.ensures;
  vector = search rules;
}

pub returns : goal.returns
returns g c = ended c.loop-k.invariant.ran c.loop-k-test.false
