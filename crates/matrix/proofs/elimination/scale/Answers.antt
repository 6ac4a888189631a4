-- `scale` meets its contract.
use mathlib.Core.Path.{refl}
use native.Mathlib.Omega.{arith}
use borrow.Author.Rules.{rules}
use Rattle.words.proofs.Loops.{begun, turned, ended}
use Rattle.matrix.specs.Elimination.{scaled_at}
use Rattle.matrix.proofs.elimination.scale.Goals as goal

pub loop-i-init : goal.loop-i-init
loop-i-init g c = record { ran = begun (omega arith) tt refl; matrix = c.requires.matrix }

pub loop-i-preserved : goal.loop-i-preserved
unfolding scaled_at
loop-i-preserved g c = record {
  ran = turned c.loop-i.invariant.ran (omega arith) tt
      (rw (c.put.ensures, c.multiplier.ensures, c.at-x.ensures.of_kind));
  matrix = search rules;
}

pub returns : goal.returns
returns g c = ended c.loop-i.invariant.ran c.loop-i-test.false
