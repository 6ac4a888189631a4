-- `gain_column` meets its contract.
use mathlib.Core.Path.{refl}
use native.Mathlib.Omega.{arith}
use borrow.Author.Rules.{rules}
use Rattle.words.proofs.Loops.{begun, turned, ended}
use Rattle.matrix.specs.Reordered.{gained_at}
use Rattle.matrix.proofs.substitution.gain_column.Goals as goal

pub loop-i-init : goal.loop-i-init
loop-i-init g c = record { ran = begun (omega arith) tt refl; vector = c.requires.vector }

pub loop-i-preserved : goal.loop-i-preserved
unfolding gained_at
loop-i-preserved g c = record {
  ran = turned c.loop-i.invariant.ran (omega arith) tt
      (rw (c.write.ensures, c.more.ensures, c.read-x.ensures, c.at.ensures.of_entries));
  vector = search rules;
}

pub returns : goal.returns
returns g c = ended c.loop-i.invariant.ran c.loop-i-test.false
