-- `swap_rows` meets its contract.
use mathlib.Core.Path.{refl}
use native.Mathlib.Omega.{arith}
use borrow.Author.Rules.{rules}
use Rattle.words.proofs.Loops.{begun, turned, ended}
use Rattle.matrix.proofs.elimination.swap_rows.Goals as goal

pub loop-j-init : goal.loop-j-init
loop-j-init g c = record { ran = begun (omega arith) tt refl; matrix = c.requires.matrix }

pub loop-j-preserved : goal.loop-j-preserved
loop-j-preserved g c = record {
  ran = turned c.loop-j.invariant.ran (omega arith) tt c.swap.ensures;
  matrix = search rules;
}

pub returns : goal.returns
returns g c = ended c.loop-j.invariant.ran c.loop-j-test.false
