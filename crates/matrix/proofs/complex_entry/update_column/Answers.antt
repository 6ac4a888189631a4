-- `update_column` meets its contract.
use mathlib.Core.Path.{refl}
use native.Mathlib.Omega.{arith}
use borrow.Author.Rules.{rules}
use Rattle.words.proofs.Loops.{begun, turned, ended}
use Rattle.matrix.specs.LuComplex.{added_complex}
use Rattle.matrix.specs.Reordered.{multiplied_at}
use Rattle.matrix.proofs.complex_entry.update_column.Goals as goal

pub loop-i-init : goal.loop-i-init
loop-i-init c = begun (omega arith) c.requires.matrix refl

pub loop-i-preserved : goal.loop-i-preserved
unfolding multiplied_at added_complex
loop-i-preserved c = turned c.loop-i.invariant (omega arith) (search rules) (rw (
  c.put.ensures,
  c.add.ensures,
  c.multiplied.ensures,
  c.at-x.ensures.of_kind,
  c.at-y.ensures.of_kind,
))

pub returns : goal.returns
returns c = ended c.loop-i.invariant c.loop-i-test.false
