-- `update` meets its contract.
use mathlib.Core.Path.{refl}
use native.Mathlib.Omega.{arith}
use borrow.Author.Rules.{rules}
use Rattle.words.proofs.Loops.{begun, turned, ended}
use Rattle.matrix.proofs.complex_entry.ComplexUpdate.update.Goals as goal

pub loop-j-init : goal.loop-j-init
loop-j-init c = begun (omega arith) c.requires.matrix refl

pub loop-j-preserved : goal.loop-j-preserved
loop-j-preserved c = turned c.loop-j.invariant (omega arith) (search rules) c.column.ensures

pub returns : goal.returns
returns c = ended c.loop-j.invariant c.loop-j-test.false
