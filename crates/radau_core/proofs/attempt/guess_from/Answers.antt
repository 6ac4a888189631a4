-- `guess_from` meets its contract: its loop is the definition's, over the six parts at once.
use mathlib.Core.Path.{refl}
use native.Mathlib.Omega.{arith}
use lib.ListN.{length-set}
use Rattle.words.proofs.Loops.{begun, turned, ended}
use Rattle.solve_blocks.specs.Attempt.{guess_at}
use Rattle.radau_core.proofs.attempt.guess_from.Goals as goal

pub loop-i-init : goal.loop-i-init
loop-i-init c = begun (omega arith) c.requires.2 refl

pub loop-i-preserved : goal.loop-i-preserved
unfolding guess_at
loop-i-preserved c = turned c.loop-i.invariant (omega arith)
    (record {
      z1 = simp length-set (omega arith);
      z2 = simp length-set (omega arith);
      z3 = simp length-set (omega arith);
      f1 = simp length-set (omega arith);
      f2 = simp length-set (omega arith);
      f3 = simp length-set (omega arith);
    })
    (rw (
      c.combined-in-loop-i-2.ensures,
      c.combined-in-loop-i.ensures,
      c.combined.ensures,
      c.guessed-c.ensures,
      c.guessed-b.ensures,
      c.guessed-a.ensures,
    ))

pub returns : goal.returns
returns c = ended c.loop-i.invariant c.loop-i-test.false
