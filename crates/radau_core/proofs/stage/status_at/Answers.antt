-- `status_at` meets its contract.
use native.Mathlib.Omega.{arith}
use borrow.Author.Tests.{ne_eqb}
use Rattle.words.specs.Loop.{pick}
use Rattle.radau_core.specs.Choices.{status_of}
use Rattle.radau_core.proofs.stage.status_at.Goals as goal

pub returns-in-1 : goal.returns-in-1
unfolding status_of pick
returns-in-1 c = rw c.in-1.is

pub returns-in-2 : goal.returns-in-2
unfolding status_of pick
returns-in-2 c = rw c.in-2.is

pub returns-in-3 : goal.returns-in-3
unfolding status_of pick
returns-in-3 c = rw c.in-3.is

pub returns-in-5 : goal.returns-in-5
unfolding status_of pick
returns-in-5 c = rw c.in-5.is

pub returns-in_default : goal.returns-in_default
unfolding status_of pick
returns-in_default c = rw (
  ne_eqb c.args.word 1 (omega arith),
  ne_eqb c.args.word 2 (omega arith),
  ne_eqb c.args.word 3 (omega arith),
  ne_eqb c.args.word 5 (omega arith),
)
