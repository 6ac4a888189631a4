-- `singular_at` meets its contract.
use native.Mathlib.Omega.{arith}
use borrow.Author.Tests.{ne_eqb}
use Rattle.words.specs.Loop.{pick}
use Rattle.radau_core.specs.Choices.{singular_of}
use Rattle.radau_core.proofs.notes.singular_at.Goals as goal

pub returns-in-1 : goal.returns-in-1
unfolding singular_of pick
returns-in-1 c = rw c.in-1.is

pub returns-in-2 : goal.returns-in-2
unfolding singular_of pick
returns-in-2 c = rw c.in-2.is

pub returns-in_default : goal.returns-in_default
unfolding singular_of pick
returns-in_default c = rw (ne_eqb c.args.kind 1 (omega arith), ne_eqb c.args.kind 2 (omega arith))
