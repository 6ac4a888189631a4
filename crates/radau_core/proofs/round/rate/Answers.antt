-- `rate` meets its contract.
use mathlib.Core.Path.{refl}
use borrow.Author.Tests.{eq-eqb, ne_eqb}
use Rattle.words.proofs.Branch.{yes, no}
use Rattle.solve_blocks.specs.Newton.{rate_of}
use Rattle.radau_core.proofs.round.rate.Goals as goal

pub returns-then-words-eq2 : goal.returns-then-words-eq2
unfolding rate_of
returns-then-words-eq2 c = yes _ _ _ (eq-eqb _ _ c.if-words-eq2.true) refl

pub returns : goal.returns
unfolding rate_of
returns c = no _ _ _ (ne_eqb _ _ c.if-words-eq2.false) c.sqrt.ensures.0
