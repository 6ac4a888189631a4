-- `tolerances` meets its contract.
use mathlib.Core.Path.{refl}
use borrow.Author.Tests.{eq-eqb, ne_eqb}
use Rattle.words.proofs.Branch.{yes, no}
use Rattle.radau_core.specs.Choices.{tolerances_of}
use Rattle.export.proofs.choices.tolerances.Goals as goal

pub returns-then-lists-eq0 : goal.returns-then-lists-eq0
unfolding tolerances_of
returns-then-lists-eq0 c = yes _ _ _ (eq-eqb _ _ c.if-lists-eq0.true) refl

pub returns : goal.returns
unfolding tolerances_of
returns c = no _ _ _ (ne_eqb _ _ c.if-lists-eq0.false) refl
