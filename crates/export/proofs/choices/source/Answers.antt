-- `source` meets its contract.
use mathlib.Core.Path.{refl}
use borrow.Author.Tests.{eq-eqb, ne_eqb}
use Rattle.words.proofs.Branch.{yes, no}
use Rattle.radau_core.specs.Choices.{source_of}
use Rattle.export.proofs.choices.source.Goals as goal

pub returns-then-word-eq0 : goal.returns-then-word-eq0
unfolding source_of
returns-then-word-eq0 c = yes _ _ _ (eq-eqb _ _ c.if-word-eq0.true) refl

pub returns : goal.returns
unfolding source_of
returns c = no _ _ _ (ne_eqb _ _ c.if-word-eq0.false) refl
