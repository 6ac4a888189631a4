-- `with_stride` meets its contract.
use mathlib.Core.Path.{refl, sym, ◌∙◌}
use Rattle.words.proofs.Branch.{yes, no}
use Rattle.scalar.proofs.Tests.{differs}
use Rattle.solve_blocks.specs.Judge.{with_stride}
use Rattle.radau_core.proofs.notes.with_stride.Goals as goal

pub returns-then-stride : goal.returns-then-stride
unfolding with_stride
returns-then-stride c = rw c.in-None.is (yes _ _ _ (sym (differs _) ∙ c.if-stride.true) refl)

pub returns-else-stride : goal.returns-else-stride
unfolding with_stride
returns-else-stride c = rw c.in-None.is (no _ _ _ (sym (differs _) ∙ c.if-stride.false) refl)

pub returns-in-Some : goal.returns-in-Some
unfolding with_stride
returns-in-Some c = rw (c.max.ensures, c.min.ensures, c.in-Some.is)
