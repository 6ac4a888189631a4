-- `predictive_quot` meets its contract.
use mathlib.Core.Path.{refl}
use Rattle.words.proofs.Branch.{yes, no}
use Rattle.solve_blocks.specs.Judge.{predictive_quot}
use Rattle.radau_core.proofs.control.predictive_quot.Goals as goal

pub returns-then-words : goal.returns-then-words
unfolding predictive_quot
returns-then-words c = yes _ _ _ c.if-words.true (rw (c.max.ensures, c.between.ensures, c.quarter.ensures))

pub returns : goal.returns
unfolding predictive_quot
returns c = no _ _ _ c.if-words.false refl
