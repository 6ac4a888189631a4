-- `remembered` meets its contract.
use mathlib.Core.Path.{refl}
use lib.ListN.{length-set}
use Rattle.words.proofs.Branch.{yes, no}
use Rattle.radau_core.proofs.PlaceLaws.{doubles-at, resized, flag-set, flag-clear}
use Rattle.radau_core.proofs.control.remembered.Goals as goal

pub returns-then-words-ne0 : goal.returns-then-words-ne0
returns-then-words-ne0 c = record {
  sized = resized c.requires refl (simp length-set);
  doubles_after = yes _ _ _ (flag-set c.if-words-ne0.true) (rw (doubles-at c.requires, c.max.ensures));
}

pub returns-else-words-ne0 : goal.returns-else-words-ne0
returns-else-words-ne0 c = record {
  sized = c.requires;
  doubles_after = no _ _ _ (flag-clear c.if-words-ne0.false) refl;
}
