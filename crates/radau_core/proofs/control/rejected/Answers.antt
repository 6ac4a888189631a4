-- `rejected` meets its contract.
use mathlib.Core.Path.{refl}
use lib.ListN.{length-set}
use Rattle.words.proofs.Branch.{yes, no}
use Rattle.solve_blocks.specs.Judge.{rejected_of}
use Rattle.radau_core.proofs.PlaceLaws.{words-at, doubles-at, resized, flag-set, flag-clear}
use Rattle.radau_core.proofs.control.rejected.Goals as goal

pub missed-requires : goal.missed-requires
missed-requires c = resized c.requires.sized refl (simp length-set)

pub missed-requires-2 : goal.missed-requires-2
missed-requires-2 c = resized c.requires.sized (simp length-set) (simp length-set)

pub returns-then-words-ne0 : goal.returns-then-words-ne0
unfolding rejected_of
returns-then-words-ne0 c = record {
  sized_2 = c.missed.ensures.sized;
  doubles_after = yes _ _ _ (flag-set c.if-words-ne0.true)
      (rw (c.missed.ensures.doubles_after, doubles-at c.requires.sized));
}

pub returns : goal.returns
unfolding rejected_of
returns c = record {
  sized_2 = c.missed-2.ensures.sized;
  doubles_after = no _ _ _ (flag-clear c.if-words-ne0.false) (rw (
    c.missed-2.ensures.doubles_after,
    words-at c.requires.sized,
    doubles-at
        c.requires.sized,
  ));
}
