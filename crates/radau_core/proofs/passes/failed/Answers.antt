-- `failed` meets its contract: the sixth failure ends the run, another halves the step.
use mathlib.Core.Path.{refl}
use borrow.Author.Tests.{lt-ltb, le-ltb}
use lib.ListN.{length-set}
use Rattle.words.proofs.Branch.{yes, no}
use Rattle.solve_blocks.specs.Matrices.{failed_of}
use Rattle.radau_core.proofs.PlaceLaws.{words-at, doubles-at, resized}
use Rattle.radau_core.proofs.passes.failed.Goals as goal

pub ended-requires : goal.ended-requires
ended-requires c = resized c.requires.sized (simp length-set) refl

pub missed-requires : goal.missed-requires
missed-requires c = resized c.requires.sized (simp length-set) (simp length-set)

pub returns-then-singular_count-gt5 : goal.returns-then-singular_count-gt5
unfolding failed_of
returns-then-singular_count-gt5 c = record {
  sized_2 = c.ended.ensures.sized;
  doubles_after = yes _ _ _ (lt-ltb _ _ c.if-singular_count-gt5.true)
      (rw (c.ended.ensures.doubles_after, words-at c.requires.sized));
}

pub returns : goal.returns
unfolding failed_of
returns c = record {
  sized_2 = c.missed.ensures.sized;
  doubles_after = no _ _ _ (le-ltb _ _ c.if-singular_count-gt5.false) (rw (
    c.missed.ensures.doubles_after,
    words-at c.requires.sized,
    doubles-at
        c.requires.sized,
  ));
}
