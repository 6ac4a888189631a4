-- `tried` meets its contract: the matrices made and decomposed, or kept.
use Rattle.state.specs.Memory.{factors}
use Rattle.solve_blocks.proofs.PassLaws.{pass-made, pass_kept}
use Rattle.radau_core.specs.Places.{run_at}
use Rattle.radau_core.proofs.PlaceLaws.{flag-set, flag-clear}
use Rattle.radau_core.proofs.passes.tried.Goals as goal

pub returns-then-words-ne0 : goal.returns-then-words-ne0
returns-then-words-ne0 c = record {
  sized_2 = c.real_tried.ensures.sized_2;
  ip2_after = pass-made (run_at c.args.words.now c.args.doubles.now) _ _ (factors _ _ _ _ _) _ _ _
      (flag-set c.if-words-ne0.true)
      (rw c.mass_mode-mode.ensures at c.built.ensures)
      c.real_tried.ensures.ip2_after;
}

pub returns : goal.returns
returns c = record {
  sized_2 = c.requires.sized;
  ip2_after = pass_kept _ _ _ (factors _ _ _ _ _) (flag-clear c.if-words-ne0.false);
}
