-- `again` meets its contract.
use mathlib.Core.Path.{ap}
use native.Mathlib.Omega.{arith}
use borrow.Author.Tests.{le-leb, lt-leb}
use Rattle.solve_blocks.specs.declared.step.Step.{Step}
use Rattle.solve_blocks.specs.declared.step.Step.TheVariants as step
use Rattle.solve_blocks.specs.Attempt.{Staged}
use Rattle.solve_blocks.specs.Newton.{resumed, again_of}
use Rattle.solve_blocks.proofs.LogLaws.{core-yes, core-no}
use Rattle.radau_core.proofs.round.again.Goals as goal

pub failed-requires : goal.failed-requires
failed-requires c = record {
  sized = c.requires.sized;
  singular_count_bound = c.requires.fit.failures;
}

pub ask_first-requires : goal.ask_first-requires
ask_first-requires c = record {
  sized = c.requires.sized;
  fit = c.requires.fit;
  y_len = c.requires.y_len;
}

pub shape_of-cont : goal.shape_of-cont
shape_of-cont c = omega (arith, c.ask_first.auto)

pub returns-then-words : goal.returns-then-words
unfolding again_of
returns-then-words c = record {
  sized_2 = c.failed.ensures.sized_2;
  cont_after = core-yes _ _ (le-leb _ _ c.if-words.true)
      (ap (λ (s : Step). resumed s c.args.cont.now) c.failed.ensures.doubles_after);
}

pub returns : goal.returns
unfolding again_of
returns c = record {
  sized_2 = c.ask_first.ensures.sized_2;
  cont_after = core-no _ _ (lt-leb _ _ c.if-words.false)
      (ap (λ (s : Staged). resumed (step.Asked s.call) s.cont) c.ask_first.ensures.cont_after);
}
