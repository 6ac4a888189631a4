-- `passes` meets its contract: its loop is the definition's without the events, left early where
-- no other pass is wanted.
use mathlib.Core.Path.{refl, sym, ◌∙◌}
use native.Mathlib.Omega.{arith}
use borrow.Author.Tests.{not-true, not-false}
use Rattle.words.proofs.Loops.{begun}
use Rattle.solve_blocks.proofs.PassLaws.{passes-turned, passes-stopped, passes-ended}
use Rattle.solve_blocks.proofs.FitLaws.{next-fit, pass-asks}
use Rattle.radau_core.proofs.PlaceLaws.{run-back}
use Rattle.radau_core.proofs.passes.passes.Goals as goal

pub loop-init : goal.loop-init
loop-init c = (c.requires.sized, begun (omega arith) c.requires.square.2 refl)

pub returns-then-not-passes_on : goal.returns-then-not-passes_on
returns-then-not-passes_on c = record {
  sized_2 = c.loop.invariant.0;
  ip2_after = passes-stopped _ _ c.loop.invariant.1 (omega arith)
      (sym (c.passes_on.ensures c.loop.doubles) ∙ not-true c.passes_on.result c.if-not-passes_on.true-raw);
}

pub tried-s-requires : goal.tried-s-requires
tried-s-requires c = let others = pass-asks (next-fit _ _ _ c.loop.invariant.1 c.requires.step_fit (omega arith)
    (sym (c.passes_on.ensures c.loop.doubles) ∙ not-false c.passes_on.result c.if-not-passes_on.false-raw)
    (sym (run-back c.loop.s _)))
    c.requires.square.0 c.requires.square.1 c.loop.invariant.1.kept in
    record {
      sized = c.loop.invariant.0;
      fit = others.0;
      square = others.1;
    }

pub loop-preserved : goal.loop-preserved
loop-preserved c = (
  c.tried-s.ensures.sized_2,
  passes-turned _ _ c.loop.invariant.1 (omega arith)
      (sym (c.passes_on.ensures c.loop.doubles) ∙ not-false c.passes_on.result c.if-not-passes_on.false-raw)
      (sym (run-back c.loop.s _))
      (omega (arith, c.loop.invariant.1.kept, c.tried-s.auto)) c.tried-s.ensures.ip2_after,
)

pub returns : goal.returns
returns c = record {
  sized_2 = c.loop.invariant.0;
  ip2_after = passes-ended _ _ c.loop.invariant.1 c.loop-test.false;
}
