-- `conclude` meets its contract, by the three ways out of a round.
use mathlib.Core.Path.{ap, ◌∙◌}
use Rattle.state.specs.declared.run.Run.{Run}
use Rattle.state.specs.Lent.{memory_of}
use Rattle.solve_blocks.specs.Advance.{stepped}
use Rattle.solve_blocks.proofs.AdvanceLaws.{conclude-again, conclude-estimates, conclude-over}
use Rattle.solve_blocks.proofs.AdvanceLaws.{newton-fits, estimate-fits, again-asks, estimate-asks}
use Rattle.radau_core.specs.declared.step.Round.{Round}
use Rattle.radau_core.specs.Places.{run_at, step_at, round_at}
use Rattle.radau_core.proofs.advance.conclude.Goals as goal

pub again-requires : goal.again-requires
again-requires c =
    let run-at : Run = run_at c.args.words.now c.args.doubles.now in
    let others = again-asks (newton-fits (ap (λ (v : Round). round_at v run-at) c.in-Newton.is)
    c.requires.round_fit.0)
    c.requires.z1_len.0 c.requires.round_fit.4 in
    record {
      sized = c.requires.sized;
      fit = others.0;
      y_len = others.1;
    }

pub estimate-requires : goal.estimate-requires
estimate-requires c =
    let run-at : Run = run_at c.args.words.now c.args.doubles.now in
    let others = estimate-asks
    (estimate-fits (ap (λ (v : Round). round_at v run-at) c.in-Estimate.is) c.requires.round_fit.0)
    c.requires.round_fit.1 c.requires.round_fit.2 c.requires.round_fit.3 c.requires.round_fit.4 c.requires.z1_len in
    record {
      sized = c.requires.sized;
      fit = others.0;
      z1_len = others.1;
    }

pub returns-in-Newton-clause-d_after : goal.returns-in-Newton-clause-d_after
returns-in-Newton-clause-d_after c = λ rtol atol.
    let a = c.args in
    let run-at : Run = run_at a.words.now a.doubles.now in
    conclude-again (round_at a.verdict run-at) (memory_of a.y.now a.f0.now rtol atol a.mass.now a.work.now)
    _ _ _ (ap (λ (v : Round). round_at v run-at) c.in-Newton.is) c.again.ensures.cont_after

pub returns-in-Estimate-clause-d_after : goal.returns-in-Estimate-clause-d_after
returns-in-Estimate-clause-d_after c = λ rtol atol.
    let a = c.args in
    let run-at : Run = run_at a.words.now a.doubles.now in
    ap (stepped (step_at c.estimate.result (run_at c.estimate.new.words c.estimate.new.doubles)))
    (c.estimate.ensures.kept rtol atol)
    ∙ conclude-estimates (round_at a.verdict run-at) (memory_of a.y.now a.f0.now rtol atol a.mass.now a.work.now)
    _ _ _ _ _ _ (ap (λ (v : Round). round_at v run-at) c.in-Estimate.is) c.estimate.ensures.f2_after

pub returns-in-Over-clause-d_after : goal.returns-in-Over-clause-d_after
returns-in-Over-clause-d_after c = λ rtol atol.
    let a = c.args in
    let run-at : Run = run_at a.words.now a.doubles.now in
    conclude-over (round_at a.verdict run-at) (memory_of a.y.now a.f0.now rtol atol a.mass.now a.work.now)
    _ (ap (λ (v : Round). round_at v run-at) c.in-Over.is)
