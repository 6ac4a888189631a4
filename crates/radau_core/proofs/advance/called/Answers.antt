-- `called` meets its contract, by the four steps past the matrices.
use mathlib.Core.Path.{ap, ◌∙◌}
use Rattle.state.specs.declared.run.Run.{Run}
use Rattle.state.specs.Lent.{memory_of}
use Rattle.solve_blocks.specs.Advance.{called}
use Rattle.solve_blocks.proofs.AdvanceLaws.{called-asked, called-main, called-matrices, called-attempt}
use Rattle.solve_blocks.proofs.AdvanceLaws.{main-fits, matrices-fits, attempt-fits, jacobian-asks, attempt-asks}
use Rattle.radau_core.specs.declared.step.Step.{Step}
use Rattle.radau_core.specs.Places.{run_at, call_at, step_at}
use Rattle.radau_core.proofs.advance.called.Goals as goal

pub ask_jacobian-requires : goal.ask_jacobian-requires
ask_jacobian-requires c =
    let run-at : Run = run_at c.args.words.now c.args.doubles.now in
    record {
      sized = c.requires.sized;
      words_bound = jacobian-asks (main-fits (ap (λ (s : Step). step_at s run-at) c.in-Main.is)
          c.requires.step_fit.0)
          c.requires.y_perturbed_len.0 c.requires.y_perturbed_len.1 c.requires.y_perturbed_len.2;
    }

pub ask_jacobian-requires-in-Matrices : goal.ask_jacobian-requires-in-Matrices
ask_jacobian-requires-in-Matrices c =
    let run-at : Run = run_at c.args.words.now c.args.doubles.now in
    record {
      sized = c.requires.sized;
      words_bound = jacobian-asks (matrices-fits (ap (λ (s : Step). step_at s run-at) c.in-Matrices.is)
          c.requires.step_fit.0)
          c.requires.y_perturbed_len.0 c.requires.y_perturbed_len.1 c.requires.y_perturbed_len.2;
    }

pub attempt-requires : goal.attempt-requires
attempt-requires c =
    let run-at : Run = run_at c.args.words.now c.args.doubles.now in
    let others = attempt-asks (attempt-fits (ap (λ (s : Step). step_at s run-at) c.in-Attempt.is)
    c.requires.step_fit.0)
    c.requires.step_fit.1 c.requires.step_fit.2 c.requires.step_fit.3 in
    record {
      sized = c.requires.sized;
      fit = others.0;
      y_len = others.1;
    }

pub returns-in-Asked-clause-f_origin_after : goal.returns-in-Asked-clause-f_origin_after
returns-in-Asked-clause-f_origin_after c = λ f0 rtol atol mass.
    let a = c.args in
    let run-at : Run = run_at a.words.now a.doubles.now in
    called-asked (step_at a.step run-at) (memory_of a.y.now f0 rtol atol mass a.work.now)
    _ (ap (λ (s : Step). step_at s run-at) c.in-Asked.is)

pub returns-in-Main-clause-f_origin_after : goal.returns-in-Main-clause-f_origin_after
returns-in-Main-clause-f_origin_after c = λ f0 rtol atol mass.
    let a = c.args in
    let run-at : Run = run_at a.words.now a.doubles.now in
    called-main (step_at a.step run-at) (memory_of a.y.now f0 rtol atol mass a.work.now)
    _ _ _ (ap (λ (s : Step). step_at s run-at) c.in-Main.is) c.ask_jacobian.ensures.f_origin_after

pub returns-in-Matrices-clause-f_origin_after : goal.returns-in-Matrices-clause-f_origin_after
returns-in-Matrices-clause-f_origin_after c = λ f0 rtol atol mass.
    let a = c.args in
    let run-at : Run = run_at a.words.now a.doubles.now in
    called-matrices (step_at a.step run-at) (memory_of a.y.now f0 rtol atol mass a.work.now)
    _ _ _ (ap (λ (s : Step). step_at s run-at) c.in-Matrices.is)
    c.ask_jacobian-in-Matrices.ensures.f_origin_after

pub returns-in-Attempt-clause-f_origin_after : goal.returns-in-Attempt-clause-f_origin_after
returns-in-Attempt-clause-f_origin_after c = λ f0 rtol atol mass.
    let a = c.args in
    let run-at : Run = run_at a.words.now a.doubles.now in
    ap (called (call_at c.attempt.result (run_at c.attempt.new.words c.attempt.new.doubles)))
    (c.attempt.ensures.kept f0 rtol atol mass)
    ∙ called-attempt (step_at a.step run-at) (memory_of a.y.now f0 rtol atol mass a.work.now)
    _ _ _ _ _ (ap (λ (s : Step). step_at s run-at) c.in-Attempt.is) c.attempt.ensures.f3_after
