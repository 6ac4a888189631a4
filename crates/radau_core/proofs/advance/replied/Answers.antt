-- `replied` meets its contract, stage by stage.
use Prim.Native.Nat.{ℕ, ◌*◌}
use mathlib.Core.Path.{◌≡◌, ap, sym, ◌∙◌}
use native.Mathlib.Omega.{arith}
use lib.ListN.{length}
use Rattle.state.specs.declared.run.Run.{Run}
use Rattle.state.specs.declared.run.Stage.TheVariants.{FirstDerivativeAgain}
use Rattle.state.specs.Memory.{Memory}
use Rattle.state.specs.Lent.{memory_of, newton_in}
use Rattle.solve_blocks.specs.Advance.{stepped, conclude_of}
use Rattle.solve_blocks.proofs.AdvanceLaws.{first-derivative, first-report, first-again, jacobian-made}
use Rattle.solve_blocks.proofs.AdvanceLaws.{column-made, newton-1, newton-2, newton-3, refinement}
use Rattle.solve_blocks.proofs.AdvanceLaws.{accepted-there, report-answered, derivative-again, ended-already}
use Rattle.solve_blocks.proofs.RepliedLaws.{heard-asks, again-heard, round-asks, column-asks, square-at}
use Rattle.radau_core.specs.Places.{◌#◌, run_at, call_at, step_at, round_at, heard_at}
use Rattle.radau_core.proofs.PlaceLaws as place
use Rattle.radau_core.proofs.advance.replied.Goals as goal

same : (a b n : ℕ) → a ≡ n → b ≡ n → a ≡ b
same a b n e f = e ∙ sym f

four : (a b n : ℕ) → a ≡ 4 * n → b ≡ n → a ≡ 4 * b
four a b n e f = omega (arith, e, f)

pub reported-heard-requires : goal.reported-heard-requires
reported-heard-requires c = record {
  sized = c.requires.sized;
  doubles_bound = omega (arith, c.requires.fit.0);
}

pub started-requires : goal.started-requires
started-requires c = let a = c.args in
    let n = a.words.now # 16 in
    let y = length a.y.now in (
      heard-asks c.requires.fit.0 FirstDerivativeAgain a.reply y c.reported-heard.ensures.doubles_after
          c.requires.memory_long.y,
      same (length a.rtol.now) y n c.requires.memory_long.rtol c.requires.memory_long.y,
      same (length a.atol.now) y n c.requires.memory_long.atol c.requires.memory_long.y,
      same (length a.work.now.scal.now) y n c.requires.memory_long.scal c.requires.memory_long.y,
    )

pub started-requires-in-2 : goal.started-requires-in-2
started-requires-in-2 c = let a = c.args in
    let n = a.words.now # 16 in
    let y = length a.y.now in (
      again-heard c.requires.fit.0 y c.requires.memory_long.y,
      same (length a.rtol.now) y n c.requires.memory_long.rtol c.requires.memory_long.y,
      same (length a.atol.now) y n c.requires.memory_long.atol c.requires.memory_long.y,
      same (length a.work.now.scal.now) y n c.requires.memory_long.scal c.requires.memory_long.y,
    )

pub column-requires : goal.column-requires
column-requires c =
    let part_at : ℕ = c.args.words.now # 1 in
    record {
      sized = c.requires.sized;
      bound = (
        c.requires.fit.0.low,
        column-asks c.requires.fit.1 (place.at-column part_at c.in-4.is),
        c.requires.memory_long.y,
        c.requires.memory_long.y_perturbed,
        c.requires.memory_long.f_perturbed,
        c.requires.memory_long.f_origin,
        c.requires.memory_long.jac,
      );
    }

pub ask_stage-requires : goal.ask_stage-requires
ask_stage-requires c = record {
  sized = c.requires.sized;
  fit = omega (arith, c.requires.fit.0);
  y_len = (c.requires.memory_long.y, c.requires.memory_long.newton.z2, c.requires.memory_long.cont);
}

pub ask_stage-requires-in-6 : goal.ask_stage-requires-in-6
ask_stage-requires-in-6 c = record {
  sized = c.requires.sized;
  fit = omega (arith, c.requires.fit.0);
  y_len = (c.requires.memory_long.y, c.requires.memory_long.newton.z3, c.requires.memory_long.cont);
}

pub round-verdict-requires : goal.round-verdict-requires
round-verdict-requires c = record {
  sized = c.requires.sized;
  fit = (
    omega (arith, c.requires.fit.0),
    c.requires.fit.1.rounds,
    c.requires.memory_long.mass,
    c.requires.memory_long.scal,
  );
  newton_long = c.requires.memory_long.newton;
}

pub conclude-requires : goal.conclude-requires
conclude-requires c =
    let memory-at : Memory = let a = c.args in
    memory_of a.y.now a.f0.now a.rtol.now a.atol.now a.mass.now a.work.now in
    let a = c.args in
    let n = a.words.now # 16 in
    let y = length a.y.now in
    let w = c.round-verdict.new.work in
    let l = c.round-verdict.ensures.lengths in
    record {
      sized = c.round-verdict.ensures.sized_2;
      round_fit = (
        round-asks c.requires.fit.0 a.mass.now a.work.now.scal.now memory-at.factors memory-at.newton y
            c.requires.fit.1.rounds c.round-verdict.ensures.f3_after c.requires.memory_long.y,
        square-at {a = a.mass.now} y c.requires.memory_long.y c.requires.memory_long.mass,
        same (length a.f0.now) y n c.requires.memory_long.f0 c.requires.memory_long.y,
        same (length w.scal.now) y n (l.0 ∙ c.requires.memory_long.scal) c.requires.memory_long.y,
        four (length w.cont.now) y n (l.1 ∙ c.requires.memory_long.cont) c.requires.memory_long.y,
      );
      z1_len = (
        same (length w.z1.now) y n (l.2 ∙ c.requires.memory_long.newton.z1) c.requires.memory_long.y,
        same (length w.z2.now) y n (l.3 ∙ c.requires.memory_long.newton.z2) c.requires.memory_long.y,
        same (length w.z3.now) y n (l.4 ∙ c.requires.memory_long.newton.z3) c.requires.memory_long.y,
        same (length w.f1.now) y n (l.5 ∙ c.requires.memory_long.newton.f1) c.requires.memory_long.y,
        same (length w.f2.now) y n (l.6 ∙ c.requires.memory_long.newton.f2) c.requires.memory_long.y,
      );
    }

pub refined-requires : goal.refined-requires
refined-requires c = record {
  sized = c.requires.sized;
  fit = (
    omega (arith, c.requires.fit.0),
    c.requires.memory_long.scal,
    c.requires.memory_long.y,
    c.requires.memory_long.cont,
  );
  z1_len = (
    c.requires.memory_long.newton.z1,
    c.requires.memory_long.newton.z2,
    c.requires.memory_long.newton.z3,
    c.requires.memory_long.newton.f1,
    c.requires.memory_long.newton.f2,
  );
}

pub scaled-requires : goal.scaled-requires
scaled-requires c = (
  c.requires.memory_long.rtol,
  c.requires.memory_long.atol,
  c.requires.memory_long.y,
  c.requires.memory_long.scal,
)

pub ask_report-requires : goal.ask_report-requires
ask_report-requires c = c.requires.sized

pub reported-heard-requires-in-10 : goal.reported-heard-requires-in-10
reported-heard-requires-in-10 c = record {
  sized = c.requires.sized;
  doubles_bound = omega (arith, c.requires.fit.0);
}

pub returned-requires : goal.returned-requires
returned-requires c = c.reported-heard-in-10.ensures.sized_2

pub arrived-requires : goal.arrived-requires
arrived-requires c = c.requires.sized

pub ended-requires : goal.ended-requires
ended-requires c = c.requires.sized

pub ask_first_report-requires : goal.ask_first_report-requires
ask_first_report-requires c = c.requires.sized

pub returns-in-1-clause-f_origin_after : goal.returns-in-1-clause-f_origin_after
returns-in-1-clause-f_origin_after c =
    let run-at : Run = run_at c.args.words.now c.args.doubles.now in
    let memory-at : Memory = let a = c.args in
    memory_of a.y.now a.f0.now a.rtol.now a.atol.now a.mass.now a.work.now in
    let part_at : ℕ = c.args.words.now # 1 in
    let a = c.args in first-report run-at c.args.reply memory-at (heard_at c.reported-heard.result
    (run_at c.reported-heard.new.words c.reported-heard.new.doubles)) _
    (place.at-first-report part_at c.in-1.is) c.reported-heard.ensures.doubles_after
    (c.started.ensures a.f0.now a.work.now.cont.now a.mass.now a.work.now.jac.now
    memory-at.newton memory-at.factors memory-at.differences)

pub returns-in-2-clause-f_origin_after : goal.returns-in-2-clause-f_origin_after
returns-in-2-clause-f_origin_after c =
    let run-at : Run = run_at c.args.words.now c.args.doubles.now in
    let memory-at : Memory = let a = c.args in
    memory_of a.y.now a.f0.now a.rtol.now a.atol.now a.mass.now a.work.now in
    let part_at : ℕ = c.args.words.now # 1 in
    let a = c.args in first-again run-at c.args.reply memory-at _ (place.at-first-derivative-again part_at c.in-2.is)
    (c.started-in-2.ensures a.f0.now a.work.now.cont.now a.mass.now a.work.now.jac.now
    memory-at.newton memory-at.factors memory-at.differences)

pub returns-in-3-clause-f_origin_after : goal.returns-in-3-clause-f_origin_after
returns-in-3-clause-f_origin_after c =
    let run-at : Run = run_at c.args.words.now c.args.doubles.now in
    let memory-at : Memory = let a = c.args in
    memory_of a.y.now a.f0.now a.rtol.now a.atol.now a.mass.now a.work.now in
    let part_at : ℕ = c.args.words.now # 1 in
    jacobian-made run-at c.args.reply memory-at (place.at-jacobian part_at c.in-3.is)

pub returns-in-4-clause-f_origin_after : goal.returns-in-4-clause-f_origin_after
returns-in-4-clause-f_origin_after c =
    let run-at : Run = run_at c.args.words.now c.args.doubles.now in
    let memory-at : Memory = let a = c.args in
    memory_of a.y.now a.f0.now a.rtol.now a.atol.now a.mass.now a.work.now in
    let part_at : ℕ = c.args.words.now # 1 in
    column-made run-at c.args.reply memory-at _ (step_at c.column.result (run_at
    c.column.new.words c.column.new.doubles))
    c.column.new.y_perturbed c.column.new.jac (place.at-column
    part_at c.in-4.is) c.column.ensures.jac_after

pub returns-in-5-clause-f_origin_after : goal.returns-in-5-clause-f_origin_after
returns-in-5-clause-f_origin_after c =
    let run-at : Run = run_at c.args.words.now c.args.doubles.now in
    let memory-at : Memory = let a = c.args in
    memory_of a.y.now a.f0.now a.rtol.now a.atol.now a.mass.now a.work.now in
    let part_at : ℕ = c.args.words.now # 1 in
    newton-1 run-at c.args.reply memory-at (call_at c.ask_stage.result
    (run_at c.ask_stage.new.words c.ask_stage.new.doubles))
    c.ask_stage.new.cont (place.at-newton-1 part_at c.in-5.is) c.ask_stage.ensures.cont_after

pub returns-in-6-clause-f_origin_after : goal.returns-in-6-clause-f_origin_after
returns-in-6-clause-f_origin_after c =
    let run-at : Run = run_at c.args.words.now c.args.doubles.now in
    let memory-at : Memory = let a = c.args in
    memory_of a.y.now a.f0.now a.rtol.now a.atol.now a.mass.now a.work.now in
    let part_at : ℕ = c.args.words.now # 1 in
    newton-2 run-at c.args.reply memory-at (call_at c.ask_stage-in-6.result
    (run_at c.ask_stage-in-6.new.words c.ask_stage-in-6.new.doubles))
    c.ask_stage-in-6.new.cont (place.at-newton-2 part_at c.in-6.is) c.ask_stage-in-6.ensures.cont_after

pub returns-in-7-clause-f_origin_after : goal.returns-in-7-clause-f_origin_after
returns-in-7-clause-f_origin_after c =
    let run-at : Run = run_at c.args.words.now c.args.doubles.now in
    let memory-at : Memory = let a = c.args in
    memory_of a.y.now a.f0.now a.rtol.now a.atol.now a.mass.now a.work.now in
    let part_at : ℕ = c.args.words.now # 1 in
    let a = c.args in
    let v = round_at c.round-verdict.result (run_at c.round-verdict.new.words c.round-verdict.new.doubles) in
    newton-3 run-at a.reply memory-at v (newton_in c.round-verdict.new.work)
    _ (place.at-newton-3 part_at c.in-7.is) c.round-verdict.ensures.f3_after
    (c.conclude.ensures.d_after a.rtol.now a.atol.now
    ∙ ap (λ (m : Memory). (conclude_of v m).core)
    (c.round-verdict.ensures.kept a.y.now a.f0.now a.rtol.now a.atol.now))

pub returns-in-8-clause-f_origin_after : goal.returns-in-8-clause-f_origin_after
returns-in-8-clause-f_origin_after c =
    let run-at : Run = run_at c.args.words.now c.args.doubles.now in
    let memory-at : Memory = let a = c.args in
    memory_of a.y.now a.f0.now a.rtol.now a.atol.now a.mass.now a.work.now in
    let part_at : ℕ = c.args.words.now # 1 in
    let a = c.args in
    let s = step_at c.refined.result (run_at c.refined.new.words c.refined.new.doubles) in
    ap (stepped s) (c.refined.ensures.kept a.f0.now a.rtol.now a.atol.now a.mass.now)
    ∙ refinement run-at a.reply memory-at s c.refined.new.y c.refined.new.work.cont.now
    (place.at-refinement part_at c.in-8.is) c.refined.ensures.cont_after

pub returns-in-9-clause-f_origin_after : goal.returns-in-9-clause-f_origin_after
returns-in-9-clause-f_origin_after c =
    let run-at : Run = run_at c.args.words.now c.args.doubles.now in
    let memory-at : Memory = let a = c.args in
    memory_of a.y.now a.f0.now a.rtol.now a.atol.now a.mass.now a.work.now in
    let part_at : ℕ = c.args.words.now # 1 in
    accepted-there run-at c.args.reply memory-at
    (call_at c.ask_report.result (run_at c.ask_report.new.words c.ask_report.new.doubles))
    c.scaled.new.scal (place.at-accepted part_at c.in-9.is) c.ask_report.ensures.doubles_after
    (rw c.tolerances_at-tolerances.ensures at c.scaled.ensures)

pub returns-in-10-clause-f_origin_after : goal.returns-in-10-clause-f_origin_after
returns-in-10-clause-f_origin_after c =
    let run-at : Run = run_at c.args.words.now c.args.doubles.now in
    let memory-at : Memory = let a = c.args in
    memory_of a.y.now a.f0.now a.rtol.now a.atol.now a.mass.now a.work.now in
    let part_at : ℕ = c.args.words.now # 1 in
    report-answered run-at c.args.reply memory-at
    (heard_at c.reported-heard-in-10.result
    (run_at c.reported-heard-in-10.new.words c.reported-heard-in-10.new.doubles))
    (step_at c.returned.result (run_at c.returned.new.words c.returned.new.doubles)) (place.at-report
    part_at c.in-10.is) c.reported-heard-in-10.ensures.doubles_after c.returned.ensures.doubles_after

pub returns-in-11-clause-f_origin_after : goal.returns-in-11-clause-f_origin_after
returns-in-11-clause-f_origin_after c =
    let run-at : Run = run_at c.args.words.now c.args.doubles.now in
    let memory-at : Memory = let a = c.args in
    memory_of a.y.now a.f0.now a.rtol.now a.atol.now a.mass.now a.work.now in
    let part_at : ℕ = c.args.words.now # 1 in
    derivative-again run-at c.args.reply memory-at
    (step_at c.arrived.result (run_at c.arrived.new.words c.arrived.new.doubles))
    (place.at-derivative-again part_at c.in-11.is) c.arrived.ensures.doubles_after

pub returns-in-12-clause-f_origin_after : goal.returns-in-12-clause-f_origin_after
returns-in-12-clause-f_origin_after c =
    let run-at : Run = run_at c.args.words.now c.args.doubles.now in
    let memory-at : Memory = let a = c.args in
    memory_of a.y.now a.f0.now a.rtol.now a.atol.now a.mass.now a.work.now in
    let part_at : ℕ = c.args.words.now # 1 in
    ended-already run-at c.args.reply memory-at _
    (call_at c.ended.result (run_at c.ended.new.words c.ended.new.doubles))
    (place.at_ended part_at c.in-12.is) (rw c.status_at-status.ensures at c.ended.ensures.doubles_after)

pub returns-in_default-clause-f_origin_after : goal.returns-in_default-clause-f_origin_after
returns-in_default-clause-f_origin_after c =
    let run-at : Run = run_at c.args.words.now c.args.doubles.now in
    let memory-at : Memory = let a = c.args in
    memory_of a.y.now a.f0.now a.rtol.now a.atol.now a.mass.now a.work.now in
    let part_at : ℕ = c.args.words.now # 1 in
    first-derivative run-at c.args.reply memory-at (call_at c.ask_first_report.result
    (run_at c.ask_first_report.new.words c.ask_first_report.new.doubles))
    (place.at-first-derivative part_at (omega arith)
    (omega arith) (omega arith) (omega arith) (omega arith)
    (omega arith) (omega arith) (omega arith) (omega arith) (omega arith) (omega arith) (omega arith))
    c.ask_first_report.ensures.doubles_after
