-- `advanced` meets its contract: a reply, the matrices and the next call.
use mathlib.Core.Path.{ap, ◌∙◌}
use Rattle.state.specs.declared.run.Run.{Run}
use Rattle.state.specs.Memory.{Memory, Factors, factors}
use Rattle.state.specs.Lent.{memory_of}
use Rattle.solve_blocks.specs.Advance.{stepped}
use Rattle.solve_blocks.proofs.RepliedLaws.{replied-fit, step_less, passed-fit, called-asks}
use Rattle.radau_core.specs.declared.step.Step.{Step}
use Rattle.radau_core.specs.Places.{◌#◌, run_at, call_at, step_at}
use Rattle.radau_core.proofs.CoreLaws.{advanced-by, advanced-asked, square-kept}
use Rattle.radau_core.proofs.advance.advanced.Goals as goal

pub replied-step-requires : goal.replied-step-requires
replied-step-requires c = record {
  sized = c.requires.sized;
  fit = c.requires.fit;
  memory_long = c.requires.memory_long;
}

pub passes-past-requires : goal.passes-past-requires
passes-past-requires c =
    let run-at : Run = run_at c.args.words.now c.args.doubles.now in
    let memory-at : Memory = let a = c.args in
    memory_of a.y.now a.f0.now a.rtol.now a.atol.now a.mass.now a.work.now in
    let n = c.args.words.now # 16 in
    record {
      sized = c.replied-step.ensures.sized_2;
      step_fit = step_less n
          (step_at c.replied-step.result (run_at c.replied-step.new.words c.replied-step.new.doubles))
          (replied-fit n memory-at c.args.reply run-at c.requires.fit.0 c.requires.fit.1.rounds _
          c.replied-step.ensures.f_origin_after);
      square = (
        c.requires.memory_long.mass,
        square-kept c.replied-step.ensures.lengths.8 c.requires.memory_long.jac,
        (record {
          e1 = square-kept c.replied-step.ensures.lengths.9 c.requires.memory_long.factors.e1;
          e2r = square-kept c.replied-step.ensures.lengths.10 c.requires.memory_long.factors.e2r;
          e2i = square-kept c.replied-step.ensures.lengths.11 c.requires.memory_long.factors.e2i;
          ip1 = c.replied-step.ensures.lengths.12 ∙ c.requires.memory_long.factors.ip1;
          ip2 = c.replied-step.ensures.lengths.13 ∙ c.requires.memory_long.factors.ip2;
        }),
      );
    }

pub called-requires : goal.called-requires
called-requires c =
    let run-at : Run = run_at c.args.words.now c.args.doubles.now in
    let memory-at : Memory = let a = c.args in
    memory_of a.y.now a.f0.now a.rtol.now a.atol.now a.mass.now a.work.now in
    let n = c.args.words.now # 16 in
    let s = step_at c.passes-past.result (run_at c.passes-past.new.words c.passes-past.new.doubles)
    in let others = called-asks {n = n} s
    (passed-fit n (step_at c.replied-step.result (run_at c.replied-step.new.words c.replied-step.new.doubles)) s _ _ _ _
    (replied-fit n memory-at c.args.reply run-at c.requires.fit.0 c.requires.fit.1.rounds _
    c.replied-step.ensures.f_origin_after)
    c.passes-past.ensures.ip2_after)
    (c.replied-step.auto.y ∙ c.requires.memory_long.y)
    (c.replied-step.ensures.lengths.0 ∙ c.requires.memory_long.scal)
    (c.replied-step.ensures.lengths.1 ∙ c.requires.memory_long.cont)
    (record {
      z1 = c.replied-step.ensures.lengths.2 ∙ c.requires.memory_long.newton.z1;
      z2 = c.replied-step.ensures.lengths.3 ∙ c.requires.memory_long.newton.z2;
      z3 = c.replied-step.ensures.lengths.4 ∙ c.requires.memory_long.newton.z3;
      f1 = c.replied-step.ensures.lengths.5 ∙ c.requires.memory_long.newton.f1;
      f2 = c.replied-step.ensures.lengths.6 ∙ c.requires.memory_long.newton.f2;
      f3 = c.replied-step.ensures.lengths.7 ∙ c.requires.memory_long.newton.f3;
    })
    (c.replied-step.ensures.lengths.14 ∙ c.requires.memory_long.y_perturbed)
    (c.replied-step.ensures.lengths.15 ∙ c.requires.memory_long.f_perturbed)
    (c.replied-step.ensures.lengths.16 ∙ c.requires.memory_long.f_origin) in
    record {
      sized = c.passes-past.ensures.sized_2;
      step_fit = others.0;
      y_perturbed_len = others.1;
    }

pub returns-in-Asked-clause-f_origin_after : goal.returns-in-Asked-clause-f_origin_after
returns-in-Asked-clause-f_origin_after c =
    let a = c.args in
    let run-at : Run = run_at a.words.now a.doubles.now in
    let memory-at : Memory = memory_of a.y.now a.f0.now a.rtol.now a.atol.now a.mass.now a.work.now in
    let m : Memory = memory_of c.replied-step.new.y a.f0.now a.rtol.now a.atol.now a.mass.now c.replied-step.new.work in
    let r = run_at c.replied-step.new.words c.replied-step.new.doubles in
    advanced-asked run-at a.reply memory-at (step_at c.replied-step.result r)
    (call_at _ r) m c.replied-step.ensures.f_origin_after (ap (λ (s : Step). step_at s r) c.in-Asked.is)

pub returns-clause-f_origin_after : goal.returns-clause-f_origin_after
returns-clause-f_origin_after c =
    let a = c.args in
    let run-at : Run = run_at a.words.now a.doubles.now in
    let memory-at : Memory = memory_of a.y.now a.f0.now a.rtol.now a.atol.now a.mass.now a.work.now in
    let m : Memory = memory_of c.replied-step.new.y a.f0.now a.rtol.now a.atol.now a.mass.now c.replied-step.new.work in
    let f : Factors = factors c.passes-past.new.e1 c.passes-past.new.e2r c.passes-past.new.e2i c.passes-past.new.ip1
    c.passes-past.new.ip2 in
    let w : Memory = memory_of m.amounts.y a.f0.now a.rtol.now a.atol.now a.mass.now c.called.new.work in
    advanced-by run-at a.reply memory-at
    (stepped (step_at c.replied-step.result (run_at c.replied-step.new.words c.replied-step.new.doubles)) m)
    (step_at c.passes-past.result (run_at c.passes-past.new.words c.passes-past.new.doubles)) f
    (call_at c.called.result (run_at c.called.new.words c.called.new.doubles)) w
    c.replied-step.ensures.f_origin_after c.passes-past.ensures.ip2_after
    (c.called.ensures.f_origin_after a.f0.now a.rtol.now a.atol.now a.mass.now)
