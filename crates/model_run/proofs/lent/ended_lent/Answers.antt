-- `ended_lent` meets its contract: the loop is `last_of`, left early where nothing more is asked; no turn of it is
-- refused.
use Prim.Native.Nat.{◌+◌}
use mathlib.Core.Path.{◌≡◌, refl, sym, ap, subst, ◌∙◌}
use native.Mathlib.Omega.{arith}
use denote.Bor.{Bor}
use Rattle.std.specs.Prelude.{Option, None, Some, IfSome}
use Rattle.std.specs.Option.{option_copied}
use Rattle.model.specs.declared.planned.Plan.{Plan}
use Rattle.model.specs.Plan.{IsPlanOf}
use Rattle.state.specs.declared.run.Run.{Run}
use Rattle.state.specs.declared.talk.Place.{Place}
use Rattle.state.specs.declared.talk.Request.{Request}
use Rattle.state.specs.Memory.{Memory}
use Rattle.state.specs.Lent.{memory_of, SameWork}
use Rattle.history.specs.History.{Point, point}
use Rattle.radau_core.specs.Places.{run_at}
use Rattle.radau_core.proofs.PackLaws.{held_at, sized-at}
use Rattle.model_run.specs.Host.{answered_by}
use Rattle.model_run.specs.Budget.{Answering, turn_of, last_of, budget, standing, standing_at, NoneRefused}
use Rattle.model_run.proofs.TurnLaws.{going, turned, admits, stopped, spent}
use Rattle.model_run.proofs.lent.ended_lent.Invariants.{Led}
use Rattle.std.proofs.Common.{rules}
use Rattle.model_run.proofs.lent.ended_lent.Goals as goal

-- what the loop ends with is what the contract says
ended : (host : Answering) (m₀ m : Memory) (q : Request) (p : Place) {r r' here here₀ : Run} → r ≡ r'
    → standing r' m ≡ standing_at (last_of host budget (point here q p m₀)) → here ≡ here₀
    → standing r m ≡ standing_at (last_of host budget (point here₀ q p m₀))
ended host m₀ m q p e f h =
    ap (λ (r : Run). standing r m) e
    ∙ f
    ∙ ap (λ (r : Run). standing_at (last_of host budget (point r q p m₀))) h

-- a plan that is lent is still the model's
lent_plan : (lent : Option (Bor Plan)) (plan : Option Plan) (P : Plan → Type 0) → option_copied lent ≡ plan
    → IfSome plan P → IfSome lent (λ p. P p.now)
lent_plan None plan P e h = tt
lent_plan (Some p) plan P e h = subst (λ (o : Option Plan). IfSome o P) (sym e) h

pub loop-init : goal.loop-init
loop-init c =
    let memory-at : Memory = let a = c.args in
    memory_of a.y.now a.f0.now a.rtol.now a.atol.now a.mass.now a.work.now in (
      (refl, refl, refl, refl, refl, refl, refl, refl, refl, refl, refl, refl, refl, refl, refl, refl, refl),
      record {
        sized = sized-at c.args.pending.run c.words_of-words.ensures c.doubles_of-doubles.ensures;
        turns = going _;
      },
    )

pub returns-then-is_end-clause-outcome : goal.returns-then-is_end-clause-outcome
returns-then-is_end-clause-outcome c =
    ended _ _ _ _ _ c.run_at.ensures
    (stopped c.loop.invariant.1.turns (sym c.is_end.ensures ∙ c.if-is_end.true))
    (held_at c.args.pending.run c.words_of-words.ensures c.doubles_of-doubles.ensures)

pub returns-clause-outcome : goal.returns-clause-outcome
returns-clause-outcome c =
    ended _ _ _ _ _ c.run_at-2.ensures (spent c.loop.invariant.1.turns c.loop-test.false)
    (held_at c.args.pending.run c.words_of-words.ensures c.doubles_of-doubles.ensures)

pub turned-here-requires : goal.turned-here-requires
turned-here-requires c =
    let memory-at : Memory = let a = c.args in
    memory_of a.y.now a.f0.now a.rtol.now a.atol.now a.mass.now a.work.now in
    let host-at : Answering = let a = c.args in answered_by a.reactions a.rates.now a.species.now in
    let held : run_at c.words_of-words.result c.doubles_of-doubles.result ≡ c.args.pending.run = held_at
    c.args.pending.run c.words_of-words.ensures c.doubles_of-doubles.ensures in
    let p = c.args.pending in
    let none = subst (λ (r : Run). NoneRefused host-at (point r p.request p.place
    memory-at)) (sym held) c.requires in record {
      sized = c.loop.invariant.1.sized;
      admits = admits c.loop.invariant.1.turns none (sym c.is_end.ensures ∙ c.if-is_end.false);
      planned = lent_plan _ _ (λ (p : Plan). IsPlanOf p c.args.reactions c.args.species.now) c.as_ref.ensures.value
          c.new-plan.ensures;
    }

pub overflow_step : goal.overflow_step
overflow_step c = omega (arith, c.loop-test.true)

pub loop-smaller : goal.loop-smaller
loop-smaller c = omega (arith, c.loop-test.true)

pub loop-preserved : goal.loop-preserved
loop-preserved c =
    let memory-at : Memory = let a = c.args in
    memory_of a.y.now a.f0.now a.rtol.now a.atol.now a.mass.now a.work.now in
    let host-at : Answering = let a = c.args in answered_by a.reactions a.rates.now a.species.now in
    let memory-in : Memory = let a = c.args in
    memory_of c.loop.y c.loop.f0 a.rtol.now a.atol.now a.mass.now c.loop.work in
    let point-in : Point = point (run_at c.loop.words c.loop.doubles) c.loop.here.request c.loop.here.place memory-in in
    let memory-turned : Memory = let a = c.args in
    memory_of c.turned-here.new.y c.turned-here.new.f0 a.rtol.now a.atol.now a.mass.now c.turned-here.new.work in
    let point-turned : Point = point (run_at c.turned-here.new.words c.turned-here.new.doubles)
    c.turned-here.result.request c.turned-here.result.place memory-turned in
    let turn : point-turned ≡ turn_of host-at point-in = c.turned-here.ensures.f_origin_after in
    let led : Led host-at (c.loop.counter + 1) (point (run_at c.words_of-words.result c.doubles_of-doubles.result)
    c.args.pending.request c.args.pending.place memory-at) point-turned c.turned-here.new.words
    c.turned-here.new.doubles = record {
      sized = c.turned-here.ensures.sized_2;
      turns = turned c.loop.invariant.1.turns c.loop-test.true
          (sym c.is_end.ensures ∙ c.if-is_end.false) turn;
    } in
    (search rules, led)
