-- The attempt and its Newton iteration: where what follows them goes as the talk does, so do they.
use Prim.Native.Nat.{ℕ, zero, suc, ◌+◌, ◌≤◌}
use mathlib.Core.Bool.{false}
use mathlib.Core.Path.{◌≡◌, refl, sym, subst}
use native.Mathlib.Omega.{arith}
use lib.Dec.{leb, ltb}
use borrow.Author.Tests.{leb-true, leb-false}
use lib.Ieee.{le}
use Rattle.words.specs.Words.{◌⊕◌, ◌⊗◌}
use Rattle.words.specs.Constants.{«0·1»}
use Rattle.words.specs.Loop.{loop, pick}
use Rattle.words.proofs.Branch.{pick_yes, pick_no}
use Rattle.scalar.specs.Coefficients.{C1, C2}
use Rattle.scalar.specs.Order.{abs_of}
use Rattle.state.specs.declared.run.Run.{Run}
use Rattle.state.specs.declared.run.Stage.TheVariants as stage
use Rattle.state.specs.declared.run.Status.TheVariants as status
use Rattle.state.specs.declared.talk.Place.TheVariants as place
use Rattle.state.specs.Memory.{memory, amounts}
use Rattle.state.specs.MemorySetters.{set_cont, set_newton}
use Rattle.solve_blocks.specs.declared.step.Round.{Round}
use Rattle.solve_blocks.specs.declared.step.Round.TheVariants as round
use Rattle.solve_blocks.specs.declared.step.Step.TheVariants as step
use Rattle.solve_blocks.specs.Events.{Logged}
use Rattle.solve_blocks.specs.Setters.{◌▸◌}
use Rattle.solve_blocks.specs.Matrices.{failed_of, passes_of, pass_at}
use Rattle.solve_blocks.specs.Attempt.{Begun, ask_stage_of, ask_first_of, began_of, attempt_of}
use Rattle.solve_blocks.specs.Newton.{Resumed, again_of, round_of}
use Rattle.solve_blocks.specs.Advance.{stepped, replied_of, conclude_of, called_of}
use Rattle.history.specs.Host.{is_end}
use Rattle.solve_whole.specs.Talk.{Host, World, world, on_memory, ask}
use Rattle.solve_whole.specs.Solve.{Result, Next, onward, past_round, newton, attempt}
use Rattle.solve_whole.proofs.RunSound.{Sound, RoundLeft, ends, failed-out, round-left}
use Rattle.solve_whole.proofs.FollowsTalk.{From, Sim, fewer, asked-on, ask-on, ended-on}
use Rattle.solve_whole.proofs.Passes.{never, always}
use Rattle.solve_whole.proofs.Pieces.{both, Mains, left-goes}

module _ (host : Host) (d : ℕ) (main next : Next) (mains : Mains host d 0 main)
    (goes : (r : Run) (w : World) → Sound 0 r
    → From host d (conclude_of (round.Estimate r) w.memory).core w.exchanges (next r w)) where
  -- k rounds are left
  abbrev Agains : ℕ → Type 0
  Agains k =
      (r : Run) (w : World) → Sound 0 r → k + r.control.newt_iter ≡ r.settings.newton_maxiter
      → From host d (conclude_of (round.Newton r) w.memory).core w.exchanges (newton host k r w main next)

  -- past a round
  concluded-goes : (k : ℕ) → Agains k → (v : Round) (w : World) → RoundLeft k v
      → From host d (conclude_of v w.memory).core w.exchanges
      (past_round v w main (λ r w. newton host k r w main next) next)
  unfolding RoundLeft past_round conclude_of
  concluded-goes k agains (round.Newton r) w l = agains r w l.0 l.1
  concluded-goes k agains (round.Estimate r) w l = goes r w l
  concluded-goes k agains (round.Over s) w l = left-goes host d main mains s w l

  -- the three derivatives of a round, and its verdict; the first is asked already
  pub round-goes : (k : ℕ) → Agains k → (r : Run) (w : World) → Sound 0 r
      → suc k + r.control.newt_iter ≡ r.settings.newton_maxiter
      → (let a = ask_first_of r w.memory.amounts.y w.memory.newton.z1 w.memory.amounts.cont in
      Sim host (suc d) (step.Asked a.call) (w ▸ on_memory (set_cont a.cont)) (newton host (suc k) r w main next))
  unfolding replied_of ask_stage_of newton is_end
  round-goes k agains r w sound e =
      let R = newton host (suc k) r w main next in
      let a1 = ask_stage_of r stage.Newton1 (r.numbers.x ⊕ C1 ⊗ r.numbers.h) place.ContToZ1 w.memory.amounts.y
      w.memory.newton.z1 w.memory.amounts.cont in
      let v1 = w ▸ on_memory (set_cont a1.cont) in
      let w1 = ask host a1.call v1 in
      let r1 = a1.call.run in
      let a2 = ask_stage_of r1 stage.Newton2 (r1.numbers.x ⊕ C2 ⊗ r1.numbers.h) place.ContToZ2
      w1.memory.amounts.y w1.memory.newton.z2 w1.memory.amounts.cont in
      let v2 = w1 ▸ on_memory (set_cont a2.cont) in
      let w2 = ask host a2.call v2 in
      let r2 = a2.call.run in
      let a3 = ask_stage_of r2 stage.Newton3 r2.numbers.xph place.ContToZ3 w2.memory.amounts.y
      w2.memory.newton.z3 w2.memory.amounts.cont in
      let v3 = w2 ▸ on_memory (set_cont a3.cont) in
      let w3 = ask host a3.call v3 in
      let m = w3.memory in
      let v = (round_of a3.call.run m.given.mass m.amounts.scal m.factors m.newton).core in
      asked-on host d a1.call v1 R (refl {a = false})
      (ask-on host d a2.call v2 R (refl {a = false})
      (ask-on host d a3.call v3 R (refl {a = false})
      (concluded-goes k agains v.round (w3 ▸ on_memory (set_newton v.newton))
      (round-left k a3.call.run sound (omega (arith, e)) m.given.mass
      m.amounts.scal m.factors m.newton))))

  -- `continue 'newton`
  agains : (k : ℕ) → Agains k
  unfolding conclude_of again_of newton
  agains zero r w sound e =
      subst (λ (l : Logged Resumed). From host d (stepped l.core.step (set_cont l.core.cont w.memory))
      w.exchanges (onward (failed_of r) w main main))
      (sym (pick_yes _ _
      (always (leb r.settings.newton_maxiter r.control.newt_iter) (λ f. omega (arith, e, leb-false)))))
      (left-goes host d main mains (failed_of r) w (failed-out 0 0 (λ _. ⊥) r sound (omega arith)))
  agains (suc k) r w sound e =
      subst (λ (l : Logged Resumed). From host d (stepped l.core.step (set_cont l.core.cont w.memory))
      w.exchanges (newton host (suc k) r w main next))
      (sym (pick_no _ _
      (never (leb r.settings.newton_maxiter r.control.newt_iter) (λ f. omega (arith, e, leb-true)))))
      (fewer host (suc d) d _ _ (omega arith) (round-goes k (agains k) r w sound e))

  -- all rounds
  pub newton-goes : (k : ℕ) (r : Run) (w : World) → Sound 0 r
      → k + r.control.newt_iter ≡ r.settings.newton_maxiter → 1 ≤ k
      → (let a = ask_first_of r w.memory.amounts.y w.memory.newton.z1 w.memory.amounts.cont in
      Sim host (suc d) (step.Asked a.call) (w ▸ on_memory (set_cont a.cont)) (newton host k r w main next))
  newton-goes zero r w sound e low = let no : ⊥ = omega arith in absurd no
  newton-goes (suc k) r w sound e low = round-goes k (agains k) r w sound e

-- ---- the attempt

-- how it goes from where an attempt was begun
abbrev FromBegun : Host → ℕ → World → Logged Begun → Result → Type 0
FromBegun host d w l R =
    let m = w.memory in
    let b = l.core in
    let m' = memory
    (amounts m.amounts.y m.amounts.f0 b.scal b.cont)
    b.newton
    m.given
    m.factors
    m.differences in
    Sim host d (step.Asked b.call) (world m' w.exchanges) R

-- its guards, and its beginning
pub attempt-goes : (host : Host) (d : ℕ) (next : Next) →
    ((r : Run) (w : World) → Sound 0 r → r.control.newt_iter ≡ 0
    → (let a = ask_first_of r w.memory.amounts.y w.memory.newton.z1 w.memory.amounts.cont in
    Sim host d (step.Asked a.call) (w ▸ on_memory (set_cont a.cont)) (next r w))) →
    (r : Run) (w : World) → Sound 0 r → Sim host d (step.Attempt r) w (attempt host r w next)
unfolding passes_of pass_at loop pick called_of attempt_of began_of attempt
attempt-goes host d next goes r w sound =
    both (FromBegun host d w) (ltb r.settings.max_steps (r.counts.total + 1)) _ _ _ _
    (λ _. ended-on host d _ w (ends status.NeedLargerNMax refl refl))
    (λ _. both (FromBegun host d w)
    (le («0·1» ⊗ abs_of r.numbers.h) (abs_of r.numbers.x ⊗ r.settings.uround)) _ _ _ _
    (λ _. ended-on host d _ w (ends status.StepSizeTooSmall refl refl))
    (λ _. goes _ _ sound refl))
