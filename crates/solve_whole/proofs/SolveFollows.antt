-- 'main, and the whole of `solve`: it goes as the talk does. A pass through 'main asks something, or is a failure more,
-- so six passes without an end are an advance without one.
use Prim.Native.Nat.{ℕ, zero, suc, ◌+◌, ◌-◌, ◌*◌, ◌≤◌}
use mathlib.Core.Path.{◌≡◌, refl, sym, subst}
use mathlib.Core.List.{[]}
use native.Mathlib.Omega.{arith}
use lib.Ieee.{Float}
use Rattle.state.specs.declared.run.Run.{Run}
use Rattle.state.specs.declared.run.Stage.{Stage}
use Rattle.state.specs.declared.run.Stage.TheVariants as stage
use Rattle.state.specs.declared.talk.Place.TheVariants as place
use Rattle.state.specs.declared.talk.Request.TheVariants as request
use Rattle.state.specs.Memory.{Memory}
use Rattle.solve_blocks.specs.declared.step.Step.TheVariants as step
use Rattle.state.specs.Talk.{call}
use Rattle.solve_blocks.specs.Report.{arrived_of}
use Rattle.solve_blocks.specs.Advance.{replied_of}
use Rattle.history.specs.Host.{is_end}
use Rattle.solve_whole.specs.Talk.{Host, World, world, ask, reply_of}
use Rattle.solve_whole.specs.Solve.{Next, onward, jacobian, matrices, attempt, newton}
use Rattle.solve_whole.specs.Solve.{estimate, refine, judge, arrive, main_of, solve_of}
use Rattle.solve_whole.proofs.RunSound.{Sound, arrived-left}
use Rattle.solve_whole.proofs.FollowsTalk.{Goes, From, Sim, fewer, ask-on}
use Rattle.solve_whole.proofs.Pieces.{Mains, left-goes, first_goes, arrive-goes}
use Rattle.solve_whole.proofs.Judged.{judge-goes, refine-goes, estimate-goes}
use Rattle.solve_whole.proofs.Rounds.{newton-goes, attempt-goes}
use Rattle.solve_whole.proofs.Begins.{jacobian-goes, matrices-goes}

-- one pass: d points are none of the end, where a failure leads to d such points, and what comes after a
-- request to d', one fewer
module _ (host : Host) (d d' i : ℕ) (few : d ≤ suc d') (main : Next) (failing : Mains host d (i + 1) main)
    (mains : Mains host d' 0 main) where
  abbrev arrived : Next
  arrived r w = onward (arrived_of r).core w main main

  abbrev accepted : Next
  accepted r w = arrive host r w arrived

  abbrev judged : Float → Next
  judged err r w = judge host err r w main accepted

  abbrev refined : Float → Next
  refined err r w = refine host err r w judged

  abbrev estimated : Next
  estimated r w = estimate host r w refined

  abbrev iterated : Next
  iterated r w = newton host r.settings.newton_maxiter r w main estimated

  abbrev attempted : Next
  attempted r w = attempt host r w iterated

  pub pass-goes : (r : Run) (w : World) → Sound i r
      → Sim host d (step.Main r) w (jacobian host r w (λ r w. matrices host r w main attempted))
  pass-goes r w sound =
      jacobian-goes host d i (λ r w. matrices host r w main attempted)
      (matrices-goes host d i main attempted failing
      (λ r w sound. attempt-goes host d iterated
      (λ r w sound fresh. fewer host (suc d') d _ (iterated r w) few
      (newton-goes host d' main estimated mains
      (estimate-goes host d' refined
      (refine-goes host d' judged
      (judge-goes host d' main accepted mains
      (arrive-goes host d' arrived
      (λ r w sound. left-goes host d' main mains (arrived_of r).core w (arrived-left r sound))))))
      r.settings.newton_maxiter r w sound (omega (arith, fresh)) sound.2))
      r w (omega arith, sound.1, sound.2, sound.3)))
      r w sound

pub main-goes : (host : Host) (fuel d i : ℕ) (r : Run) (w : World) → Sound i r → 6 * d ≤ fuel + i
    → Sim host d (step.Main r) w (main_of host fuel r w)
unfolding main_of Goes
main-goes host zero d i r w sound enough = λ j l. let no : ⊥ = omega arith in absurd no
main-goes host (suc fuel) d i r w sound enough =
    pass-goes host d (d - 1) i (omega arith) (main_of host fuel)
    (λ r w more. main-goes host fuel d (i + 1) r w more (omega arith))
    (λ r w none. main-goes host fuel (d - 1) 0 r w none (omega arith))
    r w sound

-- the whole, from a run that stands before its first derivative
pub solve-goes : (host : Host) (fuel d : ℕ) (r : Run) (m : Memory) → Sound 0 r
    → r.stage ≡ stage.FirstDerivative → 6 * d ≤ fuel
    → Sim host d (step.Asked (call r (request.Derivative r.numbers.x) place.YToF0))
    (world m []) (solve_of host fuel r m)
unfolding solve_of replied_of is_end
solve-goes host fuel d r m sound first enough =
    let c = call r (request.Derivative r.numbers.x) place.YToF0 in
    let v = ask host c (world m []) in
    ask-on host d c (world m []) _ refl
    (subst (λ (s : Stage).
    From host d (replied_of s (reply_of host c (world m [])) r v.memory).core v.exchanges (solve_of host fuel r m))
    (sym first)
    (first_goes host d _ (λ r w sound. main-goes host fuel d 0 r _ sound (omega arith)) r v sound))
