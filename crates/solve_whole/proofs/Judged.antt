-- The error and the judgement: where what follows them goes as the talk does, so do they.
use Prim.Native.Nat.{ℕ}
use mathlib.Core.Bool.{false, ◌&&◌, ◌||◌}
use mathlib.Core.Path.{refl}
use lib.Ieee.{Float, le}
use Rattle.words.specs.Constants.{«1·0»}
use Rattle.words.specs.Loop.{loop}
use Rattle.state.specs.declared.run.Run.{Run}
use Rattle.state.specs.Memory.{Memory}
use Rattle.state.specs.MemorySetters.{set_cont, set_y_cont}
use Rattle.solve_blocks.specs.declared.step.Round.TheVariants as round
use Rattle.solve_blocks.specs.declared.step.Step.TheVariants as step
use Rattle.solve_blocks.specs.Events.{Logged}
use Rattle.solve_blocks.specs.Setters.{◌▸◌, in_counts, one_lu}
use Rattle.solve_blocks.specs.Entries.{three}
use Rattle.solve_blocks.specs.Estimate.{solved_first, error_of, plus_at, sum_at}
use Rattle.solve_blocks.specs.Judge.{Judged, judged_of, tested_of, estimate_of, refined_of, ask_accepted}
use Rattle.solve_blocks.specs.Judge.{ask_refinement}
use Rattle.solve_blocks.specs.Advance.{Stepped, stepped, replied_of, conclude_of}
use Rattle.history.specs.Host.{is_end}
use Rattle.solve_whole.specs.Talk.{Host, World, on_memory, ask}
use Rattle.solve_whole.specs.Solve.{Result, Next, estimate, refine, judge}
use Rattle.solve_whole.proofs.RunSound.{Sound, accepted-sound, rejected-sound}
use Rattle.solve_whole.proofs.FollowsTalk.{From, Sim, ask-on}
use Rattle.solve_whole.proofs.Pieces.{both, Mains}

-- where the judgement of an error leads
abbrev pub judged_at : Float → Run → Memory → Stepped
judged_at err r m =
    let j =
    (judged_of r err (three m.newton.z1 m.newton.z2 m.newton.z3) m.amounts.y m.amounts.cont).core in
    stepped j.step (set_y_cont j.y j.cont m)

-- and the test whether it is refined first
abbrev pub tested_at : Float → Run → Memory → Stepped
tested_at err r m =
    let j =
    (tested_of r err (three m.newton.z1 m.newton.z2 m.newton.z3) m.amounts.y m.amounts.cont).core in
    stepped j.step (set_y_cont j.y j.cont m)

module _ (host : Host) (d : ℕ) where
  pub judge-goes : (main next : Next) → Mains host d 0 main
      → ((r : Run) (w : World) → Sound 0 r → Sim host d (step.Asked (ask_accepted r)) w (next r w))
      → (err : Float) (r : Run) (w : World) → Sound 0 r
      → From host d (judged_at err r w.memory) w.exchanges (judge host err r w main next)
  unfolding judged_of judge
  judge-goes main next mains goes err r w sound =
      both (λ (l : Logged Judged) (R : Result).
      From host d (stepped l.core.step (set_y_cont l.core.y l.core.cont w.memory)) w.exchanges R)
      (le err «1·0») _ _ _ _
      (λ _. goes _ _ (accepted-sound r sound err _))
      (λ _. mains _ w (rejected-sound _ sound _))

  module _ (next : Float → Next) where
    pub refine-goes : ((err : Float) (r : Run) (w : World) → Sound 0 r
        → From host d (judged_at err r w.memory) w.exchanges (next err r w))
        → (err : Float) (r : Run) (w : World) → Sound 0 r
        → From host d (tested_at err r w.memory) w.exchanges (refine host err r w next)
    unfolding tested_of refined_of replied_of refine is_end
    refine-goes goes err r w sound =
        let n = r.shape.n in
        let c = ask_refinement r in
        let u = w ▸ on_memory (set_cont (loop (plus_at w.memory.amounts.y) 0 n w.memory.amounts.cont)) in
        let v = ask host c u in
        let m = v.memory in
        let cont = solved_first n m.factors.e1 m.factors.ip1
        (loop (sum_at m.newton.f1 m.newton.f2) 0 n m.amounts.cont) in
        let x = v ▸ on_memory (set_cont cont) in
        let err' = error_of n m.amounts.scal cont in
        both (λ (l : Logged Judged) (R : Result).
        From host d (stepped l.core.step (set_y_cont l.core.y l.core.cont w.memory)) w.exchanges R)
        (le «1·0» err && (r.control.first || r.control.reject)) _ _ (next err' c.run x) (next err r w)
        (λ _. ask-on host d c u (next err' c.run x) (refl {a = false}) (goes err' c.run x sound))
        (λ _. goes err r w sound)

    pub estimate-goes : ((err : Float) (r : Run) (w : World) → Sound 0 r
        → From host d (tested_at err r w.memory) w.exchanges (next err r w))
        → (r : Run) (w : World) → Sound 0 r
        → From host d (conclude_of (round.Estimate r) w.memory).core w.exchanges (estimate host r w next)
    unfolding conclude_of estimate_of estimate
    estimate-goes goes r w sound = goes _ (r ▸ in_counts one_lu) _ sound
