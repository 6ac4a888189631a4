-- `solve`, piece by piece: if all that comes after a piece follows the talk, then the piece with it does.
use Prim.Native.Nat.{ℕ}
use mathlib.Core.Bool.{Bool, true, false}
use mathlib.Core.Path.{◌≡◌, refl, sym, subst}
use Rattle.words.specs.Loop.{pick}
use Rattle.state.specs.declared.run.Run.{Run}
use Rattle.state.specs.declared.run.Stage.{Stage}
use Rattle.state.specs.declared.run.Stage.TheVariants as stage
use Rattle.state.specs.declared.run.Status.TheVariants as status
use Rattle.state.specs.declared.talk.Reply.{Reply}
use Rattle.state.specs.declared.talk.Reply.TheVariants as reply
use Rattle.state.specs.Memory.{Memory}
use Rattle.solve_blocks.specs.declared.step.Step.{Step}
use Rattle.solve_blocks.specs.declared.step.Step.TheVariants as step
use Rattle.solve_blocks.specs.declared.step.Heard.{Heard}
use Rattle.solve_blocks.specs.declared.step.Heard.TheVariants as heard
use Rattle.solve_blocks.specs.Setters.{◌▸◌}
use Rattle.solve_blocks.specs.Matrices.{ended_of}
use Rattle.solve_blocks.specs.Judge.{ask_accepted}
use Rattle.solve_blocks.specs.Report.{ask_first_report, ask_report, ask_modified, reported_of, arrived_of}
use Rattle.solve_blocks.specs.Advance.{Stepped, stepped, rescaled, started_of, returned_of, replied_of}
use Rattle.history.specs.Host.{is_end}
use Rattle.solve_whole.specs.Talk.{Host, World, on_memory, ask, reply_of}
use Rattle.solve_whole.specs.Solve.{Next, onward, replied, report, arrive}
use Rattle.solve_whole.proofs.RunSound.{Sound, Out, Left, ends}
use Rattle.solve_whole.proofs.FollowsTalk.{From, Sim, ask-on, ended-on}

-- a branch on one test in both
pub both : {A B : Type 0} (P : A → B → Type 0) (b : Bool) (x y : A) (x' y' : B)
    → (b ≡ true → P x x') → (b ≡ false → P y y') → P (pick b x y) (pick b x' y')
unfolding pick
both P true x y x' y' p q = p refl
both P false x y x' y' p q = q refl

-- where a report leads: to the call that it makes, or to the label `go`
abbrev told_of : (Run → Memory → Stepped) → Heard → Memory → Stepped
told_of go (heard.Asked c) m = stepped (step.Asked c) m
told_of go (heard.Reported r) m = go r m

abbrev started_at : Run → Memory → Stepped
started_at r m = stepped (step.Main r) (rescaled r m)

started-told : (t : Heard) (m : Memory) → started_of t m ≡ told_of started_at t m
unfolding started_of
started-told (heard.Asked c) m = refl
started-told (heard.Reported r) m = refl

started-back : (p : Reply) (r : Run) (m : Memory) → (replied_of stage.FirstDerivativeAgain p r m).core ≡ started_at r m
unfolding replied_of started_of
started-back p r m = refl

abbrev returned_at : Run → Memory → Stepped
returned_at r m = stepped (arrived_of r).core m

returned-told : (t : Heard) (m : Memory) → stepped (returned_of t).core m ≡ told_of returned_at t m
unfolding returned_of
returned-told (heard.Asked c) m = refl
returned-told (heard.Reported r) m = refl

returned-back : (p : Reply) (r : Run) (m : Memory) → (replied_of stage.DerivativeAgain p r m).core ≡ returned_at r m
unfolding replied_of
returned-back p r m = refl

module _ (host : Host) (d : ℕ) where
  -- ---- `continue 'main`, or the end

  abbrev pub Mains : ℕ → Next → Type 0
  Mains i main = (r : Run) (w : World) → Sound i r → Sim host d (step.Main r) w (main r w)

  pub onward-goes : (i : ℕ) (P : Run → Type 0) (main next : Next) → Mains i main
      → ((r : Run) (w : World) → P r → Sim host d (step.Attempt r) w (next r w))
      → (s : Step) (w : World) → Out i P s → Sim host d s w (onward s w main next)
  unfolding Out onward
  onward-goes i P main next mains goes (step.Asked c) w o = ended-on host d c w o
  onward-goes i P main next mains goes (step.Main r) w o = mains r w o
  onward-goes i P main next mains goes (step.Matrices r) w o = absurd o
  onward-goes i P main next mains goes (step.Attempt r) w o = goes r w o

  pub left-goes : (main : Next) → Mains 0 main → (s : Step) (w : World) → Left s → Sim host d s w (onward s w main main)
  left-goes main mains s w l = onward-goes 0 (λ _. ⊥) main main mains (λ r w no. absurd no) s w l

  -- ---- past a report, to the label `go`

  module _ (again : Stage) (go : Run → Memory → Stepped)
      (back : (p : Reply) (r : Run) (m : Memory) → (replied_of again p r m).core ≡ go r m)
      (next : Next)
      (goes : (r : Run) (w : World) → Sound 0 r → From host d (go r w.memory) w.exchanges (next r w)) where
    replied-goes : (p : Reply) (r : Run) (w : World) → Sound 0 r
        → From host d (told_of go (reported_of again p r) w.memory) w.exchanges (replied host again p r w next)
    unfolding reported_of replied is_end
    replied-goes reply.Filled r w sound = goes r w sound
    replied-goes reply.Continue r w sound = goes r w sound
    replied-goes reply.Interrupt r w sound =
        ended-on host d (ended_of status.UserInterrupt r) w (ends status.UserInterrupt refl refl)
    replied-goes (reply.Modified x) r w sound =
        let c = ask_modified again x r in
        let v = ask host c w in
        ask-on host d c w _ refl (subst (λ (t : Stepped). From host d t v.exchanges (next c.run v))
        (sym (back _ _ _)) (goes c.run v sound))
    replied-goes (reply.Mark xo) r w sound = goes _ w sound

  -- the first
  pub first_goes : (next : Next)
      → ((r : Run) (w : World) → Sound 0 r → Sim host d (step.Main r) (w ▸ on_memory (rescaled r)) (next r w))
      → (r : Run) (w : World) → Sound 0 r
      → Sim host d (step.Asked (ask_first_report r)) w (report host stage.FirstDerivativeAgain (ask_first_report r) w
      next)
  unfolding replied_of is_end
  first_goes next goes r w sound =
      let c = ask_first_report r in
      ask-on host d c w _ refl
      (subst
      (λ (t : Stepped). From host d t (ask host c w).exchanges (report host stage.FirstDerivativeAgain c w next))
      (sym (started-told (reported_of _ _ _) _))
      (replied-goes stage.FirstDerivativeAgain started_at started-back next goes
      (reply_of host c w) c.run (ask host c w) sound))

  -- a later one, past the derivative at the new point
  pub arrive-goes : (next : Next) → ((r : Run) (w : World) → Sound 0 r → Sim host d (arrived_of r).core w (next r w))
      → (r : Run) (w : World) → Sound 0 r → Sim host d (step.Asked (ask_accepted r)) w (arrive host r w next)
  unfolding replied_of arrive ask_report is_end
  arrive-goes next goes r w sound =
      let a = ask_accepted r in
      let v = ask host a w ▸ on_memory (rescaled a.run) in
      let c = ask_report a.run in
      ask-on host d a w _ refl
      (ask-on host d c v _ refl
      (subst (λ (t : Stepped). From host d t (ask host c v).exchanges (report host stage.DerivativeAgain c v next))
      (sym (returned-told (reported_of _ _ _) _))
      (replied-goes stage.DerivativeAgain returned_at returned-back next goes
      (reply_of host c v) c.run (ask host c v) sound)))
