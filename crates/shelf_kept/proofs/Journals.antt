-- Both laws carried along a journal, and what they come to: the proofs of Theorems.antt.
use Prim.Native.Nat.{ℕ}
use mathlib.Core.Path.{◌≡◌, refl, sym, ap, subst, ◌∙◌}
use mathlib.Core.Bool.{true, false, ◌&&◌, ◌||◌}
use mathlib.Core.List.{List, [], ◌∷◌}
use lib.ListN.{length, take}
use lib.Ieee.{Float}
use Rattle.words.specs.Loop.{pick}
use Rattle.words.proofs.Branch.{pick_yes}
use Rattle.opening.specs.Rows.{Opening}
use Rattle.opening.specs.Opening.{open_of}
use Rattle.history.specs.Host.{Action}
use Rattle.account.specs.Journal.{Fair, Journal, next, FairFrom, after, Starts, JournalOf}
use Rattle.account.specs.Reading.{is_report}
use Rattle.account.proofs.Matches.{matches-report}
use Rattle.account.proofs.FirstPoint.{opens}
use Rattle.account.proofs.Journals.{Sound, sound-first, sound-next}
use Rattle.shelf.specs.Shelf.{Step, empty_shelf, kept_of}
use Rattle.shelf.specs.Refusals.{Room}
use Rattle.shelf.specs.Ask.{answer_of, ask_of}
use Rattle.shelf.proofs.Theorems.{ask-answer}
use Rattle.shelf_kept.specs.Kept.{step_held, steps_accepted, unreported, reported_in}
use Rattle.shelf_kept.specs.Kept.{Beside, beside, put_with, beside_after, beside_now}
use Rattle.shelf_kept.proofs.Ways.{way_of, is_accepted, is_later, is_begun}
use Rattle.shelf_kept.proofs.Accepted.{puts_in, due, reports-due, Told, told-next}
use Rattle.shelf_kept.proofs.Shelves.{Shelves, shelves-empty, shelves-put, shelves-turn, shelves-reported}

told-first : (o : Opening) (j : Journal) → Starts (open_of o) j → Told j
unfolding Starts steps_accepted puts_in unreported reported_in is_accepted is_later is_begun pick way_of
told-first o j s =
    let p = opens o j s in
    rw s.2
    (record { steps = rw p.stage refl; begun = rw p.stage refl; pending = rw p.stage refl })

pub record Both (o : Opening) (b : Beside) (j : Journal) : Type 0 where
  pub sound : Sound o j
  pub told : Told j
  pub shelves : Shelves o.n (beside_after b j.turns) (puts_in j.turns)

both-next : (o : Opening) (b : Beside) (j : Journal) (a : Action) → Both o b j → Fair j.point a → Both o b (next j a)
unfolding next
both-next o b j a w fair =
    record {
      sound = sound-next o j a w.sound fair;
      told = told-next o j a w.sound fair w.told;
      shelves = shelves-turn o _ j.turns w.sound.held b w.shelves;
    }

both-after : (o : Opening) (b : Beside) (j : Journal) (acts : List Action) → Both o b j → FairFrom j acts
    → Both o b (after j acts)
unfolding FairFrom after
both-after o b j [] w f = w
both-after o b j (a ∷ acts) w f = both-after o b (next j a) acts (both-next o b j a w f.0) f.1

-- asking a shelf that holds some steps is asking those that stand there
asked_of : {n : ℕ} (b : Beside) (steps : List Step) → Shelves n b steps → (x : Float) (target : List Float)
    → length target ≡ n
    → ask_of b.shelf x target b.coefficients b.ends
    ≡ answer_of x target (kept_of b.shelf n b.coefficients b.ends)
asked_of b steps s x target long =
    ask-answer b.shelf x target b.coefficients b.ends
    (subst (λ m. Room m (length b.coefficients) (length b.ends)) (sym long) s.room) s.fit
    ∙ ap (λ m. answer_of x target (kept_of b.shelf m b.coefficients b.ends)) long

module _ (o : Opening) (j : Journal) (of : JournalOf o j) (coefficients ends : List Float)
    (room : Room o.n (length coefficients) (length ends)) where
  abbrev b : Beside
  b = beside empty_shelf coefficients ends

  both : Both o b j
  unfolding Starts beside_after puts_in
  both =
      subst (Both o b) (sym of.is)
      (both-after o b of.first of.acts
      (record {
        sound = sound-first o of.first of.starts;
        told = told-first o of.first of.starts;
        shelves = rw of.starts.2 (shelves-empty o.n coefficients ends room);
      })
      of.fair)

  -- the shelf with an open report's step put there
  now : Shelves o.n (beside_now b j)
      (pick (is_report j.point.request && reported_in j.turns) (step_held j.point ∷ puts_in j.turns)
      (puts_in j.turns))
  now =
      shelves-reported o j.point both.sound.held j.turns (beside_after b j.turns) (puts_in j.turns)
      both.shelves

  pub kept-proof : unreported j.turns ≡ false
      → kept_of (beside_now b j).shelf o.n (beside_now b j).coefficients (beside_now b j).ends
      ≡ take 48 (steps_accepted j.point j.turns)
  kept-proof off =
      let s = j.point.run.stage in
      let same : is_report j.point.request && reported_in j.turns ≡ due s =
      (λ i. matches-report both.sound.held.matches i && both.told.begun i)
      ∙ reports-due s (sym both.told.pending ∙ off) in
      now.kept
      ∙ ap (take 48)
      (ap (λ c. pick c (step_held j.point ∷ puts_in j.turns) (puts_in j.turns)) same ∙ sym both.told.steps)

  pub answers-proof : unreported j.turns ≡ false → (x : Float) (target : List Float) → length target ≡ o.n
      → ask_of (beside_now b j).shelf x target (beside_now b j).coefficients (beside_now b j).ends
      ≡ answer_of x target (take 48 (steps_accepted j.point j.turns))
  answers-proof off x target long =
      asked_of (beside_now b j) _ now x target long ∙ ap (answer_of x target) (kept-proof off)

  -- the shelf with the held step put there
  abbrev pending : Beside
  pending = put_with j.point j.point.run.numbers.xold (beside_after b j.turns)

  put-pending : Shelves o.n pending (step_held j.point ∷ puts_in j.turns)
  put-pending =
      shelves-put o.n j.point j.point.run.numbers.xold (beside_after b j.turns) (puts_in j.turns)
      both.sound.held.long.cont both.shelves

  pub pending-proof : unreported j.turns ≡ true
      → kept_of pending.shelf o.n pending.coefficients pending.ends
      ≡ take 48 (steps_accepted j.point j.turns)
  pending-proof on =
      let s = j.point.run.stage in
      put-pending.kept
      ∙ ap (take 48)
      (sym (both.told.steps ∙ pick_yes _ _ (ap (λ c. c || is_later s) (sym both.told.pending ∙ on))))

  pub pending-answers-proof : unreported j.turns ≡ true → (x : Float) (target : List Float)
      → length target ≡ o.n
      → ask_of pending.shelf x target pending.coefficients pending.ends
      ≡ answer_of x target (take 48 (steps_accepted j.point j.turns))
  pending-answers-proof on x target long =
      asked_of pending _ put-pending x target long ∙ ap (answer_of x target) (pending-proof on)
