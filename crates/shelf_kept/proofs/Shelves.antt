-- The ring holds what was put there: at every point of a journal, the newest 48.
use Prim.Native.Nat.{ℕ, ◌*◌, ◌/◌}
use mathlib.Core.Path.{◌≡◌, refl, sym, ap, subst, ◌∙◌}
use mathlib.Core.Bool.{Bool, true, false, ◌&&◌}
use mathlib.Core.List.{List, [], ◌∷◌}
use native.Mathlib.Omega.{arith}
use lib.ListN.{length, take}
use lib.Seq.{take-take}
use lib.Ieee.{Float}
use Rattle.words.specs.Loop.{pick}
use Rattle.words.proofs.Branch.{pick_yes, pick_no}
use Rattle.state.specs.declared.talk.Request.{Request}
use Rattle.state.specs.declared.talk.Request.TheVariants as request
use Rattle.opening.specs.Rows.{Opening}
use Rattle.history.specs.History.{Point}
use Rattle.account.specs.Journal.{Turn}
use Rattle.account.specs.Reading.{is_report}
use Rattle.account.proofs.SuccessLands.{Reports}
use Rattle.account.proofs.Sound.{Held}
use Rattle.shelf.specs.declared.answers.Shelf.{Shelf}
use Rattle.shelf.specs.Shelf.{Step, step, empty_shelf, shelf, steps_before, kept_of, shelved, place_after, steps_after}
use Rattle.shelf.specs.Answers.{Placed}
use Rattle.shelf.specs.Refusals.{Room, Fit}
use Rattle.shelf.specs.Put.{put_at, put_of}
use Rattle.shelf.proofs.Outcomes.{put-done-proof, put-keeps-proof}
use Rattle.shelf_kept.specs.Kept.{step_held, modifies, reported_in, Beside, beside, shelf_after, put_with}
use Rattle.shelf_kept.specs.Kept.{put_at_report, reported_beside, beside_after}
use Rattle.shelf_kept.proofs.Accepted.{puts_in}

-- a shelf holds these steps, in room for n amounts
pub record Shelves (n : ℕ) (b : Beside) (steps : List Step) : Type 0 where
  pub kept : kept_of b.shelf n b.coefficients b.ends ≡ take 48 steps
  pub fit : Fit b.shelf
  pub room : Room n (length b.coefficients) (length b.ends)

pub shelves-empty : (n : ℕ) (coefficients ends : List Float) → Room n (length coefficients) (length ends)
    → Shelves n (beside empty_shelf coefficients ends) []
unfolding steps_before
shelves-empty n coefficients ends room =
    record { kept = refl; fit = record { steps = omega arith; place = omega arith }; room = room }

-- a reply that modifies the point empties it
replied-shelves : (n : ℕ) (m : Bool) (b : Beside) (steps : List Step) → Shelves n b steps
    → Shelves n (pick m (beside empty_shelf b.coefficients b.ends) b) (pick m [] steps)
unfolding pick
replied-shelves n true b steps s = shelves-empty n b.coefficients b.ends s.room
replied-shelves n false b steps s = s

and-true : (b : Bool) → b && true ≡ b
and-true true = refl
and-true false = refl

and-false : (b : Bool) → b && false ≡ false
and-false true = refl
and-false false = refl

-- one more step is put
pub shelves-put : (n : ℕ) (here : Point) (xold : Float) (b : Beside) (steps : List Step)
    → length here.memory.amounts.cont ≡ 4 * n → Shelves n b steps
    → Shelves n (put_with here xold b) (step here.memory.amounts.cont xold here.run.numbers.h ∷ steps)
unfolding shelf_after
shelves-put n here xold b steps long s =
    let cont = here.memory.amounts.cont in
    let h = here.run.numbers.h in
    let count : length cont / 4 ≡ n = omega (arith, long) in
    let whole : length cont ≡ 4 * (length cont / 4) = omega (arith, long) in
    let room : Room (length cont / 4) (length b.coefficients) (length b.ends) =
    subst (λ k. Room k (length b.coefficients) (length b.ends)) (sym count) s.room in
    let done : put_of b.shelf cont xold h b.coefficients b.ends
    ≡ put_at b.shelf cont xold h b.coefficients b.ends =
    put-done-proof b.shelf cont xold h b.coefficients b.ends (whole, room) s.fit in
    let after : Shelf = shelf (steps_after b.shelf.steps) (place_after b.shelf.place) in
    let k = put-keeps-proof b.shelf cont xold h b.coefficients b.ends after
    (ap (λ (o : Placed). o.answer) done) in
    let same : shelf_after (put_of b.shelf cont xold h b.coefficients b.ends).answer b.shelf ≡ after =
    ap (λ (o : Placed). shelf_after o.answer b.shelf) done in
    record {
      kept =
          ap (λ t. kept_of t n (put_of b.shelf cont xold h b.coefficients b.ends).coefficients
          (put_of b.shelf cont xold h b.coefficients b.ends).ends) same
          ∙ subst (λ m. kept_of after m (put_of b.shelf cont xold h b.coefficients b.ends).coefficients
          (put_of b.shelf cont xold h b.coefficients b.ends).ends
          ≡ shelved (step cont xold h) (kept_of b.shelf m b.coefficients b.ends)) count k.steps
          ∙ ap (λ l. shelved (step cont xold h) l) s.kept
          ∙ ap (λ l. step cont xold h ∷ l) (take-take 47 48 steps (omega arith));
      fit = subst Fit (sym same) k.fit;
      room = record {
        coefficients = k.coefficients ∙ s.room.coefficients;
        ends = k.ends ∙ s.room.ends;
      };
    }

module _ (o : Opening) (here : Point) (held : Held o here) (ts : List Turn) where
  -- at a report it is the step that is held
  by-request : (q : Request) → here.request ≡ q → (b : Beside) (steps : List Step) → Shelves o.n b steps
      → Shelves o.n (put_at_report q here b) (pick (is_report q) (step_held here ∷ steps) steps)
  unfolding put_at_report is_report pick Reports
  by-request (request.Derivative x) e b steps s = s
  by-request (request.Jacobian x) e b steps s = s
  by-request (request.Report xold x offered) e b steps s =
      let named = subst (λ (q : Request). Reports q here.run) e held.reports in
      subst
      (λ w. Shelves o.n (put_with here xold b)
      (step here.memory.amounts.cont w here.run.numbers.h ∷ steps))
      named.0 (shelves-put o.n here xold b steps held.long.cont s)
  by-request (request.Ended t) e b steps s = s

  pub shelves-reported : (b : Beside) (steps : List Step) → Shelves o.n b steps
      → Shelves o.n (reported_beside ts here b)
      (pick (is_report here.request && reported_in ts) (step_held here ∷ steps) steps)
  shelves-reported b steps s = by (reported_in ts) refl
    where
      by : (r : Bool) → reported_in ts ≡ r
          → Shelves o.n (reported_beside ts here b)
          (pick (is_report here.request && reported_in ts) (step_held here ∷ steps) steps)
      by true e =
          subst (λ c. Shelves o.n c (pick (is_report here.request && reported_in ts) (step_held here ∷ steps) steps))
          (sym (pick_yes _ _ e))
          (subst (λ r. Shelves o.n (put_at_report here.request here b) (pick r (step_held here ∷ steps) steps))
          (sym (ap (λ r. is_report here.request && r) e ∙ and-true (is_report here.request)))
          (by-request here.request refl b steps s))
      by false e =
          subst (λ c. Shelves o.n c (pick (is_report here.request && reported_in ts) (step_held here ∷ steps) steps))
          (sym (pick_no _ _ e))
          (subst (λ l. Shelves o.n b l)
          (sym (pick_no _ _ (ap (λ r. is_report here.request && r) e ∙ and-false (is_report here.request)))) s)

-- past a turn
pub shelves-turn : (o : Opening) (t : Turn) (ts : List Turn) → Held o t.here → (b : Beside)
    → Shelves o.n (beside_after b ts) (puts_in ts) → Shelves o.n (beside_after b (t ∷ ts)) (puts_in (t ∷ ts))
unfolding beside_after puts_in
shelves-turn o t ts held b s =
    replied-shelves o.n (modifies t.action.reply) (reported_beside ts t.here (beside_after b ts)) _
    (shelves-reported o t.here held ts (beside_after b ts) (puts_in ts) s)
