-- A host that looks only at what is asked and at the memory: the turns of a budget, the talk by advances and the
-- journal that it plays stand at the same points.
use Prim.Native.Nat.{ℕ, zero, suc, ◌≤◌, ◌<◌}
use mathlib.Core.Bool.{true, false}
use mathlib.Core.Path.{◌≡◌, refl, sym, ap, ◌∙◌, subst}
use mathlib.Core.List.{List, []}
use native.Mathlib.Omega.{arith}
use Rattle.words.proofs.Branch.{pick_no}
use Rattle.opening.specs.Rows.{Opening}
use Rattle.opening.specs.Opening.{open_of}
use Rattle.history.specs.Host.{is_end, Action}
use Rattle.history.specs.History.{Point}
use Rattle.account.specs.Journal.{Fair, Turn, Journal, journal, next, Starts, JournalOf}
use Rattle.account.specs.Account.{Strategy, played}
use Rattle.account.proofs.Sound.{Held}
use Rattle.account.proofs.Journals.{sound}
use Rattle.account.proofs.Played.{first-played, played-of}
use Rattle.solve_whole.specs.Talk.{Exchange, Host, Talk, talk, offered, advanced_by, talk_by}
use Rattle.model_run.specs.Budget.{Answering, turn_of, last_of}
use Rattle.model_run.proofs.TurnLaws.{last-ended}

-- as a host of a talk, and as a host as a whole
abbrev pub always : Answering → Host
always host es q p m = host q p m

abbrev pub strategy : Answering → Strategy
strategy host j = host j.point.request j.point.place j.point.memory

-- what it does at a point
abbrev pub done_at : Answering → Point → Action
done_at host here = host here.request here.place here.memory

-- where k advances lead
abbrev pub point_at : Answering → Point → ℕ → Point
point_at host start k = (talk_by offered (always host) k (talk start [])).point

module _ (host : Answering) where
  -- ---- the budget

  -- a budget that is not used up leads to the end
  pub last-talk : (k budget : ℕ) (t : Talk) → k ≤ budget
      → ((j : ℕ) → j < k → is_end (talk_by offered (always host) j t).point.request ≡ false)
      → is_end (talk_by offered (always host) k t).point.request ≡ true
      → last_of host budget t.point ≡ (talk_by offered (always host) k t).point
  unfolding talk_by last_of turn_of
  last-talk zero budget t l before ended = last-ended host budget t.point ended
  last-talk (suc k) zero t l before ended = absurd (let no : ⊥ = omega arith in no)
  last-talk (suc k) (suc budget) t l before ended =
      ap (last_of host budget) (pick_no _ _ (before 0 (omega arith)))
      ∙ last-talk k budget (advanced_by offered (always host) t) (omega arith)
      (λ j h. before (suc j) (omega arith)) ended

  -- ---- the journal

  pub played-point : (k : ℕ) (here : Point) (ts : List Turn) (es : List Exchange)
      → (played (strategy host) (journal here ts) k).point ≡ (talk_by offered (always host) k (talk here es)).point
  unfolding played talk_by next
  played-point zero here ts es = refl
  played-point (suc k) here ts es =
      ap (λ (j : Journal). j.point) (first-played (strategy host) k (journal here ts)) ∙ played-point k _ _ _

  module _ (o : Opening) (start : Point) (starts : Starts (open_of o) (journal start [])) (k : ℕ)
      (fair : (i : ℕ) → i < k → Fair (point_at host start i) (done_at host (point_at host start i))) where
    pub journal-of : JournalOf o (played (strategy host) (journal start []) k)
    journal-of =
        played-of o (journal start []) (strategy host) k starts
        (λ i l. subst (λ (here : Point). Fair here (done_at host here)) (sym (played-point i start [] [])) (fair i l))

    -- what the account holds of the points before and at the end
    pub held_at : Held o (point_at host start k)
    held_at = subst (Held o) (played-point k start [] []) (sound o _ journal-of).held
