-- Of a host that looks only at what is asked and at the memory: the reports that are met step by step, up to the end,
-- are those of the journal that it plays.
--     EndsAfter d here    so many turns from here on lead to the end, and none before does
--     met-reports         the report here, and those met from here on, are the reports of the turns up to the end
--     played-reports      the reports of a journal that is played on from here
use Prim.Native.Nat.{ℕ, zero, suc, ◌≤◌, ◌<◌}
use mathlib.Core.Bool.{Bool, true, false, true≢false}
use mathlib.Core.Path.{◌≡◌, refl, sym, ap, ◌∙◌}
use mathlib.Core.List.{List, [], ◌++◌, append_assoc, append-nil}
use native.Mathlib.Omega.{arith}
use lib.Ieee.{Float}
use Rattle.words.specs.Loop.{pick}
use Rattle.words.proofs.Branch.{pick_yes, pick_no}
use Rattle.state.specs.declared.talk.Request.{Request}
use Rattle.state.specs.declared.talk.Request.TheVariants as request
use Rattle.history.specs.Host.{is_end}
use Rattle.history.specs.History.{Point}
use Rattle.account.specs.Journal.{Turn, Journal, journal, next}
use Rattle.account.specs.Account.{played}
use Rattle.account.proofs.Played.{first-played}
use Rattle.solve_whole.specs.Talk.{Talk, offered, advanced_by, talk_by}
use Rattle.model_run.specs.Budget.{Answering, turn_of, budget}
use Rattle.forecast.proofs.Turns.{always, strategy, done_at}
use Rattle.reports.specs.Step.{is_told, told_of}
use Rattle.reports.specs.Reports.{Reported, report_at, report_here, reports_in, met_from}
use Rattle.reports.proofs.StepLaws.{told-next, told-later}

-- ---- kinds of requests

end-told : (q : Request) → is_end q ≡ true → is_told q ≡ true
unfolding is_end is_told
end-told (request.Derivative x) e = absurd (true≢false (sym e))
end-told (request.Jacobian x) e = absurd (true≢false (sym e))
end-told (request.Report xold x offered) e = refl
end-told (request.Ended s) e = refl

-- what isn't told reports nothing
none_told : (q : Request) (y : List Float) → is_told q ≡ false → report_at q y ≡ []
unfolding is_told report_at
none_told (request.Derivative x) y e = refl
none_told (request.Jacobian x) y e = refl
none_told (request.Report xold x offered) y e = absurd (true≢false e)
none_told (request.Ended s) y e = refl

module _ (host : Answering) where
  -- ---- turns up to the end

  unfoldable pub EndsAfter : ℕ → Point → Type 0
  EndsAfter zero here = is_end here.request ≡ true
  EndsAfter (suc d) here = (is_end here.request ≡ false) × EndsAfter d (turn_of host here)

  pub ends-after : (d : ℕ) (t : Talk)
      → ((j : ℕ) → j < d → is_end (talk_by offered (always host) j t).point.request ≡ false)
      → is_end (talk_by offered (always host) d t).point.request ≡ true → EndsAfter d t.point
  unfolding EndsAfter talk_by turn_of
  ends-after zero t before ended = ended
  ends-after (suc d) t before ended = (
    before 0 (omega arith),
    ends-after d (advanced_by offered (always host) t) (λ j h. before (suc j) (omega arith)) ended,
  )

  ends_next : (d : ℕ) (here : Point) → EndsAfter (suc d) here → EndsAfter d (turn_of host here)
  unfolding EndsAfter
  ends_next d here e = e.1

  not_yet : (d : ℕ) (here : Point) → EndsAfter (suc d) here → is_end here.request ≡ false
  unfolding EndsAfter
  not_yet d here e = e.0

  next-ends : (here : Point) → EndsAfter 1 here → is_end (turn_of host here).request ≡ true
  unfolding EndsAfter
  next-ends here e = e.1

  -- ---- the next report

  enough-by : (b c : ℕ) (here : Point) (x : Bool) → is_told (turn_of host here).request ≡ x
      → told_of host (suc b) (turn_of host here) ≡ told_of host (suc c) (turn_of host here)
      → told_of host (suc (suc b)) here ≡ told_of host (suc (suc c)) here
  enough-by b c here true t rest = told-next host (suc b) here t ∙ sym (told-next host (suc c) here t)
  enough-by b c here false t rest = told-later host (suc b) here t ∙ rest ∙ sym (told-later host (suc c) here t)

  -- two budgets that last to the end lead to the same
  told-enough : (d b c : ℕ) (here : Point) → d ≤ b → d ≤ c → EndsAfter (suc d) here
      → told_of host (suc b) here ≡ told_of host (suc c) here
  told-enough zero b c here l h ends =
      let t = end-told (turn_of host here).request (next-ends here ends) in
      told-next host b here t ∙ sym (told-next host c here t)
  told-enough (suc d) zero c here l h ends = absurd (let no : ⊥ = omega arith in no)
  told-enough (suc d) (suc b) zero here l h ends = absurd (let no : ⊥ = omega arith in no)
  told-enough (suc d) (suc b) (suc c) here l h ends =
      enough-by b c here (is_told (turn_of host here).request) refl
      (told-enough d b c (turn_of host here) (omega arith) (omega arith) (ends_next (suc d) here ends))

  -- ---- the reports that are met

  -- the reports of the first d points from here on
  unfoldable pub reports_of : ℕ → Point → List Reported
  reports_of zero here = []
  reports_of (suc d) here = report_here here ++ reports_of d (turn_of host here)

  -- what is met, by where the next report stands
  abbrev met_at : ℕ → Point → List Reported
  met_at k there = pick (is_end there.request) [] (report_here there ++ met_from host k there)

  met-step : (k : ℕ) (here : Point) → met_from host (suc k) here ≡ met_at k (told_of host budget here)
  unfolding met_from
  met-step k here = refl

  module _ (b : ℕ) (enough : budget ≡ suc (suc b)) where
    told-by : (here : Point) → told_of host budget here ≡ told_of host (suc (suc b)) here
    told-by here = ap (λ (k : ℕ). told_of host k here) enough

    met-told : (k : ℕ) (here : Point) → is_told (turn_of host here).request ≡ true
        → met_from host (suc k) here ≡ met_at k (turn_of host here)
    met-told k here t = met-step k here ∙ ap (met_at k) (told-by here ∙ told-next host (suc b) here t)

    met-later : (d k : ℕ) (here : Point) → d ≤ b → EndsAfter (suc d) (turn_of host here)
        → is_told (turn_of host here).request ≡ false
        → met_from host (suc k) here ≡ met_from host (suc k) (turn_of host here)
    met-later d k here l ends t =
        met-step k here
        ∙ ap (met_at k)
        (told-by here
        ∙ told-later host (suc b) here t
        ∙ told-enough d b (suc b) (turn_of host here) l (omega arith) ends
        ∙ sym (told-by (turn_of host here)))
        ∙ sym (met-step k (turn_of host here))

    -- what follows the next turn, where it is told and where it isn't
    met_by : (d k : ℕ) (here : Point) → d ≤ b → EndsAfter (suc d) (turn_of host here)
        → (x : Bool) → is_told (turn_of host here).request ≡ x
        → report_here (turn_of host here) ++ met_from host (suc k) (turn_of host here)
        ≡ reports_of (suc d) (turn_of host here)
        → report_here (turn_of host here) ++ met_from host (suc (suc k)) (turn_of host here)
        ≡ reports_of (suc d) (turn_of host here)
        → met_from host (suc (suc k)) here ≡ reports_of (suc d) (turn_of host here)
    met_by d k here l ends true t after-it later =
        met-told (suc k) here t ∙ pick_no _ _ (not_yet d (turn_of host here) ends) ∙ after-it
    met_by d k here l ends false t after-it later =
        met-later d (suc k) here l ends t
        ∙ ap (λ (ps : List Reported). ps ++ met_from host (suc (suc k)) (turn_of host here))
        (sym (none_told (turn_of host here).request (turn_of host here).memory.amounts.y t))
        ∙ later

    pub met-reports : (d k : ℕ) (here : Point) → d ≤ k → d ≤ b → EndsAfter (suc d) here
        → report_here here ++ met_from host (suc k) here ≡ reports_of (suc d) here
    unfolding reports_of
    met-reports zero k here l h ends =
        let e = next-ends here ends in
        ap (λ (ps : List Reported). report_here here ++ ps)
        (met-told k here (end-told (turn_of host here).request e) ∙ pick_yes _ _ e)
    met-reports (suc d) zero here l h ends = absurd (let no : ⊥ = omega arith in no)
    met-reports (suc d) (suc k) here l h ends =
        let on = ends_next (suc d) here ends in
        ap (λ (ps : List Reported). report_here here ++ ps)
        (met_by d k here (omega arith) on (is_told (turn_of host here).request) refl
        (met-reports d k (turn_of host here) (omega arith) (omega arith) on)
        (met-reports d (suc k) (turn_of host here) (omega arith) (omega arith) on))

  -- ---- the journal

  pub played-reports : (d : ℕ) (here : Point) (ts : List Turn)
      → reports_in (played (strategy host) (journal here ts) d).turns ≡ reports_in ts ++ reports_of d here
  unfolding played reports_in reports_of next turn_of
  played-reports zero here ts = sym (append-nil (reports_in ts))
  played-reports (suc d) here ts =
      ap (λ (j : Journal). reports_in j.turns) (first-played (strategy host) d (journal here ts))
      ∙ played-reports d _ _
      ∙ append_assoc (reports_in ts) (report_here here) (reports_of d (turn_of host here))

-- two hosts that do the same at each point play the same journal
pub play-alike : (f g : Answering) (k : ℕ) (j : Journal)
    → ((i : ℕ) → i < k → (let here = (played (strategy f) j i).point in done_at f here ≡ done_at g here))
    → played (strategy f) j k ≡ played (strategy g) j k
unfolding played
play-alike f g zero j same = refl
play-alike f g (suc k) j same =
    ap (next (played (strategy f) j k)) (same k (omega arith))
    ∙ ap (λ (i : Journal). next i (strategy g i)) (play-alike f g k j (λ i l. same i (omega arith)))
