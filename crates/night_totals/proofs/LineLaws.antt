-- A fit line is taken whole, and added.
use Rattle.std.proofs.Common.{◌≡◌, ℕ, zero, suc, ◌+◌, ◌<◌, ◌≤◌, true, false, eqb, List, [], ◌∷◌, ◌++◌, length}
use Rattle.std.proofs.Common.{get_or, sym, refl, ap, ◌∙◌, append_assoc, append-nil, arith, length-append}
use Rattle.std.proofs.Common.{le-ltb, eq-eqb, eqb-true, le-leb}
use Rattle.std.proofs.Common.{Option, None, Some}
use Rattle.std.proofs.lemmas.Bool.{and_left, and_right}
use borrow.Author.Tests.{lt-leb, eqb-false}
use Rattle.words.specs.Loop.{pick}
use Rattle.words.proofs.Branch.{pick_yes, pick_no, pick_all}
use Rattle.forecast_text.specs.Printed.{text}
use Rattle.night_totals.specs.Entries.{line_form, numbers_of, line_of, written, known_status, fit_entry, Fit, AllFit}
use Rattle.night_totals.specs.Entries.{none, and}
use Rattle.night_totals.specs.Totals.{totals_of}
use Rattle.night_totals.specs.Filling.{blank_of, numbered_at, passed_of, filled_of}
use Rattle.night_totals.specs.Night.{added_of, entry_from, night_at, full_of, judged_of, step_of, fed_of}
use Rattle.night_totals.specs.declared.entry.Entry.{Entry}
use Rattle.night_totals.specs.declared.filling.Filling.{Filling}
use Rattle.night_totals.specs.declared.totals.Totals.{Totals}
use Rattle.night_totals.specs.declared.night.Night.{Night}
use Rattle.night_totals.specs.declared.night.Stand.TheVariants as stands
use Rattle.night_totals.proofs.FedLaws.{fed_then}
use Rattle.night_totals.proofs.FormLaws.{slots_in, split, opened, none-some}
use Rattle.night_totals.proofs.CompleteLaws.{fill_of, proper_from, set_in, state_at, filled-whole}
use Rattle.night_totals.proofs.TotalsLaws.{counted, known-cases, added_is}

-- ---- the form of a line

pub line-length : length line_form ≡ 56
unfolding text
line-length = refl

line-proper : proper_from false line_form ≡ true
unfolding text proper_from pick
line-proper = refl

line-slots : slots_in line_form ≡ 7
unfolding text slots_in pick
line-slots = refl

-- ---- behind the form, and once it is wrong

past-filled : (form : List ℕ) (q : Filling) (b : ℕ) → length form ≤ q.at → filled_of form q b ≡ None
unfolding filled_of numbered_at passed_of
past-filled form q b h =
    pick_all (λ (o : Option Filling). o ≡ None) (eqb b 35) None _ (λ e. refl)
    (λ e. pick_no _ _ (and_left _ _ (le-ltb q.at (length form) h)) ∙ pick_yes _ _ (le-leb _ _ h))

pub wrong-stays : (form s : List ℕ) → fill_of form None s ≡ None
unfolding fill_of
wrong-stays form [] = refl
wrong-stays form (b ∷ s) = wrong-stays form s

pub ends-wrong : (form : List ℕ) (o : Option Filling) (s : List ℕ) {r : Filling} → o ≡ None → fill_of form o s ≡ Some r
    → ⊥
ends-wrong form o s e h = none-some (sym (ap (λ p. fill_of form p s) e ∙ wrong-stays form s) ∙ h)

-- ---- steps within a line

pub not_full : (q : Filling) (t : Totals) → t.lines < 65535 → full_of q t ≡ false
unfolding full_of
not_full q t h = and_right _ _ (lt-leb _ _ h)

module _ (t : Totals) (few : t.lines < 65535) where
  pub step-judged : (q : Filling) (b : ℕ) → step_of (night_at stands.Open q t) b ≡ judged_of t (filled_of line_form q b)
  unfolding step_of
  step-judged q b = pick_no _ _ (not_full q t few)

  pub judged-on : (q : Filling) → eqb q.at 56 ≡ false → judged_of t (Some q) ≡ night_at stands.Open q t
  unfolding judged_of
  judged-on q n = pick_no _ _ n

  -- a text that comes to the end of the form is judged there
  line-judged : (s : List ℕ) (q r : Filling) → eqb q.at 56 ≡ false → fill_of line_form (Some q) s ≡ Some r
      → r.at ≡ 56 → fed_of (night_at stands.Open q t) s ≡ judged_of t (Some r)
  unfolding fill_of fed_of
  line-judged [] q r n h e = let z : q ≡ r = cc in absurd (eqb-false _ _ n (ap (λ (p : Filling). p.at) z ∙ e))
  line-judged (b ∷ []) q r n h e = step-judged q b ∙ ap (judged_of t) h
  line-judged (b ∷ c ∷ s) q r n h e =
      opened (filled_of line_form q b)
      (λ none. absurd (ends-wrong line_form (filled_of line_form q b) (c ∷ s) none h))
      (λ q₁ is. let h₁ : fill_of line_form (Some q₁) (c ∷ s) ≡ Some r =
      ap (λ o. fill_of line_form o (c ∷ s)) (sym is) ∙ h in
      split (eqb q₁.at 56)
      (λ y. let z : q₁.at ≡ 56 = eqb-true _ _ y in
      let l : length line_form ≤ q₁.at = omega (arith, line-length) in
      absurd (ends-wrong line_form (filled_of line_form q₁ c) s (past-filled line_form q₁ c l) h₁))
      (λ f. ap (λ (m : Night). fed_of m (c ∷ s)) (step-judged q b ∙ ap (judged_of t) is ∙ judged-on q₁ f)
      ∙ line-judged (c ∷ s) q₁ r f h₁ e))

-- ---- the line of an entry

few-status : (s : ℕ) → known_status s ≡ true → s < 10000000000000000
few-status =
    known-cases (λ s. s < 10000000000000000)
    (omega arith) (omega arith) (omega arith) (omega arith) (omega arith) (omega arith)

few-numbers : (e : Entry) → Fit e → (k : ℕ) → get_or (numbers_of e) k 0 < 10000000000000000
few-numbers e f zero = few-status e.status (counted e f).status
few-numbers e f (suc zero) = omega (arith, (counted e f).accepted)
few-numbers e f (suc (suc zero)) = omega (arith, (counted e f).rejected)
few-numbers e f (suc (suc (suc zero))) = omega (arith, (counted e f).total)
few-numbers e f (suc (suc (suc (suc zero)))) = omega (arith, (counted e f).ode)
few-numbers e f (suc (suc (suc (suc (suc zero))))) = omega (arith, (counted e f).jac)
few-numbers e f (suc (suc (suc (suc (suc (suc zero)))))) = omega (arith, (counted e f).lu)
few-numbers e f (suc (suc (suc (suc (suc (suc (suc k))))))) = omega arith

abbrev come : Entry → Filling
come e = state_at line_form (slots_in line_form) (set_in line_form 0 blank_of.values (numbers_of e))

come-entry : (e : Entry) → entry_from (come e).values ≡ e
unfolding set_in text pick
come-entry e = refl

come-judged : (t : Totals) (e : Entry) → Fit e
    → judged_of t (Some (come e)) ≡ night_at stands.Open blank_of (added_of t e)
unfolding judged_of
come-judged t e f =
    pick_yes _ _ (eq-eqb _ _ line-length) ∙ pick_yes _ _ (ap fit_entry (come-entry e) ∙ f)
    ∙ ap (λ x. night_at stands.Open blank_of (added_of t x)) (come-entry e)

-- ---- the record where a line begins

abbrev pub at_line : List Entry → Night
at_line es = night_at stands.Open blank_of (totals_of es)

module _ (es : List Entry) (fit : AllFit es) (few : length es < 65535) (e : Entry) (line : Fit e) where
  pub line-fed : fed_of (at_line es) (line_of e) ≡ at_line (es ++ (e ∷ []))
  line-fed =
      let w = filled-whole (numbers_of e) (few-numbers e line) line_form line-proper (omega (arith, line-slots))
      (omega (arith, line-length)) in
      line-judged (totals_of es) few (line_of e) blank_of (come e) refl w line-length
      ∙ come-judged (totals_of es) e line
      ∙ ap (λ t. night_at stands.Open blank_of t) (added_is es fit few e line)

pub fit-one : {es : List Entry} (e : Entry) → AllFit es → Fit e → AllFit (es ++ (e ∷ []))
fit-one e none f = and f none
fit-one e (and g h) f = and g (fit-one e h f)

pub lines-fed : (fs es : List Entry) → AllFit es → AllFit fs → length es + length fs ≤ 65535
    → fed_of (at_line es) (written fs) ≡ at_line (es ++ fs)
unfolding written fed_of
lines-fed [] es h g l = ap at_line (sym (append-nil es))
lines-fed (f ∷ fs) es h (and p g) l =
    sym (fed_then (at_line es) (line_of f) (written fs))
    ∙ ap (λ (n : Night). fed_of n (written fs)) (line-fed es h (omega arith) f p)
    ∙ lines-fed fs (es ++ (f ∷ [])) (fit-one f h p) g (omega (arith, length-append es (f ∷ [])))
    ∙ ap at_line (append_assoc es (f ∷ []) fs)
