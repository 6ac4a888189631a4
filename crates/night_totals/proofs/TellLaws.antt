-- What is told of a text is what it comes to, and nothing else is.
use Rattle.std.proofs.lemmas.Bool.{and_from}
use Rattle.std.proofs.Common.{Result, Ok, Err}
use Rattle.std.proofs.Common.{◌≡◌, ℕ, suc, ◌<◌, ◌≤◌, false, eqb, ◌↔◌, List, [], ◌∷◌, ◌++◌, length, sym, refl, ap}
use Rattle.std.proofs.Common.{◌∙◌, append_assoc, append-nil, mod-eq_of_lt, add-one, arith, eqb-true, le-leb}
use Rattle.words.proofs.Branch.{pick_yes, pick_no}
use Rattle.night_totals.specs.Entries.{line_of, written, Fit, AllFit, none, and}
use Rattle.night_totals.specs.Totals.{sum_of, runs_of, largest_of, first_of, totals_of}
use Rattle.night_totals.specs.Reads.{Reads, totals, malformed, too_many}
use Rattle.night_totals.specs.Filling.{blank_of}
use Rattle.night_totals.specs.Night.{plus, night_at, wrong_at, start_of, full_of, step_of, fed_of, told_of}
use Rattle.night_totals.specs.declared.entry.Entry.{Entry}
use Rattle.night_totals.specs.declared.filling.Filling.{Filling}
use Rattle.night_totals.specs.declared.totals.Totals.{Totals}
use Rattle.night_totals.specs.declared.night.Night.{Night}
use Rattle.night_totals.specs.declared.night.Stand.TheVariants as stands
use Rattle.night_totals.specs.declared.night.NightError.{NightError}
use Rattle.night_totals.specs.declared.night.NightError.TheVariants as night_error
use Rattle.night_totals.proofs.FedLaws.{fed_then}
use Rattle.night_totals.proofs.FormLaws.{split}
use Rattle.night_totals.proofs.LineLaws.{at_line, lines-fed}
use Rattle.night_totals.proofs.StandLaws.{Going, Wrong, Stand, going, wrong, beyond}
use Rattle.night_totals.proofs.StandLaws.{same-either, past-none, begun-some, stand, no-line}

abbrev malformed_at : ℕ → Result Totals NightError
malformed_at line = Err (night_error.Malformed line)

start_is : start_of ≡ at_line []
unfolding sum_of runs_of largest_of first_of
start_is = refl

next-line : (n : ℕ) → n ≤ 65535 → plus n 1 ≡ suc n
next-line n h = mod-eq_of_lt (omega arith) ∙ add-one n

behind : (gs : List Entry) (c s : List ℕ) → s ≡ written gs ++ c → AllFit gs → length gs ≤ 65535
    → fed_of (at_line []) s ≡ fed_of (at_line gs) c
behind gs c s is h l =
    ap (fed_of (at_line [])) is ∙ sym (fed_then (at_line []) (written gs) c)
    ∙ ap (λ (n : Night). fed_of n c) (lines-fed gs [] none h (omega arith))

-- ---- what is told at each stand

module _ (q : Filling) (t : Totals) where
  told-totals : q.at ≡ 0 → told_of (night_at stands.Open q t) ≡ Ok t
  unfolding told_of
  told-totals e = pick_yes _ _ (rw e refl)

  told-open : t.lines ≤ 65535 → eqb q.at 0 ≡ false → told_of (night_at stands.Open q t) ≡ malformed_at (suc t.lines)
  unfolding told_of
  told-open l n = pick_no _ _ n ∙ ap malformed_at (next-line t.lines l)

told-wrong : (t : Totals) → t.lines ≤ 65535 → told_of (wrong_at t) ≡ malformed_at (suc t.lines)
unfolding told_of
told-wrong t l = ap malformed_at (next-line t.lines l)

told-beyond : (q : Filling) (t : Totals) → told_of (night_at stands.Beyond q t) ≡ Err night_error.TooMany
unfolding told_of
told-beyond q t = refl

-- ---- what is told is right

module _ (s : List ℕ) (n : Night) (is : n ≡ fed_of (at_line []) s) where
  no-further : (gs : List Entry) (c : List ℕ) → s ≡ written gs ++ c → AllFit gs → length gs < 65535
      → n.totals.lines ≡ length gs → (e : Entry) (tail : List ℕ) → Fit e → c ≡ line_of e ++ tail → ⊥
  no-further gs c by h l same =
      no-line gs h l c (ap (λ (m : Night). m.totals.lines) (sym (is ∙ behind gs c s by h (omega arith))) ∙ same)

  reads-going : (x : Going [] s n) → Reads s (told_of n)
  reads-going x =
      let gs = x.by.fs in
      let c = x.by.c in
      split (eqb x.q.at 0)
      (λ y. let z : x.q.at ≡ 0 = eqb-true _ _ y in
      rw (x.at, told-totals x.q (totals_of gs) z)
      (totals gs (x.by.is ∙ ap (λ l. written gs ++ l) (sym x.come ∙ past-none x.q x.sound z) ∙ append-nil _)
      x.by.fit x.few))
      (λ f. let some = begun-some x f in
      rw (x.at, told-open x.q (totals_of gs) x.few f)
      (malformed gs c x.by.is x.by.fit (x.inside some) some
      (no-further gs c x.by.is x.by.fit (x.inside some) (ap (λ (m : Night). m.totals.lines) x.at))))

  reads-wrong : (x : Wrong [] s n) → Reads s (told_of n)
  reads-wrong x =
      let gs = x.by.fs in
      let c = x.by.c in
      let l : length gs < 65535 = x.few in
      rw (x.at, told-wrong (totals_of gs) (omega arith))
      (malformed gs c x.by.is x.by.fit l x.some
      (no-further gs c x.by.is x.by.fit l (ap (λ (m : Night). m.totals.lines) x.at)))

  reads-by : Stand [] s n → Reads s (told_of n)
  reads-by (going x) = reads-going x
  reads-by (wrong x) = reads-wrong x
  reads-by (beyond x) =
      rw (x.at, told-beyond x.q (totals_of x.by.fs))
      (too_many x.by.fs x.by.c x.by.is x.by.fit x.all x.some)

pub told-right : (s : List ℕ) → Reads s (told_of (fed_of start_of s))
told-right s =
    rw start_is (reads-by s (fed_of (at_line []) s) refl (stand [] none (omega arith) s))

-- ---- and it is the only one

fit-second : (es : List Entry) (f : Entry) (fs : List Entry) → AllFit (es ++ (f ∷ fs)) → Fit f
fit-second [] f fs (and g h) = g
fit-second (e ∷ es) f fs (and g h) = fit-second es f fs h

beyond-stays : (q : Filling) (t : Totals) (s : List ℕ)
    → fed_of (night_at stands.Beyond q t) s ≡ night_at stands.Beyond q t
unfolding fed_of step_of
beyond-stays q t [] = refl
beyond-stays q t (b ∷ s) = ap (λ (n : Night). fed_of n s) (same-either _ _) ∙ beyond-stays q t s

beyond-step : (t : Totals) (b : ℕ) → 65535 ≤ t.lines
    → step_of (night_at stands.Open blank_of t) b ≡ night_at stands.Beyond blank_of t
unfolding step_of full_of
beyond-step t b h = pick_yes _ _ (and_from _ _ refl (le-leb _ _ h))

told-too-many : (t : Totals) (rest : List ℕ) → 65535 ≤ t.lines → 0 < length rest
    → told_of (fed_of (night_at stands.Open blank_of t) rest) ≡ (Err night_error.TooMany)
unfolding fed_of
told-too-many t [] h l = absurd (let z : ⊥ = omega arith in z)
told-too-many t (b ∷ rest) h l =
    ap (λ (n : Night). told_of (fed_of n rest)) (beyond-step t b h)
    ∙ ap told_of (beyond-stays blank_of t rest) ∙ told-beyond blank_of t

module _ (es : List Entry) (rest : List ℕ) (few : length es < 65535) (some : 0 < length rest)
    (never : (e : Entry) (tail : List ℕ) → Fit e → rest ≡ line_of e ++ tail → ⊥) where
  -- the first of the lines that would follow
  no_front : (fs : List Entry) (c : List ℕ) → rest ≡ written fs ++ c → AllFit (es ++ fs)
      → (fs ≡ []) × (c ≡ rest)
  unfolding written
  no_front [] c is h = (refl, sym is)
  no_front (f ∷ fs) c is h =
      absurd (never f (written fs ++ c) (fit-second es f fs h) (is ∙ append_assoc (line_of f) (written fs) c))

  as_many : (fs : List Entry) → fs ≡ [] → length (es ++ fs) ≡ length es
  as_many fs e = ap (λ l. length (es ++ l)) e ∙ ap length (append-nil es)

  told-malformed : (n : Night) → Stand es rest n → told_of n ≡ malformed_at (suc (length es))
  told-malformed n (going x) =
      let k = no_front x.by.fs x.by.c x.by.is x.by.fit in
      let m : length (es ++ x.by.fs) ≡ length es = as_many x.by.fs k.0 in
      split (eqb x.q.at 0)
      (λ y. let z : rest ≡ [] = sym k.1 ∙ sym x.come ∙ past-none x.q x.sound (eqb-true _ _ y) in
      absurd (let w : length rest ≡ 0 = ap length z in omega arith))
      (λ f. ap told_of x.at ∙ told-open x.q (totals_of (es ++ x.by.fs)) x.few f
      ∙ ap (λ j. malformed_at (suc j)) m)
  told-malformed n (wrong x) =
      let k = no_front x.by.fs x.by.c x.by.is x.by.fit in
      let l : length (es ++ x.by.fs) < 65535 = x.few in
      ap told_of x.at ∙ told-wrong (totals_of (es ++ x.by.fs)) (omega arith)
      ∙ ap (λ j. malformed_at (suc j)) (as_many x.by.fs k.0)
  told-malformed n (beyond x) =
      let k = no_front x.by.fs x.by.c x.by.is x.by.fit in
      let m : length (es ++ x.by.fs) ≡ length es = as_many x.by.fs k.0 in
      let a : length (es ++ x.by.fs) ≡ 65535 = x.all in
      absurd (let z : ⊥ = omega arith in z)

pub told-only : (s : List ℕ) (a : Result Totals NightError) → Reads s a → told_of (fed_of start_of s) ≡ a
told-only s a (totals es is h l) =
    ap (λ (n : Night). told_of (fed_of n s)) start_is ∙ ap (λ x. told_of (fed_of (at_line []) x)) is
    ∙ ap told_of (lines-fed es [] none h (omega arith))
    ∙ told-totals blank_of (totals_of es) refl
told-only s a (malformed es rest is h l some never) =
    ap (λ (n : Night). told_of (fed_of n s)) start_is
    ∙ ap told_of (behind es rest s is h (omega arith))
    ∙ told-malformed es rest l some never (fed_of (at_line es) rest) (stand es h (omega arith) rest)
told-only s a (too_many es rest is h l some) =
    ap (λ (n : Night). told_of (fed_of n s)) start_is
    ∙ ap told_of (behind es rest s is h (omega arith))
    ∙ told-too-many (totals_of es) rest (omega arith) some

pub told-exactly-proof : (s : List ℕ) (a : Result Totals NightError) → (told_of (fed_of start_of s) ≡ a) ↔ Reads s a
told-exactly-proof s a = (λ e. rw e at (told-right s), told-only s a)
