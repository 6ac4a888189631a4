-- Bytes that begin totals: what they say of the lines that came, and of those that can still come.
use Rattle.std.proofs.Common.{◌^◌, Option, None, Some, subst}
use Rattle.std.proofs.Common.{◌≡◌, ℕ, zero, suc, ◌+◌, ◌<◌, ◌≤◌, true, false, eqb, List, [], ◌∷◌, ◌++◌, length, take}
use Rattle.std.proofs.Common.{drop, sym, refl, ap, ◌∙◌, append_assoc, append-nil, arith, take-append-drop}
use Rattle.std.proofs.Common.{take_all}
use borrow.Author.Tests.{eqb-false}
use Rattle.words.specs.Loop.{pick}
use Rattle.forecast_text.specs.Printed.{text}
use Rattle.night_totals.specs.Form.{spelt}
use Rattle.night_totals.specs.Filling.{blank_of, numbered_at, kept, filled_of}
use Rattle.night_totals.specs.Printed.{totals_form, totals_from, printed_of}
use Rattle.night_totals.specs.declared.filling.Filling.{Filling}
use Rattle.night_totals.specs.declared.filling.Number.{Number}
use Rattle.night_totals.specs.declared.filling.Number.TheVariants as numbers
use Rattle.night_totals.specs.declared.totals.Totals.{Totals}
use Rattle.night_totals.proofs.FormLaws.{by_number, slots_in, slots-append, spelt-append}
use Rattle.night_totals.proofs.SoundLaws.{begun, past, Sound, Next, blank-sound, blank-past, idle-off, filled_next}
use Rattle.night_totals.proofs.SoundLaws.{kept-past}
use Rattle.night_totals.proofs.CompleteLaws.{filled_from, fill_of, fill-append}
use Rattle.night_totals.proofs.LineLaws.{ends-wrong}
use Rattle.night_totals.proofs.WrittenLaws.{form-length, form-slots}
use Rattle.night_chain.specs.Texts.{printed, Short, first_lines, Begins}
use Rattle.night_chain.proofs.TextLaws.{ended, behind, first-behind, ended-append, first-append, ended-first}
use Rattle.night_chain.proofs.TextLaws.{early-lines, Meet, longer, shorter, meet, first_byte}
use Rattle.night_chain.proofs.FewLaws.{Few, AllFew, blank-few, kept-few, filled-few, totals-short}
use Rattle.night_chain.proofs.PrintedLaws.{numeral-plain, ended-spelt, form-ended}
use Rattle.night_chain.proofs.PrintedLaws.{form-ends, printed_ended, printed-filled}

-- the bytes of totals that have begun, and are not whole yet
pub record Run (come : List ℕ) (q : Filling) : Type 0 where
  pub by : fill_of totals_form (Some blank_of) come ≡ Some q
  pub early : eqb q.at 138 ≡ false
  pub sound : Sound totals_form q
  pub few : Few q
  pub is : past totals_form q ≡ come

pub run-blank : Run [] blank_of
unfolding fill_of
run-blank = record {
  by = refl;
  early = refl;
  sound = blank-sound totals_form;
  few = blank-few;
  is = blank-past totals_form;
}

module _ (come : List ℕ) (q : Filling) (b : ℕ) (x : Run come q) (r : Filling)
    (next : filled_of totals_form q b ≡ Some r) where
  short : length totals_form < 2 ^ 32
  short = omega (arith, form-length)

  of-next : Next totals_form short (past totals_form q) b (Some r)
  of-next = subst (Next totals_form short (past totals_form q) b) next (filled_next totals_form short q x.sound b)

  pub next-sound : Sound totals_form r
  next-sound = of-next.0

  pub next_past : past totals_form r ≡ come ++ (b ∷ [])
  next_past = of-next.1 ∙ ap (λ l. l ++ (b ∷ [])) x.is

  pub next-few : Few r
  next-few = subst AllFew next (filled-few totals_form q b x.few)

  pub run_more : eqb r.at 138 ≡ false → Run (come ++ (b ∷ [])) r
  unfolding fill_of
  run_more n = record {
    by =
        fill-append totals_form (Some blank_of) come (b ∷ [])
        ∙ ap (λ (o : Option Filling). filled_from totals_form o b) x.by ∙ next;
    early = n;
    sound = next-sound;
    few = next-few;
    is = next_past;
  }

-- ---- at the end of the form, and at its beginning

end-plain : numbered_at totals_form 138 ≡ false
unfolding numbered_at text
end-plain = refl

start_plain : numbered_at totals_form 0 ≡ false
unfolding numbered_at text
start_plain = refl

past-idle : (q : Filling) {v : ℕ} → q.number ≡ numbers.Awaited v
    → past totals_form q ≡ spelt (take q.at totals_form) 0 q.values
unfolding past
past-idle q off = ap (λ n. spelt (take q.at totals_form) 0 q.values ++ begun n) off ∙ append-nil _

printed-from : (vs : List ℕ) → spelt totals_form 0 vs ≡ printed (totals_from vs)
unfolding spelt text pick printed_of
printed-from vs = refl

pub past-whole : (q : Filling) → Sound totals_form q → q.at ≡ 138 → past totals_form q ≡ printed (totals_from q.values)
past-whole q s e =
    past-idle q (idle-off totals_form q s (ap (numbered_at totals_form) e ∙ end-plain)).is
    ∙ ap (λ f. spelt f 0 q.values) (take_all q.at totals_form (omega (arith, form-length)))
    ∙ printed-from q.values

pub past-none : (q : Filling) → Sound totals_form q → q.at ≡ 0 → past totals_form q ≡ []
unfolding spelt
past-none q s e =
    past-idle q (idle-off totals_form q s (ap (numbered_at totals_form) e ∙ start_plain)).is
    ∙ ap (λ k. spelt (take k totals_form) 0 q.values) e

-- the form begins with an l
some-past : (k : ℕ) (vs more : List ℕ) → spelt (take (suc k) totals_form) 0 vs ++ more ≡ [] → ⊥
unfolding spelt text pick
some-past k vs more e = let z : ◌≡◌ {A = ℕ} 0 1 = cc in omega arith

none-by : (k : ℕ) (vs more : List ℕ) → spelt (take k totals_form) 0 vs ++ more ≡ [] → k ≡ 0
none-by zero vs more e = refl
none-by (suc k) vs more e = absurd (some-past k vs more e)

none-zero : (q : Filling) → past totals_form q ≡ [] → q.at ≡ 0
unfolding past
none-zero q e = none-by q.at q.values _ e

some_or_none : (c : List ℕ) → (c ≡ [] → ⊥) → 0 < length c
some_or_none [] h = absurd (h refl)
some_or_none (x ∷ c) h = omega arith

pub begun-some : (come : List ℕ) (q : Filling) → Run come q → eqb q.at 0 ≡ false → 0 < length come
begun-some come q x n = some_or_none come (λ e. eqb-false _ _ n (none-zero q (x.is ∙ e)))

-- ---- fewer than fourteen lines have come

begun-plain : (n : Number) → ended (begun n) ≡ 0
unfolding ended
begun-plain (numbers.Awaited v) = refl
begun-plain (numbers.Begun v) = numeral-plain v

past-ended : (q : Filling) → ended (past totals_form q) ≡ ended (take q.at totals_form)
unfolding past ended
past-ended q =
    ended-append (spelt (take q.at totals_form) 0 q.values) _
    ∙ let z : ended (begun q.number) ≡ 0 = begun-plain q.number in
    omega (arith, ended-spelt (take q.at totals_form) 0 q.values)

less : (a b : ℕ) → a ≤ b → (a ≡ b → ⊥) → a < b
less zero zero l h = absurd (h refl)
less zero (suc b) l h = omega arith
less (suc a) zero l h = absurd (let z : ⊥ = omega arith in z)
less (suc a) (suc b) l h = let k : a < b = less a b (omega arith) (λ e. h (ap suc e)) in omega arith

pub lines-few : (come : List ℕ) (q : Filling) → Run come q → ended come < 14
lines-few come q x =
    let l : q.at < 138 = less q.at 138 (omega (arith, x.sound.within, form-length)) (eqb-false _ _ x.early) in
    let e : ended come ≡ ended (take q.at totals_form) = ap ended (sym x.is) ∙ past-ended q in
    omega (arith, early-lines totals_form q.at (omega (arith, form-length)) form-ends, form-ended)

-- ---- what has begun can be brought to an end

record Ahead (come : List ℕ) : Type 0 where
  t : Totals
  short : Short t
  rest : List ℕ
  is : come ++ rest ≡ printed t

ahead-idle : (q : Filling) {v : ℕ} → Few q → q.number ≡ numbers.Awaited v → Ahead (past totals_form q)
ahead-idle q f off =
    let front = take q.at totals_form in
    let back = drop q.at totals_form in
    record {
      t = totals_from q.values;
      short = totals-short q.values f.values;
      rest = spelt back (0 + slots_in front) q.values;
      is =
          ap (λ l. l ++ spelt back (0 + slots_in front) q.values) (past-idle q off)
          ∙ sym (spelt-append front back 0 q.values)
          ∙ ap (λ l. spelt l 0 q.values) (take-append-drop q.at totals_form)
          ∙ printed-from q.values;
    }

-- fewer than fifteen numbers stand before a number
slots-left : (at : ℕ) → numbered_at totals_form at ≡ true → slots_in (take at totals_form) < 16
slots-left at slot =
    let z : slots_in (take at totals_form) + slots_in (drop at totals_form) ≡ 15 =
    sym (slots-append (take at totals_form) (drop at totals_form)) ∙ ap slots_in (take-append-drop at totals_form)
    ∙ form-slots in
    omega arith

ahead : (come : List ℕ) (q : Filling) → Run come q → Ahead come
ahead come q x =
    rw (← x.is) (by_number q.number
    (λ v off. ahead-idle q x.few off)
    (λ v y. let slot = x.sound.here v y in
    let n : q.filled < 16 = omega (arith, x.sound.counted, slots-left q.at slot) in
    let p = kept-past totals_form (omega (arith, form-length)) q x.sound slot v y n in
    rw (← p) (ahead-idle (kept q v) (kept-few q v (x.few.number v y) x.few) refl)))

pub run-begins : (come : List ℕ) (q : Filling) (more : List ℕ) → Run come q → Begins (ended come) (come ++ more)
run-begins come q more x =
    let a = ahead come q x in
    let n = ended come in
    let e : first_lines (printed a.t) n ≡ first_lines come n =
    ap (λ s. first_lines s n) (sym a.is) ∙ first-append come a.rest n (omega arith) in
    record {
      t = a.t;
      short = a.short;
      rest = behind come n ++ more;
      is =
          ap (λ l. l ++ more) (sym (first-behind come n)) ∙ append_assoc (first_lines come n) (behind come n) more
          ∙ ap (λ l. l ++ (behind come n ++ more)) (sym e);
    }

-- ---- and no line more stands at the front

front-ended : (u : Totals) (n : ℕ) → n < 14 → ended (first_lines (printed u) (suc n)) ≡ suc n
front-ended u n l = ended-first (printed u) (suc n) (omega (arith, printed_ended u))

pub run-no-more : (come : List ℕ) (q : Filling) → Run come q → Begins (suc (ended come)) come → ⊥
run-no-more come q x y =
    let l : ended come < 14 = lines-few come q x in
    let s = first_lines (printed y.t) (suc (ended come)) in
    let e : ended come ≡ ended s + ended y.rest = ap ended y.is ∙ ended-append s y.rest in
    omega (arith, front-ended y.t (ended come) l)

module _ (come : List ℕ) (q : Filling) (b : ℕ) (more : List ℕ) (x : Run come q)
    (bad : filled_of totals_form q b ≡ None) where
  -- no totals go on with such a byte
  no_front : (u : Totals) → Short u → (s : List ℕ) → printed u ≡ come ++ (b ∷ s) → ⊥
  unfolding fill_of
  no_front u h s e =
      let z : fill_of totals_form (Some blank_of) (printed u) ≡ fill_of totals_form (filled_of totals_form q b) s =
      ap (fill_of totals_form (Some blank_of)) e ∙ fill-append totals_form (Some blank_of) come (b ∷ s)
      ∙ ap (λ (o : Option Filling). fill_of totals_form o (b ∷ s)) x.by in
      ends-wrong totals_form (filled_of totals_form q b) s bad (sym z ∙ printed-filled u h)

  module _ (y : Begins (suc (ended come)) (come ++ (b ∷ more))) where
    abbrev front : List ℕ
    front = first_lines (printed y.t) (suc (ended come))

    abbrev tail : List ℕ
    tail = behind (printed y.t) (suc (ended come))

    counted : ended front ≡ suc (ended come)
    counted = front-ended y.t (ended come) (lines-few come q x)

    cut : Meet come (b ∷ more) front y.rest → ⊥
    unfolding ended
    cut (shorter e p) =
        let z : ended come ≡ ended front + ended e = ap ended p ∙ ended-append front e in omega (arith, counted)
    cut (longer [] p r) =
        let z : ended front ≡ ended come = ap ended p ∙ ap ended (append-nil come) in omega (arith, counted)
    cut (longer (c ∷ e) p r) =
        let h : b ≡ c = first_byte b c more (e ++ y.rest) r in
        no_front y.t y.short (e ++ tail)
        (sym (first-behind (printed y.t) (suc (ended come))) ∙ ap (λ l. l ++ tail) p
        ∙ append_assoc come (c ∷ e) tail ∙ ap (λ d. come ++ (d ∷ (e ++ tail))) (sym h))

    pub wrong-no-more : ⊥
    wrong-no-more = cut (meet come (b ∷ more) front y.rest y.is)
