-- Where the record stands after any bytes behind whole lines.
use Rattle.std.proofs.Common.{Option, Some, Bool, subst, eq-eqb}
use Rattle.std.proofs.lemmas.Bool.{and_parts, and_from}
use Rattle.std.proofs.Common.{◌≡◌, ℕ, zero, suc, ◌+◌, ◌<◌, ◌≤◌, true, false, eqb, leb, List, [], ◌∷◌, ◌++◌, length}
use Rattle.std.proofs.Common.{take, sym, refl, ap, ◌∙◌, true≢false, append_assoc, append-nil, le_antisymm, arith}
use Rattle.std.proofs.Common.{length-append, take_all, eqb-true, leb-false, leb-true}
use borrow.Author.Tests.{eqb-false}
use Rattle.words.specs.Loop.{pick}
use Rattle.words.proofs.Branch.{pick_yes, pick_no, pick_all}
use Rattle.forecast_text.specs.Printed.{text}
use Rattle.night_totals.specs.Form.{spelt}
use Rattle.night_totals.specs.Entries.{line_form, line_of, written, fit_entry, Fit, AllFit}
use Rattle.night_totals.specs.Totals.{totals_of}
use Rattle.night_totals.specs.Filling.{blank_of, numbered_at, filled_of}
use Rattle.night_totals.specs.Night.{added_of, entry_from, night_at, wrong_at, full_of, judged_of, step_of, fed_of}
use Rattle.night_totals.specs.declared.entry.Entry.{Entry}
use Rattle.night_totals.specs.declared.filling.Filling.{Filling}
use Rattle.night_totals.specs.declared.totals.Totals.{Totals}
use Rattle.night_totals.specs.declared.night.Night.{Night}
use Rattle.night_totals.specs.declared.night.Stand.TheVariants as stands
use Rattle.night_totals.proofs.FedLaws.{fed_then}
use Rattle.night_totals.proofs.SoundLaws.{begun, past, Sound, Next, blank-sound, blank-past, idle-off, filled_next}
use Rattle.night_totals.proofs.FormLaws.{split, opened}
use Rattle.night_totals.proofs.TotalsLaws.{added_is}
use Rattle.night_totals.proofs.LineLaws.{line-length, not_full, step-judged, at_line, fit-one, line-fed}

-- the bytes behind the lines es are the lines fs, and then those of c
pub record Split (es : List Entry) (s : List ℕ) : Type 0 where
  pub fs : List Entry
  pub c : List ℕ
  pub is : s ≡ written fs ++ c
  pub fit : AllFit (es ++ fs)

-- within a line, or where one begins
pub record Going (es : List Entry) (s : List ℕ) (n : Night) : Type 0 where
  pub by : Split es s
  pub q : Filling
  pub at : n ≡ night_at stands.Open q (totals_of (es ++ by.fs))
  pub few : length (es ++ by.fs) ≤ 65535
  pub sound : Sound line_form q
  pub early : eqb q.at 56 ≡ false
  pub come : past line_form q ≡ by.c
  pub inside : 0 < length by.c → length (es ++ by.fs) < 65535

pub record Wrong (es : List Entry) (s : List ℕ) (n : Night) : Type 0 where
  pub by : Split es s
  pub at : n ≡ wrong_at (totals_of (es ++ by.fs))
  pub few : length (es ++ by.fs) < 65535
  pub some : 0 < length by.c

pub record Beyond (es : List Entry) (s : List ℕ) (n : Night) : Type 0 where
  pub by : Split es s
  pub q : Filling
  pub at : n ≡ night_at stands.Beyond q (totals_of (es ++ by.fs))
  pub all : length (es ++ by.fs) ≡ 65535
  pub some : 0 < length by.c

pub data Stand (es : List Entry) (s : List ℕ) (n : Night) : Type 0 where
  going : Going es s n → Stand es s n
  wrong : Wrong es s n → Stand es s n
  beyond : Beyond es s n → Stand es s n

-- ---- one byte more

longer : {es : List Entry} {s : List ℕ} (b : ℕ) → Split es s → Split es (s ++ (b ∷ []))
longer {es} {s} b x = record {
  fs = x.fs;
  c = x.c ++ (b ∷ []);
  is = ap (λ l. l ++ (b ∷ [])) x.is ∙ append_assoc (written x.fs) x.c (b ∷ []);
  fit = x.fit;
}

longer-some : (c : List ℕ) (b : ℕ) → 0 < length (c ++ (b ∷ []))
longer-some c b = omega (arith, length-append c (b ∷ []))

-- what the end of the form says of the text
numbers-kept : (vs : List ℕ) → spelt line_form 0 vs ≡ line_of (entry_from vs)
unfolding spelt text pick
numbers-kept vs = refl

past-idle : (q : Filling) → Sound line_form q → numbered_at line_form q.at ≡ false
    → past line_form q ≡ spelt (take q.at line_form) 0 q.values
unfolding past
past-idle q s off =
    ap (λ n. spelt (take q.at line_form) 0 q.values ++ begun n) (idle-off line_form q s off).is ∙ append-nil _

end-plain : numbered_at line_form 56 ≡ false
unfolding numbered_at text
end-plain = refl

start_plain : numbered_at line_form 0 ≡ false
unfolding numbered_at text
start_plain = refl

past-whole : (q : Filling) → Sound line_form q → q.at ≡ 56 → past line_form q ≡ line_of (entry_from q.values)
past-whole q s e =
    past-idle q s (ap (numbered_at line_form) e ∙ end-plain)
    ∙ ap (λ f. spelt f 0 q.values) (take_all q.at line_form (omega (arith, line-length)))
    ∙ numbers-kept q.values

pub past-none : (q : Filling) → Sound line_form q → q.at ≡ 0 → past line_form q ≡ []
unfolding spelt
past-none q s e =
    past-idle q s (ap (numbered_at line_form) e ∙ start_plain) ∙ ap (λ k. spelt (take k line_form) 0 q.values) e

-- the form begins with an s
some-past : (k : ℕ) (vs more : List ℕ) → spelt (take (suc k) line_form) 0 vs ++ more ≡ [] → ⊥
unfolding spelt text pick
some-past k vs more e = let z : ◌≡◌ {A = ℕ} 0 1 = cc in omega arith

none-by : (k : ℕ) (vs more : List ℕ) → spelt (take k line_form) 0 vs ++ more ≡ [] → k ≡ 0
none-by zero vs more e = refl
none-by (suc k) vs more e = absurd (some-past k vs more e)

none-zero : (q : Filling) → Sound line_form q → past line_form q ≡ [] → q.at ≡ 0
unfolding past
none-zero q s e = none-by q.at q.values _ e

written-append : (fs gs : List Entry) → written (fs ++ gs) ≡ written fs ++ written gs
unfolding written
written-append [] gs = refl
written-append (f ∷ fs) gs =
    ap (λ l. line_of f ++ l) (written-append fs gs) ∙ sym (append_assoc (line_of f) (written fs) (written gs))

written_one : (fs : List Entry) (e : Entry) → written (fs ++ (e ∷ [])) ++ [] ≡ written fs ++ line_of e
unfolding written
written_one fs e =
    append-nil _ ∙ written-append fs (e ∷ []) ∙ ap (λ l. written fs ++ l) (append-nil (line_of e))

module _ (es : List Entry) (s : List ℕ) (b : ℕ) where
  abbrev After : Night → Type 0
  After m = Stand es (s ++ (b ∷ [])) m

  module _ (x : Split es s) (few : length (es ++ x.fs) < 65535) where
    abbrev t : Totals
    t = totals_of (es ++ x.fs)

    spoils : After (wrong_at t)
    unfolding longer
    spoils = wrong (record { by = longer b x; at = refl; few = few; some = longer-some x.c b })

    module _ (q r : Filling) (come : past line_form q ≡ x.c) (sound : Sound line_form r)
        (more : past line_form r ≡ past line_form q ++ (b ∷ [])) where
      goes-on : eqb r.at 56 ≡ false → After (night_at stands.Open r t)
      unfolding longer
      goes-on n =
          going (record {
            by = longer b x;
            q = r;
            at = refl;
            few = omega arith;
            sound = sound;
            early = n;
            come = more ∙ ap (λ l. l ++ (b ∷ [])) come;
            inside = λ y. few;
          })

      adds : r.at ≡ 56 → (e : Entry) → e ≡ entry_from r.values → Fit e
          → After (night_at stands.Open blank_of (added_of t e))
      adds end e same f =
          let is : x.c ++ (b ∷ []) ≡ line_of e =
          ap (λ l. l ++ (b ∷ [])) (sym come) ∙ sym more ∙ past-whole r sound end ∙ ap line_of (sym same) in
          let one : es ++ (x.fs ++ (e ∷ [])) ≡ es ++ x.fs ++ (e ∷ []) = sym (append_assoc es x.fs (e ∷ [])) in
          going (record {
            by = record {
              fs = x.fs ++ (e ∷ []);
              c = [];
              is =
                  ap (λ l. l ++ (b ∷ [])) x.is ∙ append_assoc (written x.fs) x.c (b ∷ [])
                  ∙ ap (λ l. written x.fs ++ l) is ∙ sym (written_one x.fs e);
              fit = rw one (fit-one e x.fit f);
            };
            q = blank_of;
            at = ap (λ u. night_at stands.Open blank_of u) (added_is (es ++ x.fs) x.fit few e f ∙ ap totals_of
                (sym one));
            few = rw one (omega (arith, length-append (es ++ x.fs) (e ∷ [])));
            sound = blank-sound line_form;
            early = refl;
            come = blank-past line_form;
            inside = λ y. absurd (let z : ⊥ = omega arith in z);
          })

      judges : After (judged_of t (Some r))
      unfolding judged_of
      judges =
          pick_all After (eqb r.at 56) _ _
          (λ y. pick_all After (fit_entry (entry_from r.values)) _ _
          (λ f. adds (eqb-true _ _ y) (entry_from r.values) refl f) (λ f. spoils))
          (λ n. goes-on n)

    steps : (q : Filling) → past line_form q ≡ x.c → Sound line_form q → After (step_of (night_at stands.Open q t) b)
    unfolding judged_of
    steps q come sound =
        let o = filled_of line_form q b in
        let F = λ (p : Option Filling). After (judged_of t p) in
        rw (step-judged t few q b)
        (opened o (λ none. subst F (sym none) spoils)
        (λ r is. let k = subst (Next line_form (omega (arith, line-length)) (past line_form q) b) is
        (filled_next line_form (omega (arith, line-length)) q sound b) in
        subst F (sym is) (judges q r come k.0 k.1)))

full-lines : (q : Filling) (t : Totals) → full_of q t ≡ true → 65535 ≤ t.lines
unfolding full_of
full-lines q t h = leb-true _ _ (and_parts _ _ h).1

room-lines : (q : Filling) (t : Totals) → full_of q t ≡ false → q.at ≡ 0 → t.lines < 65535
unfolding full_of
room-lines q t h z =
    split (leb 65535 t.lines) (λ y. absurd (true≢false (sym (and_from _ _ (eq-eqb _ _ z) y)
    ∙ h))) (λ n. leb-false _ _ n)

some_or_none : (c : List ℕ) → (c ≡ [] → ⊥) → 0 < length c
some_or_none [] h = absurd (h refl)
some_or_none (x ∷ c) h = omega arith

-- a line that has begun is not empty: its place in the form is the first one only before its first byte
pub begun-some : {es : List Entry} {s : List ℕ} {n : Night} (x : Going es s n) → eqb x.q.at 0 ≡ false
    → 0 < length x.by.c
begun-some x n = some_or_none x.by.c (λ e. eqb-false _ _ n (none-zero x.q x.sound (x.come ∙ e)))

-- there is room for the line that has begun, or that a further byte begins
room-left : {es : List Entry} {s : List ℕ} {n : Night} (x : Going es s n)
    → full_of x.q (totals_of (es ++ x.by.fs)) ≡ false → length (es ++ x.by.fs) < 65535
room-left {es} x room =
    split (eqb x.q.at 0) (λ y. room-lines x.q (totals_of (es ++ x.by.fs)) room (eqb-true _ _ y))
    (λ n. x.inside (begun-some x n))

pub same-either : {A : Type 0} (b : Bool) (x : A) → pick b x x ≡ x
unfolding pick
same-either true x = refl
same-either false x = refl

pub stand-step : (es : List Entry) (s : List ℕ) (n : Night) (b : ℕ) → Stand es s n → Stand es (s ++ (b ∷ [])) (step_of
    n b)
unfolding longer step_of full_of
stand-step es s n b (beyond x) =
    beyond (record {
      by = longer b x.by;
      q = x.q;
      at = ap (λ (m : Night). step_of m b) x.at ∙ same-either _ _;
      all = x.all;
      some = longer-some x.by.c b;
    })
stand-step es s n b (wrong x) =
    rw (x.at, pick_no {A = Night} _ _ (not_full blank_of (totals_of (es ++ x.by.fs)) x.few)) (spoils es s b x.by x.few)
stand-step es s n b (going x) =
    rw x.at (split (full_of x.q (totals_of (es ++ x.by.fs)))
    (λ full. beyond (record {
      by = longer b x.by;
      q = x.q;
      at = pick_yes _ _ full;
      all = le_antisymm x.few (full-lines x.q (totals_of (es ++ x.by.fs)) full);
      some = longer-some x.by.c b;
    }))
    (λ room. steps es s b x.by (room-left x room) x.q x.come x.sound))

pub stand-all : (es : List Entry) (t s : List ℕ) (n : Night) → Stand es s n → Stand es (s ++ t) (fed_of n t)
unfolding fed_of
stand-all es [] s n x = rw (append-nil s) x
stand-all es (b ∷ t) s n x =
    rw (append_assoc s (b ∷ []) t) at (stand-all es t (s ++ (b ∷ [])) (step_of n b) (stand-step es s n b x))

pub stand : (es : List Entry) → AllFit es → length es ≤ 65535 → (s : List ℕ) → Stand es s (fed_of (at_line es) s)
unfolding written
stand es h l s =
    let e : es ++ [] ≡ es = append-nil es in
    stand-all es s [] (at_line es)
    (going (record {
      by = record { fs = []; c = []; is = refl; fit = rw e h };
      q = blank_of;
      at = rw e refl;
      few = rw e l;
      sound = blank-sound line_form;
      early = refl;
      come = blank-past line_form;
      inside = λ y. absurd (let z : ⊥ = omega arith in z);
    }))

-- ---- what follows

-- no line is lost
pub lines_stay : (es : List Entry) (s : List ℕ) (n : Night) → Stand es s n → length es ≤ n.totals.lines
lines_stay es s n (going x) = rw x.at (omega (arith, length-append es x.by.fs))
lines_stay es s n (wrong x) = rw x.at (omega (arith, length-append es x.by.fs))
lines_stay es s n (beyond x) = rw x.at (omega (arith, length-append es x.by.fs))

-- where no line was added, none stood at the front
pub no-line : (es : List Entry) → AllFit es → length es < 65535 → (rest : List ℕ)
    → (fed_of (at_line es) rest).totals.lines ≡ length es
    → (e : Entry) (tail : List ℕ) → Fit e → rest ≡ line_of e ++ tail → ⊥
no-line es h l rest same e tail f is =
    let more = es ++ (e ∷ []) in
    let n : fed_of (at_line es) rest ≡ fed_of (at_line more) tail =
    ap (fed_of (at_line es)) is ∙ sym (fed_then (at_line es) (line_of e) tail)
    ∙ ap (λ (m : Night). fed_of m tail) (line-fed es h l e f) in
    let k : length more ≡ length es + 1 = length-append es (e ∷ []) in
    let u : length more ≤ (fed_of (at_line more) tail).totals.lines =
    lines_stay more tail (fed_of (at_line more) tail) (stand more (fit-one e h f) (omega arith) tail) in
    let v : (fed_of (at_line more) tail).totals.lines ≡ length es = ap (λ (m : Night). m.totals.lines) (sym n) ∙ same in
    omega arith
