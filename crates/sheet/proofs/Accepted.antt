-- The reader accepts exactly the sheets: bytes are read as a model where they are that model's sheet and the model is
-- valid, and nowhere else.
use Prim.Native.Nat.{ℕ, zero, suc, ◌+◌, ◌*◌, ◌≤◌}
use mathlib.Core.Path.{◌≡◌, refl, sym, ap, ◌∙◌}
use mathlib.Core.Logic.{◌↔◌}
use mathlib.Core.List.{List, [], ◌∷◌, ◌++◌, append-nil}
use native.Mathlib.Omega.{arith}
use borrow.Author.Tests.{ltb-false}
use lib.Dec.{ltb}
use lib.ListN.{length, get_or, length-append}
use Rattle.words.specs.Loop.{pick}
use Rattle.words.proofs.Branch.{pick_all}
use Rattle.state.specs.declared.settings.Rule.{Rule}
use Rattle.state.specs.declared.settings.Rule.TheVariants as rule
use Rattle.sheet.specs.Digits.{width_of}
use Rattle.sheet.specs.Sheet.{Reaction, Model, Every, Known, Valid, rule_number}
use Rattle.sheet.specs.Sheet.{reaction_line, reaction_lines, written}
use Rattle.sheet.specs.Kinds.{setting_of, kind_of}
use Rattle.sheet.specs.Numbers.{passed, numbers_of}
use Rattle.sheet.specs.Reader.{Judged, whole, broken, sheet_of, rule_from, reactions_from}
use Rattle.sheet.specs.Reader.{model_from, accepted, too_long, told_of, read_of}
use Rattle.sheet.specs.declared.kind.Kind.{Kind}
use Rattle.sheet.specs.declared.kind.Phase.TheVariants as phase
use Rattle.sheet.specs.Writes.{spell_of, writes, Fit}
use Rattle.sheet.proofs.Inverse.{length_digits, width-by-few}
use Rattle.sheet.proofs.Passages.{ended, Passed, numbers-passed, numbers-right}
use Rattle.sheet.proofs.ReaderLaws.{read-whole}
use Rattle.sheet.proofs.Parts.{Parts, parts-of, Lengths, lengths-of}
use Rattle.sheet.proofs.FillLaws.{length-reactions}
use Rattle.sheet.proofs.AnswerLaws.{read_whole}
use Rattle.sheet.proofs.Sheets.{kind-fine, settings_of, listed_of, reactions-written}
use Rattle.sheet.proofs.Sheets.{sheet-written, Fits, valid-fits, fits-valid}

-- ---- the numbers that were read are those of the model that was made of them

rule-same : (v : ℕ) → v ≤ 1 → rule_number (rule_from v) ≡ v
unfolding rule_from pick
rule-same zero h = refl
rule-same (suc zero) h = refl
rule-same (suc (suc v)) h = absurd (let z : ⊥ = omega arith in z)

settings-same : (h t n r : List ℕ) → length h ≡ 8 → Fit (kind_of phase.Settings 0) 0 h → length t ≡ get_or h 7 0
    → settings_of (model_from h t n r) ≡ h
unfolding Fit kind_of setting_of pick model_from
settings-same [] t n r l f q = absurd (let z : ⊥ = omega arith in z)
settings-same (v0 ∷ []) t n r l f q = absurd (let z : ⊥ = omega arith in z)
settings-same (v0 ∷ v1 ∷ []) t n r l f q = absurd (let z : ⊥ = omega arith in z)
settings-same (v0 ∷ v1 ∷ v2 ∷ []) t n r l f q = absurd (let z : ⊥ = omega arith in z)
settings-same (v0 ∷ v1 ∷ v2 ∷ v3 ∷ []) t n r l f q = absurd (let z : ⊥ = omega arith in z)
settings-same (v0 ∷ v1 ∷ v2 ∷ v3 ∷ v4 ∷ []) t n r l f q = absurd (let z : ⊥ = omega arith in z)
settings-same (v0 ∷ v1 ∷ v2 ∷ v3 ∷ v4 ∷ v5 ∷ []) t n r l f q = absurd (let z : ⊥ = omega arith in z)
settings-same (v0 ∷ v1 ∷ v2 ∷ v3 ∷ v4 ∷ v5 ∷ v6 ∷ []) t n r l f q = absurd (let z : ⊥ = omega arith in z)
settings-same (v0 ∷ v1 ∷ v2 ∷ v3 ∷ v4 ∷ v5 ∷ v6 ∷ v7 ∷ []) t n r l f q =
    let z : v0 ≡ 6 = omega (arith, f.0.low, f.0.high) in
    rw (z, rule-same v6 f.1.1.1.1.1.1.0.high, q)
settings-same (v0 ∷ v1 ∷ v2 ∷ v3 ∷ v4 ∷ v5 ∷ v6 ∷ v7 ∷ v8 ∷ h) t n r l f q = absurd (let z : ⊥ = omega arith in z)

listed_same : (m : ℕ) (r : List ℕ) → length r ≡ m * 5 → listed_of (reactions_from m r) ≡ r
unfolding listed_of reactions_from
listed_same zero [] l = refl
listed_same zero (a ∷ r) l = absurd (let z : ⊥ = omega arith in z)
listed_same (suc m) [] l = absurd (let z : ⊥ = omega arith in z)
listed_same (suc m) (a ∷ []) l = absurd (let z : ⊥ = omega arith in z)
listed_same (suc m) (a ∷ b ∷ []) l = absurd (let z : ⊥ = omega arith in z)
listed_same (suc m) (a ∷ b ∷ c ∷ []) l = absurd (let z : ⊥ = omega arith in z)
listed_same (suc m) (a ∷ b ∷ c ∷ d ∷ []) l = absurd (let z : ⊥ = omega arith in z)
listed_same (suc m) (a ∷ b ∷ c ∷ d ∷ e ∷ r) l =
    ap (λ x. a ∷ b ∷ c ∷ d ∷ e ∷ x) (listed_same m r (let z : length r ≡ m * 5 = omega arith in z))

one_same : (n : List ℕ) → length n ≡ 1 → get_or n 0 0 ∷ [] ≡ n
one_same [] l = absurd (let z : ⊥ = omega arith in z)
one_same (a ∷ []) l = refl
one_same (a ∷ b ∷ n) l = absurd (let z : ⊥ = omega arith in z)

-- ---- the text of four parts

abbrev pub text : List ℕ → List ℕ → List ℕ → List ℕ → ℕ → List ℕ
text h a n r species =
    writes (kind_of phase.Settings 0) 0 h
    ++ (writes (kind_of phase.Amounts 0) 0 a
    ++ (writes (kind_of phase.Count 0) 0 n ++ writes (kind_of phase.Reactions species) 0 r))

pub record Fitting (h a n r : List ℕ) : Type 0 where
  pub lengths : Lengths h a n r
  pub settings : Fit (kind_of phase.Settings 0) 0 h
  pub amounts : Fit (kind_of phase.Amounts 0) 0 a
  pub count : Fit (kind_of phase.Count 0) 0 n
  pub reactions : Fit (kind_of phase.Reactions (get_or h 7 0)) 0 r

-- parts that fit are those of a valid model, and their text is its sheet
module _ (h a n r : List ℕ) (f : Fitting h a n r) where
  same-h : settings_of (model_from h a n r) ≡ h
  same-h = settings-same h a n r f.lengths.settings f.settings f.lengths.amounts

  same-n : length (model_from h a n r).reactions ∷ [] ≡ n
  unfolding model_from
  same-n = ap (λ x. x ∷ []) (length-reactions (get_or n 0 0) r) ∙ one_same n f.lengths.count

  same-r : listed_of (model_from h a n r).reactions ≡ r
  unfolding model_from
  same-r = listed_same (get_or n 0 0) r f.lengths.reactions

  same-a : (model_from h a n r).amounts ≡ a
  unfolding model_from
  same-a = refl

  pub text-written : written (model_from h a n r) ≡ text h a n r (get_or h 7 0)
  text-written =
      sheet-written (model_from h a n r) ∙ (rw (same-h, same-n, same-r, same-a, f.lengths.amounts))

  pub fitting-valid : Valid (model_from h a n r)
  fitting-valid =
      fits-valid (model_from h a n r)
      (record {
        settings = rw same-h f.settings;
        amounts = rw same-a f.amounts;
        count = rw same-n f.count;
        reactions = rw (same-r, same-a, f.lengths.amounts) f.reactions;
      })

-- ---- what is accepted is a sheet

module _ (k : ℕ → Kind) (n lines : ℕ) (s ws : List ℕ) (L : ℕ) (rest : List ℕ)
    (e : numbers_of k 0 n lines [] s ≡ passed ws L rest) where
  part : Passed k 0 n lines [] s ws L rest
  part = numbers-passed k n 0 lines [] s ws L rest e

  pub part-fit : Fit k 0 ws
  part-fit = rw part.all part.came.fit

  pub part-text : s ≡ writes k 0 ws ++ rest
  part-text = rw part.all part.came.text

pub parts-fitting : {s h a n r : List ℕ} → Parts s h a n r → Fitting h a n r
parts-fitting p =
    record {
      lengths = lengths-of p;
      settings = part-fit _ _ _ _ _ _ _ p.settings;
      amounts = part-fit _ _ _ _ _ _ _ p.amounts;
      count = part-fit _ _ _ _ _ _ _
          p.count;
      reactions = part-fit _ _ _ _ _ _ _ p.reactions;
    }

pub parts-text : {s h a n r : List ℕ} → Parts s h a n r → s ≡ text h a n r (get_or h 7 0)
parts-text {s} {h} {a} {n} {r} p =
    part-text _ _ _ _ _ _ _ p.settings ∙ ap (λ x. writes (kind_of phase.Settings 0) 0 h ++ x)
    (part-text _ _ _ _ _ _ _ p.amounts ∙ ap (λ x. writes (kind_of phase.Amounts 0) 0 a ++ x)
    (part-text _ _ _ _ _ _ _ p.count
    ∙ ap (λ x. writes (kind_of phase.Count 0) 0 n ++ x)
    (part-text _ _ _ _ _ _ _ p.reactions ∙ append-nil (writes (kind_of phase.Reactions
    (get_or h 7 0)) 0 r))))

sheet-sound : (s h a n r : List ℕ) → sheet_of s ≡ whole h a n r
    → (s ≡ written (model_from h a n r)) × Valid (model_from h a n r)
sheet-sound s h a n r e =
    let p = parts-of h a n r s e in
    let f = parts-fitting p in
    (parts-text p ∙ sym (text-written h a n r f), fitting-valid h a n r f)

told-sound : (s : List ℕ) (m : Model) (j : Judged) → sheet_of s ≡ j → told_of j ≡ accepted m → (s ≡ written m) × Valid m
unfolding told_of
told-sound s m (whole h a n r) ej e = let q : model_from h a n r ≡ m = cc in rw q at (sheet-sound s h a n r ej)
told-sound s m (broken lines) ej e = absurd (let z : ◌≡◌ {A = ℕ} 0 1 = cc in let y : ⊥ = omega arith in y)

pub accepted-sound : (s : List ℕ) (m : Model) → read_of s ≡ accepted m → (s ≡ written m) × Valid m
unfolding read_of
accepted-sound s m =
    pick_all (λ x. x ≡ accepted m → (s ≡ written m) × Valid m) (ltb 4096 (length s)) too_long (told_of (sheet_of s))
    (λ t e. absurd (let z : ◌≡◌ {A = ℕ} 0 1 = cc in let y : ⊥ = omega arith in y))
    (λ t e. told-sound s m (sheet_of s) refl e)

-- ---- the sheet of a valid model is accepted

pub rule-back : (r : Rule) → rule_from (rule_number r) ≡ r
unfolding rule_from pick
rule-back rule.Rust = refl
rule-back rule.Book = refl

pub reactions-back : (rs : List Reaction) → reactions_from (length rs) (listed_of rs) ≡ rs
unfolding reactions_from listed_of
reactions-back [] = refl
reactions-back (r ∷ rs) = ap (λ x. r ∷ x) (reactions-back rs)

length-listed : (rs : List Reaction) → length (listed_of rs) ≡ length rs * 5
unfolding listed_of
length-listed [] = refl
length-listed (r ∷ rs) =
    let z : suc (suc (suc (suc (suc (length (listed_of rs))))))
    ≡ suc (length rs) * 5 = omega (arith, length-listed rs) in
    z

model-back : (m : Model)
    → model_from (settings_of m) m.amounts (length m.reactions ∷ []) (listed_of m.reactions) ≡ m
unfolding model_from
model-back m = rw (rule-back m.rule, reactions-back m.reactions)

module _ (m : Model) (v : Valid m) where
  fits : Fits m
  fits = valid-fits m v

  pub sheet-complete : whole (settings_of m) m.amounts (length m.reactions ∷ []) (listed_of m.reactions)
      ≡ sheet_of (written m)
  sheet-complete =
      let t3 : List ℕ = writes (kind_of phase.Reactions (length m.amounts)) 0 (listed_of m.reactions) in
      let t2 : List ℕ = writes (kind_of phase.Count 0) 0 (length m.reactions ∷ []) ++ t3 in
      let t1 : List ℕ = writes (kind_of phase.Amounts 0) 0 m.amounts ++ t2 in
      let e1 = numbers-right (kind_of phase.Settings 0)
      (kind-fine phase.Settings 0 (omega arith)) (settings_of m) 0 0 [] t1 fits.settings in
      let e2 = numbers-right (kind_of phase.Amounts 0) (kind-fine phase.Amounts 0 (omega arith)) m.amounts 0
      (0 + ended (kind_of phase.Settings 0) 0 (settings_of m)) [] t2
      fits.amounts in
      let e3 =
      numbers-right (kind_of phase.Count 0) (kind-fine phase.Count 0 (omega arith)) (length m.reactions ∷ []) 0
      (0 + ended (kind_of phase.Settings 0) 0 (settings_of m) + ended (kind_of phase.Amounts 0) 0 m.amounts)
      [] t3 fits.count in
      let e4 = rw (length-listed m.reactions, append-nil) at
      (numbers-right (kind_of phase.Reactions (length m.amounts))
      (kind-fine phase.Reactions (length m.amounts) v.few) (listed_of m.reactions) 0
      (0 + ended (kind_of phase.Settings 0) 0 (settings_of m) + ended (kind_of phase.Amounts 0) 0 m.amounts
      + ended (kind_of phase.Count 0) 0
      (length m.reactions ∷ [])) [] [] fits.reactions) in
      rw (sheet-written m)
      (read-whole _ _ _ _ (sym e1) _ _ _ (sym e2) _ _ _ (sym e3) (sym e4))

-- ---- a sheet is short

pub spell-short : (k : Kind) (v : ℕ) → length (spell_of k v) ≤ 16
unfolding spell_of
spell-short k v = rw length_digits (width-by-few k.notation v)

writes_short : (k : ℕ → Kind) (us : List ℕ) (i : ℕ) → length (writes k i us) ≤ length us * 17
unfolding writes
writes_short k [] i = omega arith
writes_short k (v ∷ us) i = omega (
  arith,
  length-append (spell_of (k i) v) ((k i).mark ∷ writes k (i + 1) us),
  spell-short (k i) v,
  writes_short k us (i + 1),
)

width_two : (v : ℕ) → v ≤ 32 → width_of v ≤ 2
unfolding width_of
width_two v h = pick_all (λ w. w ≤ 2) (ltb v 10) 1 _ (λ e. omega arith)
    (λ e. pick_all (λ w. w ≤ 2) (ltb v 100) 2 _ (λ e. omega arith)
    (λ e. absurd (let l : 100 ≤ v = ltb-false _ _ e in let z : ⊥ = omega arith in z)))

line-short : (species : ℕ) (r : Reaction) → species ≤ 32 → Known species r → length (reaction_line r) ≤ 29
line-short species r h k =
    let a = width_two r.reactant1 (let z : r.reactant1 ≤ 32 = omega (arith, k.reactant1) in z) in
    let b = width_two r.reactant2 (let z : r.reactant2 ≤ 32 = omega (arith, k.reactant2) in z) in
    let c = width_two r.product1 (let z : r.product1 ≤ 32 = omega (arith, k.product1) in z) in
    let d = width_two r.product2 (let z : r.product2 ≤ 32 = omega (arith, k.product2) in z) in
    simp (length-append, length_digits) (omega arith)

lines-short : (species : ℕ) (rs : List Reaction) → species ≤ 32 → Every (Known species) rs
    → length (reaction_lines rs) ≤ length rs * 29
lines-short species [] h k = omega arith
lines-short species (r ∷ rs) h k = omega (
  arith,
  length-append (reaction_line r) (reaction_lines rs),
  line-short species r h k.0,
  lines-short species rs h k.1,
)

pub written-short-proof : (m : Model) → Valid m → length (written m) ≤ 4096
written-short-proof m v =
    let t3 : List ℕ = reaction_lines m.reactions in
    let t2 : List ℕ = writes (kind_of phase.Count 0) 0 (length m.reactions ∷ []) ++ t3 in
    let t1 : List ℕ = writes (kind_of phase.Amounts 0) 0 m.amounts ++ t2 in
    rw (sheet-written m, reactions-written (length m.amounts) 0 m.reactions refl)
    (omega (
      arith,
      length-append (writes (kind_of phase.Settings 0) 0 (settings_of m)) t1,
      length-append (writes (kind_of phase.Amounts 0) 0 m.amounts) t2,
      length-append (writes (kind_of phase.Count 0) 0 (length m.reactions ∷ [])) t3,
      writes_short (kind_of phase.Settings 0) (settings_of m) 0,
      writes_short (kind_of phase.Amounts 0) m.amounts 0,
      writes_short (kind_of phase.Count 0) (length m.reactions ∷ []) 0,
      lines-short (length m.amounts) m.reactions v.few v.known,
      v.few,
      v.reactions,
    ))

-- ---- the theorem

pub accepted-complete : (m : Model) → Valid m → read_of (written m) ≡ accepted m
accepted-complete m v =
    read_whole (written m) (settings_of m) m.amounts (length m.reactions ∷ []) (listed_of m.reactions)
    (written-short-proof m v) (sheet-complete m v)
    ∙ ap accepted (model-back m)

pub accepted-exactly-proof : (s : List ℕ) (m : Model) → (read_of s ≡ accepted m) ↔ ((s ≡ written m) × Valid m)
accepted-exactly-proof s m = (accepted-sound s m, λ p. ap read_of p.0 ∙ accepted-complete m p.1)
