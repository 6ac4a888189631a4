-- The parts of a sheet read one after the other: each verdict of `judge` is the definition's, and the counts of
-- species and reactions are within bounds.
use Rattle.std.proofs.Common.{◌≡◌, ℕ, zero, suc, ◌+◌, ◌*◌, ◌≤◌, ◌<◌, Result, Ok, Err, IfErr, List, [], ◌∷◌}
use Rattle.std.proofs.Common.{refl, sym, ap, ◌∙◌, eqb}
use native.Mathlib.Omega.{arith}
use lib.ListN.{length, get_or, take}
use lib.Seq.{take-append_seam}
use Rattle.std.proofs.Common.{◌++◌}
use Rattle.words.specs.Loop.{pick}
use borrow.Author.Tests.{eq-eqb, ne_eqb}
use Rattle.words.proofs.Branch.{pick_yes, pick_no, pick_all}
use Rattle.sheet.specs.Kinds.{kind_of, setting_of}
use Rattle.sheet.specs.Numbers.{passed, stuck, numbers_of, part_of, passage_at}
use Rattle.sheet.specs.Reader.{whole, broken, at_end, after_reactions, after_count}
use Rattle.sheet.specs.Reader.{after_amounts, after_settings, sheet_of, judged_at, ended_of}
use Rattle.sheet.specs.declared.kind.Kind.{Kind}
use Rattle.sheet.specs.declared.kind.Phase.TheVariants as phase
use Rattle.sheet.specs.declared.numbers.Progress.{Progress}
use Rattle.sheet.specs.Writes.{Of, Fit}
use Rattle.sheet.proofs.Passages.{Passed, numbers-passed}

-- ---- bounds

pub fit_at : (k : ℕ → Kind) (us : List ℕ) (i j : ℕ) → Fit k i us → j < length us → Of (k (i + j)) (get_or us j 0)
unfolding Fit
fit_at k [] i j f h = absurd (let z : ⊥ = omega arith in z)
fit_at k (v ∷ us) i zero f h = let e : i + 0 ≡ i = omega arith in rw e f.0
fit_at k (v ∷ us) i (suc j) f h =
    let e : i + suc j ≡ i + 1 + j = omega arith in
    rw e (fit_at k us (i + 1) j f.1 (let z : j < length us = omega arith in z))

pub record Bounded (vs : List ℕ) (n j high : ℕ) : Type 0 where
  pub long : length vs ≡ n
  pub most : get_or vs j 0 ≤ high

pub settings-bounded : (s h : List ℕ) (L : ℕ) (rest : List ℕ)
    → passed h L rest ≡ numbers_of (kind_of phase.Settings 0) 0 8 0 [] s → Bounded h 8 7 32
unfolding kind_of setting_of pick
settings-bounded s h L rest e =
    let p : Passed (kind_of phase.Settings 0) 0 8 0 [] s h L rest =
    numbers-passed (kind_of phase.Settings 0) 8 0 0 [] s h L rest (sym e) in
    let o : Of (kind_of phase.Settings 0 7) (get_or p.us 7 0) =
    fit_at (kind_of phase.Settings 0) p.us 0 7 p.came.fit (omega (arith, p.many)) in
    rw p.all (record { long = p.many; most = o.high })

pub count-bounded : (s n : List ℕ) (l L : ℕ) (rest : List ℕ)
    → passed n L rest ≡ numbers_of (kind_of phase.Count 0) 0 1 l [] s → Bounded n 1 0 64
unfolding kind_of
count-bounded s n l L rest e =
    let p : Passed (kind_of phase.Count 0) 0 1 l [] s n L rest =
    numbers-passed (kind_of phase.Count 0) 1 0 l [] s n L rest (sym e) in
    let o : Of (kind_of phase.Count 0 0) (get_or p.us 0 0) =
    fit_at (kind_of phase.Count 0) p.us 0 0 p.came.fit (omega (arith, p.many)) in
    rw p.all (record { long = p.many; most = o.high })

pub front-taken : (n : ℕ) (xs ys : List ℕ) → length xs ≡ n → take n (xs ++ ys) ≡ xs
front-taken n xs ys e = rw (← e) (take-append_seam xs ys)

-- ---- how a part went

module _ (vs : List ℕ) {x : Result Progress ℕ} where
  pub passage-good : {p : Progress} → x ≡ Ok p → passage_at vs x ≡ passed vs p.lines p.rest.now
  unfolding passage_at
  passage-good e = rw e refl

  pub passage-bad : {lines : ℕ} → x ≡ Err lines → passage_at vs x ≡ stuck lines
  unfolding passage_at
  passage-bad e = rw e refl

at-end : (h a n r : List ℕ) (p : Progress) (s : List ℕ) → p.rest.now ≡ s
    → judged_at h a n r (ended_of p) ≡ at_end h a n r p.lines s
unfolding judged_at ended_of at_end
at-end h a n r p [] e = rw e (ap (judged_at h a n r) (pick_yes _ _ (eq-eqb 0 0 refl)))
at-end h a n r p (x ∷ s) e =
    rw e (ap (judged_at h a n r) (pick_no _ _ (ne_eqb (suc (length s)) 0 (λ q. let z : ⊥ = omega arith in z))))

-- ---- how far `judge` has come: the parts that were right, in the order in which they were read

pub first-bad : (s : List ℕ) {L : ℕ} → stuck L ≡ part_of phase.Settings 0 8 0 s → broken L ≡ sheet_of s
unfolding sheet_of after_settings
first-bad s e = ap after_settings e

module _ (s S : List ℕ) (L₁ : ℕ) (s₁ : List ℕ) (settings : passed S L₁ s₁ ≡ part_of phase.Settings 0 8 0 s) where
  pub species-few : get_or S 7 0 ≤ 32
  species-few = (settings-bounded s S L₁ s₁ settings).most

  to-amounts : after_amounts S (part_of phase.Amounts 0 (get_or S 7 0) L₁ s₁) ≡ sheet_of s
  unfolding sheet_of after_settings
  to-amounts = ap after_settings settings

  pub second-bad : {L : ℕ} → stuck L ≡ part_of phase.Amounts 0 (get_or S 7 0) L₁ s₁ → broken L ≡ sheet_of s
  unfolding after_amounts
  second-bad e = ap (after_amounts S) e ∙ to-amounts

  module _ (A : List ℕ) (L₂ : ℕ) (s₂ : List ℕ)
      (amounts : passed A L₂ s₂ ≡ part_of phase.Amounts 0 (get_or S 7 0) L₁ s₁) where
    to-count : after_count S A (part_of phase.Count 0 1 L₂ s₂) ≡ sheet_of s
    unfolding after_amounts
    to-count = ap (after_amounts S) amounts ∙ to-amounts

    pub third-bad : {L : ℕ} → stuck L ≡ part_of phase.Count 0 1 L₂ s₂ → broken L ≡ sheet_of s
    unfolding after_count
    third-bad e = ap (after_count S A) e ∙ to-count

    module _ (C : List ℕ) (L₃ : ℕ) (s₃ : List ℕ) (count : passed C L₃ s₃ ≡ part_of phase.Count 0 1 L₂ s₂) where
      to-reactions : after_reactions S A C (part_of phase.Reactions (get_or S 7 0) (get_or C 0 0 * 5) L₃ s₃)
          ≡ sheet_of s
      unfolding after_count
      to-reactions = ap (after_count S A) count ∙ to-count

      pub fourth-bad : {L : ℕ} → stuck L ≡ part_of phase.Reactions (get_or S 7 0) (get_or C 0 0 * 5) L₃ s₃
          → broken L ≡ sheet_of s
      unfolding after_reactions
      fourth-bad e = ap (after_reactions S A C) e ∙ to-reactions

      pub read-whole : {R : List ℕ} {L : ℕ}
          → passed R L [] ≡ part_of phase.Reactions (get_or S 7 0) (get_or C 0 0 * 5) L₃ s₃ → whole S A C R ≡ sheet_of s
      unfolding after_reactions at_end
      read-whole e = ap (after_reactions S A C) e ∙ to-reactions

      -- bytes that follow are wrong
      pub last : {R : List ℕ} (p : Progress)
          → passed R p.lines p.rest.now ≡ part_of phase.Reactions (get_or S 7 0) (get_or C 0 0 * 5) L₃ s₃
          → judged_at S A C R (ended_of p) ≡ sheet_of s
      unfolding after_reactions
      last p e = at-end S A C _ p p.rest.now refl ∙ ap (after_reactions S A C) e ∙ to-reactions

pub ended-few : (p : Progress) (n : ℕ) → p.lines ≤ n → IfErr (ended_of p) (λ lines. lines ≤ n)
unfolding ended_of
ended-few p n h =
    pick_all (λ r. IfErr {T = Unit {0}} r (λ lines. lines ≤ n)) (eqb (length p.rest.now) 0) (Ok tt) (Err p.lines)
    (λ t. tt) (λ t. h)
