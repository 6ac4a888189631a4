-- A sheet that was read whole has its four parts, each read after the one before, and the lengths
-- and bounds that follow.
use Prim.Native.Nat.{ℕ, ◌*◌, ◌≤◌}
use mathlib.Core.Path.{◌≡◌, refl, sym, ap, ◌∙◌}
use mathlib.Core.List.{List, [], ◌∷◌}
use native.Mathlib.Omega.{arith}
use lib.ListN.{length, get_or}
use Rattle.sheet.specs.Kinds.{kind_of}
use Rattle.sheet.specs.Numbers.{Passage, passed, stuck, numbers_of}
use Rattle.sheet.specs.Reader.{whole, at_end, after_reactions, after_count, after_amounts, after_settings, sheet_of}
use Rattle.sheet.specs.declared.kind.Phase.TheVariants as phase
use Rattle.sheet.proofs.Passages.{numbers-passed}
use Rattle.sheet.proofs.ReaderLaws.{settings-bounded, count-bounded}

-- the passages of the four parts: h settings, a amounts, n the number of reactions, r the numbers of the reactions
abbrev pub settings_in : List ℕ → Passage
settings_in s = numbers_of (kind_of phase.Settings 0) 0 8 0 [] s

abbrev pub amounts_in : List ℕ → ℕ → List ℕ → Passage
amounts_in h lines s = numbers_of (kind_of phase.Amounts 0) 0 (get_or h 7 0) lines [] s

abbrev pub count_in : ℕ → List ℕ → Passage
count_in lines s = numbers_of (kind_of phase.Count 0) 0 1 lines [] s

abbrev pub reactions_in : List ℕ → List ℕ → ℕ → List ℕ → Passage
reactions_in h n lines s = numbers_of (kind_of phase.Reactions (get_or h 7 0)) 0 (get_or n 0 0 * 5) lines [] s

pub record Parts (s h a n r : List ℕ) : Type 0 where
  pub L1 : ℕ
  pub L2 : ℕ
  pub L3 : ℕ
  pub L4 : ℕ
  pub s1 : List ℕ
  pub s2 : List ℕ
  pub s3 : List ℕ
  pub settings : settings_in s ≡ passed h L1 s1
  pub amounts : amounts_in h L1 s1 ≡ passed a L2 s2
  pub count : count_in L2 s2 ≡ passed n L3 s3
  pub reactions : reactions_in h n L3 s3 ≡ passed r L4 []

module _ (h a n r : List ℕ) where
  end_whole : (h' a' n' r' : List ℕ) (lines : ℕ) (rest : List ℕ) → at_end h' a' n' r' lines rest ≡ whole h a n r
      → (h' ≡ h) × (a' ≡ a) × (n' ≡ n) × (r' ≡ r) × (rest ≡ [])
  unfolding at_end
  end_whole h' a' n' r' lines [] e = (cc, cc, cc, cc, refl)
  end_whole h' a' n' r' lines (x ∷ rest) e = absurd (let z : ◌≡◌ {A = ℕ} 0 1 = cc in let y : ⊥ = omega arith in y)

  pub record Last (h' a' n' : List ℕ) (p : Passage) : Type 0 where
    pub L : ℕ
    pub is : p ≡ passed r L []
    pub sh : h' ≡ h
    pub sa : a' ≡ a
    pub sn : n' ≡ n

  last-whole : (h' a' n' : List ℕ) (p : Passage) → after_reactions h' a' n' p ≡ whole h a n r → Last h' a' n' p
  unfolding after_reactions
  last-whole h' a' n' (passed r' lines rest) e =
      let t = end_whole h' a' n' r' lines rest e in
      record { L = lines; is = rw (t.3, t.4); sh = t.0; sa = t.1; sn = t.2 }
  last-whole h' a' n' (stuck lines) e = absurd (let z : ◌≡◌ {A = ℕ} 0 1 = cc in let y : ⊥ = omega arith in y)

  module _ (s : List ℕ) where
    from-count : (h' a' : List ℕ) (L1 : ℕ) (s1 : List ℕ) (L2 : ℕ) (s2 : List ℕ) → settings_in s ≡ passed h' L1 s1
        → amounts_in h' L1 s1 ≡ passed a' L2 s2
        → (p : Passage) → count_in L2 s2 ≡ p → after_count h' a' p ≡ whole h a n r → Parts s h a n r
    unfolding after_count
    from-count h' a' L1 s1 L2 s2 e1 e2 (passed n' L3 s3) e3 e =
        let l = last-whole h' a' n' (reactions_in h' n' L3 s3) e in
        record {
          L1 = L1;
          L2 = L2;
          L3 = L3;
          L4 = l.L;
          s1 = s1;
          s2 = s2;
          s3 = s3;
          settings = e1 ∙ ap (λ x. passed x L1 s1) l.sh;
          amounts = sym (ap (λ x. amounts_in x L1 s1) l.sh) ∙ e2 ∙ ap (λ x. passed x L2 s2) l.sa;
          count = e3 ∙ ap (λ x. passed x L3 s3) l.sn;
          reactions = sym (ap (λ x. reactions_in x n' L3 s3) l.sh ∙ ap (λ x. reactions_in h x L3 s3) l.sn) ∙ l.is;
        }
    from-count h' a' L1 s1 L2 s2 e1 e2 (stuck lines) e3 e =
        absurd (let z : ◌≡◌ {A = ℕ} 0 1 = cc in let y : ⊥ = omega arith in y)

    from-amounts : (h' : List ℕ) (L1 : ℕ) (s1 : List ℕ) → settings_in s ≡ passed h' L1 s1 → (p : Passage)
        → amounts_in h' L1 s1 ≡ p → after_amounts h' p ≡ whole h a n r
        → Parts s h a n r
    unfolding after_amounts
    from-amounts h' L1 s1 e1 (passed a' L2 s2) e2 e = from-count h' a' L1 s1 L2 s2 e1 e2 (count_in L2 s2) refl e
    from-amounts h' L1 s1 e1 (stuck lines) e2 e = absurd (let z : ◌≡◌ {A = ℕ} 0 1 = cc in let y : ⊥ = omega arith in y)

    from-settings : (p : Passage) → settings_in s ≡ p → after_settings p ≡ whole h a n r → Parts s h a n r
    unfolding after_settings
    from-settings (passed h' L1 s1) e1 e = from-amounts h' L1 s1 e1 (amounts_in h' L1 s1) refl e
    from-settings (stuck lines) e1 e = absurd (let z : ◌≡◌ {A = ℕ} 0 1 = cc in let y : ⊥ = omega arith in y)

    pub parts-of : sheet_of s ≡ whole h a n r → Parts s h a n r
    unfolding sheet_of
    parts-of e = from-settings (settings_in s) refl e

pub record Lengths (h a n r : List ℕ) : Type 0 where
  pub settings : length h ≡ 8
  pub amounts : length a ≡ get_or h 7 0
  pub few : get_or h 7 0 ≤ 32
  pub count : length n ≡ 1
  pub reactions : length r ≡ get_or n 0 0 * 5
  pub most : get_or n 0 0 ≤ 64

pub lengths-of : {s h a n r : List ℕ} → Parts s h a n r → Lengths h a n r
lengths-of {s} {h} {a} {n} {r} p =
    let b = settings-bounded s h p.L1 p.s1 (sym p.settings) in
    let d = count-bounded p.s2 n p.L2 p.L3 p.s3 (sym p.count) in
    let u = numbers-passed (kind_of phase.Amounts 0) (get_or h 7 0) 0 p.L1 [] p.s1 a p.L2 p.s2 p.amounts in
    let v = numbers-passed (kind_of phase.Reactions (get_or h 7 0)) (get_or n 0 0 * 5) 0
    p.L3 [] p.s3 r p.L4 [] p.reactions in
    record {
      settings = b.long;
      amounts = ap length u.all ∙ u.many;
      few = b.most;
      count = d.long;
      reactions = ap length v.all ∙ v.many;
      most = d.most;
    }
