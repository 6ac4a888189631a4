-- The line that is told is the first wrong one. What the reader finds wrong in a line depends on the bytes up to that
-- line's end alone, so bytes that begin with the same lines are wrong in the same line; a valid sheet is wrong in none.
use Prim.Native.Nat.{ℕ, zero, suc, ◌+◌, ◌*◌, ◌≤◌, ◌<◌}
use mathlib.Core.Path.{◌≡◌, refl, sym, ap, ◌∙◌}
use mathlib.Core.Bool.{Bool, true, false}
use mathlib.Core.List.{List, [], ◌∷◌, ◌++◌}
use native.Mathlib.Numerals.{add-one}
use native.Mathlib.Omega.{arith}
use borrow.Author.Tests.{lt-ltb, ltb-true, ltb-false, ne_eqb}
use lib.Dec.{eqb, ltb}
use lib.ListN.{length, get_or, take, drop, length-append}
use lib.Seq.{take-append_seam, take-append-le, drop-append-le, split_at}
use Rattle.words.specs.Loop.{pick}
use Rattle.words.proofs.Branch.{pick_yes, pick_no, pick_all}
use Rattle.sheet.specs.Digits.{found_of}
use Rattle.sheet.specs.Sheet.{Every, Model, Valid, written}
use Rattle.sheet.specs.Kinds.{setting_of, reaction_of, kind_of}
use Rattle.sheet.specs.Lines.{lines_in}
use Rattle.sheet.specs.Numbers.{number_of, Piece, got, wrong, followed, piece_of}
use Rattle.sheet.specs.Numbers.{ends_of, Passage, passed, stuck, pursued, numbers_of}
use Rattle.sheet.specs.Reader.{Judged, whole, broken, at_end, after_reactions, after_count, after_amounts}
use Rattle.sheet.specs.Reader.{after_settings, sheet_of, malformed, too_long, told_of, read_of}
use Rattle.std.proofs.Common.{Option, None, Some}
use Rattle.sheet.specs.declared.kind.Kind.{Kind}
use Rattle.sheet.specs.declared.kind.Phase.{Phase}
use Rattle.sheet.specs.declared.kind.Phase.TheVariants as phase
use Rattle.sheet.specs.Writes.{spell_of}
use Rattle.sheet.proofs.Inverse.{spell_high, found-past, found_at, piece-inverse, number-inverse}
use Rattle.sheet.proofs.Passages.{numbers-passed, numbers-stuck}
use Rattle.sheet.proofs.Accepted.{sheet-complete}

-- ---- lines

pub lines-append : (a b : List ℕ) → lines_in (a ++ b) ≡ lines_in a + lines_in b
unfolding lines_in
lines-append [] b = omega arith
lines-append (x ∷ a) b = omega (arith, lines-append a b)

pub lines-high : (xs : List ℕ) → Every (λ x. 48 ≤ x) xs → lines_in xs ≡ 0
unfolding lines_in ends_of
lines-high [] h = refl
lines-high (x ∷ xs) h =
    let e : ends_of x ≡ 0 = pick_no _ _ (ne_eqb x 10 (λ q. let z : ⊥ = omega (arith, h.0) in z)) in
    omega (arith, lines-high xs h.1)

every_take : (n : ℕ) (xs : List ℕ) → Every (λ x. 48 ≤ x) xs → Every (λ x. 48 ≤ x) (take n xs)
every_take zero [] h = tt
every_take zero (x ∷ xs) h = tt
every_take (suc n) [] h = tt
every_take (suc n) (x ∷ xs) h = (h.0, every_take n xs h.1)

-- ---- where a mark stands, in a text with more behind it

front : (t : Bool) (f g n : ℕ) → (f < n → g ≡ f) → pick t 0 (f + 1) < suc n → pick t 0 (g + 1) ≡ pick t 0 (f + 1)
unfolding pick
front true f g n h l = refl
front false f g n h l = ap (λ x. x + 1) (h (let z : f < n = omega arith in z))

found_front : (b : ℕ) (p r : List ℕ) → found_of b p < length p → found_of b (p ++ r) ≡ found_of b p
unfolding found_of
found_front b [] r h = absurd (let z : ⊥ = omega arith in z)
found_front b (x ∷ p) r h = front (eqb x b) (found_of b p) (found_of b (p ++ r)) (length p) (found_front b p r) h

behind : (t : Bool) (f g n : ℕ) → (n ≤ f → n ≤ g) → suc n ≤ pick t 0 (f + 1) → suc n ≤ pick t 0 (g + 1)
unfolding pick
behind true f g n h l = l
behind false f g n h l = let z : n ≤ g = h (let y : n ≤ f = omega arith in y) in omega arith

found-behind : (b : ℕ) (p r : List ℕ) → length p ≤ found_of b p → length p ≤ found_of b (p ++ r)
unfolding found_of
found-behind b [] r h = omega arith
found-behind b (x ∷ p) r h = behind (eqb x b) (found_of b p) (found_of b (p ++ r)) (length p) (found-behind b p r) h

-- ---- a number read from bytes that hold the end of a line

data Local (k : Kind) (p : List ℕ) : Type 0 where
  bad : ((r : List ℕ) → piece_of k (p ++ r) ≡ wrong) → Local k p
  good : (v : ℕ) (q : List ℕ) → ((r : List ℕ) → piece_of k (p ++ r) ≡ got v (q ++ r))
      → lines_in p ≡ ends_of k.mark + lines_in q → Local k p

module _ (k : Kind) (low : k.mark < 48) (p : List ℕ) where
  far : 0 < lines_in p → length p ≤ found_of k.mark p → (r : List ℕ) → (q : Piece) → piece_of k (p ++ r) ≡ q → q ≡ wrong
  far h l r wrong e = refl
  far h l r (got v rest) e =
      let i = piece-inverse k (p ++ r) rest v e in
      let n : found_of k.mark (p ++ r)
      ≡ length (spell_of k v) = ap (found_of k.mark) i.0
      ∙ found-past k.mark (spell_of k v) rest low (spell_high k v) in
      let b : length p ≤ length (spell_of k v) = omega (arith, found-behind k.mark p r l) in
      let t : take (length p) (spell_of k v)
      ≡ p = sym (take-append-le (length p) (spell_of k v) (k.mark ∷ rest) b)
      ∙ ap (take (length p)) (sym i.0) ∙ take-append_seam p r in
      let z : lines_in p
      ≡ 0 = ap lines_in (sym t)
      ∙ lines-high (take (length p) (spell_of k v)) (every_take (length p) (spell_of k v) (spell_high k v)) in
      absurd (let y : ⊥ = omega arith in y)

  near : found_of k.mark p < length p → (r : List ℕ)
      → piece_of k (p ++ r)
      ≡ followed (number_of k (take (found_of k.mark p) p)) (drop (found_of k.mark p + 1) p ++ r)
  unfolding piece_of
  near l r =
      let s : found_of k.mark p < length (p ++ r) = omega (arith, length-append p r) in
      rw (found_front k.mark p r l)
      (pick_yes _ _ (lt-ltb _ _ s) ∙ (rw (
        take-append-le (found_of k.mark p) p r (let z : found_of k.mark p ≤ length p = omega arith in z),
        drop-append-le (found_of
            k.mark p + 1) p r (let z : found_of k.mark p + 1 ≤ length p = omega arith in z),
      )))

  near-local : (l : found_of k.mark p < length p) (t : Option ℕ)
      → number_of k (take (found_of k.mark p) p) ≡ t → Local k p
  unfolding followed lines_in
  near-local l None e = bad (λ r. near l r ∙ ap (λ t. followed t (drop (found_of k.mark p + 1) p ++ r)) e)
  near-local l (Some v) e =
      let d : p ≡ take (found_of k.mark p) p ++ (k.mark ∷ drop (found_of k.mark p + 1) p) =
      split_at p (found_of k.mark p) 0 l ∙ (rw (found_at k.mark p l, add-one)) in
      let x : lines_in (take (found_of k.mark p) p)
      ≡ 0 = ap lines_in (number-inverse k (take (found_of k.mark p) p) v e).0
      ∙ lines-high (spell_of k v) (spell_high k v) in
      let c : lines_in p ≡ ends_of k.mark + lines_in (drop (found_of k.mark p + 1) p) =
      ap lines_in d ∙ lines-append (take (found_of k.mark p) p) (k.mark ∷ drop (found_of k.mark p + 1) p)
      ∙ ap (λ y. y + (ends_of k.mark + lines_in (drop (found_of k.mark p + 1) p))) x
      ∙ (let z : 0 + (ends_of k.mark + lines_in (drop (found_of k.mark p + 1) p))
      ≡ ends_of k.mark + lines_in (drop (found_of k.mark p + 1) p) = omega arith in
      z) in
      good v (drop (found_of k.mark p + 1) p)
      (λ r. near l r ∙ ap (λ t. followed t (drop (found_of k.mark p + 1) p ++ r)) e) c

  local_by : 0 < lines_in p → (t : Bool) → ltb (found_of k.mark p) (length p) ≡ t → Local k p
  local_by h true e = near-local (ltb-true _ _ e) (number_of k (take (found_of k.mark p) p)) refl
  local_by h false e = bad (λ r. far h (ltb-false _ _ e) r (piece_of k (p ++ r)) refl)

  local : 0 < lines_in p → Local k p
  local h = local_by h (ltb (found_of k.mark p) (length p)) refl

-- ---- numbers read from bytes that hold the end of more lines than the reader passes

module _ (k : ℕ → Kind) (low : (i : ℕ) → (k i).mark < 48) where
  numbers-local : (n i lines : ℕ) (vs p r : List ℕ) (L : ℕ) → numbers_of k i n lines vs (p ++ r) ≡ stuck L
      → L < lines + lines_in p → (r' : List ℕ)
      → numbers_of k i n lines vs (p ++ r') ≡ stuck L
  unfolding numbers_of
  numbers-local zero i lines vs p r L e h r' = absurd (let z : ◌≡◌ {A = ℕ} 0 1 = cc in let y : ⊥ = omega arith in y)
  numbers-local (suc n) i lines vs p r L e h r' =
      go (local (k i) (low i) p
      (let z : 0 < lines_in p = omega (arith, (numbers-stuck k (suc n) i lines vs (p ++ r) L e).came.counted) in z))
      e
      (λ v q. numbers-local n (i + 1) (lines + ends_of (k i).mark) (vs ++ (v ∷ [])) q r L)
    where
      then : ℕ → List ℕ → Passage
      then v s = numbers_of k (i + 1) n (lines + ends_of (k i).mark) (vs ++ (v ∷ [])) s

      go : Local (k i) p → pursued (piece_of (k i) (p ++ r)) lines then ≡ stuck L
          → ((v : ℕ) (q : List ℕ) → then v (q ++ r) ≡ stuck L → L < lines + ends_of (k i).mark + lines_in q
          → (r' : List ℕ) → then v (q ++ r') ≡ stuck L)
          → pursued (piece_of (k i) (p ++ r')) lines then ≡ stuck L
      go (bad f) e next = ap (λ x. pursued x lines then) (f r' ∙ sym (f r)) ∙ e
      go (good v q f c) e next =
          ap (λ x. pursued x lines then) (f r')
          ∙ next v q (sym (ap (λ x. pursued x lines then) (f r)) ∙ e)
          (let z : L < lines + ends_of (k i).mark + lines_in q = omega arith in
          z) r'

  pub record Kept (n i lines : ℕ) (vs p r ws : List ℕ) (L : ℕ) (s : List ℕ) : Type 0 where
    pub q : List ℕ
    pub is : s ≡ q ++ r
    pub counted : L + lines_in q ≡ lines + lines_in p
    pub kept : (r' : List ℕ) → numbers_of k i n lines vs (p ++ r') ≡ passed ws L (q ++ r')

  numbers-kept : (n i lines : ℕ) (vs p r ws : List ℕ) (L : ℕ) (s : List ℕ)
      → numbers_of k i n lines vs (p ++ r) ≡ passed ws L s → L < lines + lines_in p
      → Kept n i lines vs p r ws L s
  unfolding numbers_of
  numbers-kept zero i lines vs p r ws L s e h =
      let a : vs ≡ ws = cc in
      let b : lines ≡ L = cc in
      let c : p ++ r ≡ s = cc in
      record { q = p; is = sym c; counted = omega arith; kept = λ r'. rw (a, b) }
  numbers-kept (suc n) i lines vs p r ws L s e h =
      go (local (k i) (low i) p (let z : 0
      < lines_in p = omega (arith, (numbers-passed k (suc n) i lines vs (p ++ r) ws L s e).came.counted) in
      z))
      e
      (λ v q. numbers-kept n (i + 1) (lines + ends_of (k i).mark) (vs ++ (v ∷ [])) q r ws L s)
    where
      then : ℕ → List ℕ → Passage
      then v t = numbers_of k (i + 1) n (lines + ends_of (k i).mark) (vs ++ (v ∷ [])) t

      go : Local (k i) p → pursued (piece_of (k i) (p ++ r)) lines then ≡ passed ws L s
          → ((v : ℕ) (q : List ℕ) → then v (q ++ r) ≡ passed ws L s → L < lines + ends_of (k i).mark + lines_in q
          → Kept n (i + 1) (lines + ends_of (k i).mark) (vs ++ (v ∷ [])) q r ws L s)
          → Kept (suc n) i lines vs p r ws L s
      go (bad f) e next =
          absurd (let b : stuck lines ≡ passed ws L s = sym (ap (λ x. pursued x lines then) (f r)) ∙ e in
          let z : ◌≡◌ {A = ℕ} 0 1 = cc in
          let y : ⊥ =
          omega arith in y)
      go (good v q f c) e next =
          let ih = next v q (sym (ap (λ x. pursued x lines then) (f r)) ∙ e)
          (let z : L < lines + ends_of (k i).mark + lines_in q = omega arith in z) in
          record {
            q = ih.q;
            is = ih.is;
            counted = omega (arith, ih.counted);
            kept = λ r'. ap (λ x. pursued x lines then) (f r') ∙ ih.kept r';
          }

-- ---- part after part: a verdict on what follows l lines, that no bytes behind the wrong line change

record Firm (G : ℕ → List ℕ → Judged) : Type 0 where
  later : (l : ℕ) (s : List ℕ) (L : ℕ) → G l s ≡ broken L → l ≤ L
  kept : (l : ℕ) (p r : List ℕ) (L : ℕ) → G l (p ++ r) ≡ broken L
      → L < l + lines_in p → (r' : List ℕ) → G l (p ++ r') ≡ broken L

module _ (k : ℕ → Kind) (low : (i : ℕ) → (k i).mark < 48) (n : ℕ) (F : Passage → Judged)
    (stops : (l : ℕ) → F (stuck l) ≡ broken l)
    (firm : (vs : List ℕ) → Firm (λ l s. F (passed vs l s))) where
  part-later : (l : ℕ) (s : List ℕ) (L : ℕ) (P : Passage) → numbers_of k 0 n l [] s ≡ P → F P ≡ broken L → l ≤ L
  part-later l s L (stuck l') e_p e =
      let q : broken l' ≡ broken L = sym (stops l') ∙ e in
      let z : l' ≡ L = cc in omega (arith, (numbers-stuck k n 0 l [] s l' e_p).came.counted)
  part-later l s L (passed vs l' s') e_p e = omega (
    arith,
    (numbers-passed k n 0 l [] s vs l' s' e_p).came.counted,
    (firm vs).later l' s' L e,
  )

  part-kept : (l : ℕ) (p r : List ℕ) (L : ℕ) (P : Passage) → numbers_of k 0 n l [] (p ++ r) ≡ P → F P ≡ broken L
      → L < l + lines_in p → (r' : List ℕ)
      → F (numbers_of k 0 n l [] (p ++ r')) ≡ broken L
  part-kept l p r L (stuck l') e_p e h r' =
      let q : broken l' ≡ broken L = sym (stops l') ∙ e in
      let z : l' ≡ L = cc in
      ap F (numbers-local k low n 0 l [] p r l' e_p (let y : l' < l + lines_in p = omega arith in y) r') ∙ e
  part-kept l p r L (passed vs l' s') e_p e h r' =
      let b : l' ≤ L = (firm vs).later l' s' L e in
      let t = numbers-kept k low n 0 l [] p r vs l' s' e_p (let y : l' < l + lines_in p = omega arith in y) in
      ap F (t.kept r')
      ∙ (firm vs).kept l' t.q r L (ap (λ x. F (passed vs l' x)) (sym t.is) ∙ e)
      (let y : L < l' + lines_in t.q = omega (arith, t.counted) in y) r'

  part-firm : Firm (λ l s. F (numbers_of k 0 n l [] s))
  part-firm = record {
    later = λ l s L e. part-later l s L (numbers_of k 0 n l [] s) refl e;
    kept = λ l p r L e h r'. part-kept l p r L (numbers_of k 0 n l [] (p ++ r)) refl e h r';
  }

mark-low : (p : Phase) (species i : ℕ) → (kind_of p species i).mark < 48
unfolding kind_of setting_of reaction_of
mark-low phase.Settings species i =
    pick_all (λ (k : Kind). k.mark < 48) _ _ _ (λ e. omega arith)
    (λ e. pick_all (λ (k : Kind). k.mark < 48) _ _ _ (λ e. omega arith)
    (λ e. pick_all (λ (k : Kind). k.mark < 48) _ _ _ (λ e. omega arith)
    (λ e. pick_all (λ (k : Kind). k.mark < 48) _ _ _ (λ e. omega arith) (λ e. omega arith))))
mark-low phase.Amounts species i = omega arith
mark-low phase.Count species i = omega arith
mark-low phase.Reactions species i = pick_all (λ (k : Kind). k.mark < 48) _ _ _ (λ e. omega arith)
    (λ e. pick_all (λ (k : Kind). k.mark < 48) _ _ _ (λ e. omega arith) (λ e. omega arith))

end_later : (h a n r : List ℕ) (l : ℕ) (s : List ℕ) (L : ℕ) → at_end h a n r l s ≡ broken L → l ≤ L
unfolding at_end
end_later h a n r l [] L e = absurd (let z : ◌≡◌ {A = ℕ} 0 1 = cc in let y : ⊥ = omega arith in y)
end_later h a n r l (x ∷ s) L e = let z : l ≡ L = cc in omega arith

end_kept : (h a n r : List ℕ) (l : ℕ) (p t : List ℕ) (L : ℕ) → at_end h a n r l (p ++ t) ≡ broken L → L < l + lines_in p
    → (t' : List ℕ) → at_end h a n r l (p ++ t') ≡ broken L
unfolding at_end lines_in
end_kept h a n r l [] t L e b t' = absurd (let q : l ≤ L = end_later h a n r l t L e in let y : ⊥ = omega arith in y)
end_kept h a n r l (x ∷ p) t L e b t' = e

end-firm : (h a n r : List ℕ) → Firm (λ l s. after_reactions h a n (passed r l s))
unfolding after_reactions
end-firm h a n r = record { later = end_later h a n r; kept = end_kept h a n r }

reactions-firm : (h a n : List ℕ) → Firm (λ l s. after_count h a (passed n l s))
unfolding after_count after_reactions
reactions-firm h a n =
    part-firm (kind_of phase.Reactions (get_or h 7 0)) (mark-low phase.Reactions (get_or h 7 0)) (get_or n 0 0 * 5)
    (after_reactions h a n) (λ l. refl) (end-firm h a n)

count-firm : (h a : List ℕ) → Firm (λ l s. after_amounts h (passed a l s))
unfolding after_amounts after_count
count-firm h a =
    part-firm (kind_of phase.Count 0) (mark-low phase.Count 0) 1 (after_count h a) (λ l. refl) (reactions-firm h a)

amounts-firm : (h : List ℕ) → Firm (λ l s. after_settings (passed h l s))
unfolding after_settings after_amounts
amounts-firm h =
    part-firm (kind_of phase.Amounts 0) (mark-low phase.Amounts 0) (get_or h 7 0)
    (after_amounts h) (λ l. refl) (count-firm h)

sheet-kept : (p r : List ℕ) (L : ℕ) → sheet_of (p ++ r) ≡ broken L → L < lines_in p → (r' : List ℕ)
    → sheet_of (p ++ r') ≡ broken L
unfolding sheet_of after_settings
sheet-kept p r L e h r' =
    (part-firm (kind_of phase.Settings 0) (mark-low phase.Settings 0) 8 after_settings
    (λ l. refl) amounts-firm).kept 0 p r
    L e (let z : L < 0 + lines_in p = omega arith in z) r'

-- ---- the theorem

broken-of : (k : ℕ) (j : Judged) → told_of j ≡ malformed k → (L : ℕ) × (j ≡ broken L) × (L + 1 ≡ k)
unfolding told_of
broken-of k (whole h a n r) e = absurd (let z : ◌≡◌ {A = ℕ} 0 1 = cc in let y : ⊥ = omega arith in y)
broken-of k (broken L) e = (L, refl, cc)

pub malformed-broken : (s : List ℕ) (k : ℕ) → read_of s ≡ malformed k → (L : ℕ) × (sheet_of s ≡ broken L) × (L + 1 ≡ k)
unfolding read_of
malformed-broken s k =
    pick_all (λ x. x ≡ malformed k → (L : ℕ) × (sheet_of s ≡ broken L) × (L + 1 ≡ k))
    (ltb 4096 (length s)) too_long (told_of (sheet_of s))
    (λ t e. absurd (let z : ◌≡◌ {A = ℕ} 0 1 = cc in let y : ⊥ = omega arith in y)) (λ t e. broken-of k (sheet_of s) e)

-- no valid sheet begins with the lines of s up to the line that is told
pub malformed-first-proof : (s : List ℕ) (k : ℕ) → read_of s ≡ malformed k → (p rest : List ℕ) → s ≡ p ++ rest
    → lines_in p ≡ k → (m : Model) → Valid m → (r : List ℕ) → written m ≡ p ++ r → ⊥
malformed-first-proof s k e p rest es ep m v r ew =
    let b = malformed-broken s k e in
    let d : sheet_of (written m) ≡ broken b.0 =
    ap sheet_of ew
    ∙ sheet-kept p rest b.0 (ap sheet_of (sym es) ∙ b.1) (let z : b.0 < lines_in p = omega (arith, b.2) in z) r in
    let w = sheet-complete m v in
    let z : ◌≡◌ {A = ℕ} 0 1 = cc in
    omega arith
