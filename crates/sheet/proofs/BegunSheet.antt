-- Up to the line that is told, the bytes begin a valid sheet: what was read there is completed, each number that is
-- missing being the least of its kind.
use Prim.Native.Nat.{ℕ, zero, suc, ◌+◌, ◌*◌, ◌≤◌, ◌<◌}
use mathlib.Core.Path.{◌≡◌, refl, sym, ap, ◌∙◌}
use mathlib.Core.List.{List, [], ◌∷◌, ◌++◌, append_assoc, append-nil}
use native.Mathlib.Omega.{arith}
use lib.ListN.{length, get_or}
use Rattle.words.specs.Loop.{pick}
use Rattle.words.proofs.Branch.{pick_all}
use Rattle.sheet.specs.Kinds.{setting_of, reaction_of, kind_of}
use Rattle.sheet.specs.Lines.{lines_in}
use Rattle.sheet.specs.Malformed.{Begun}
use Rattle.sheet.specs.Numbers.{Passage, passed, stuck, ends_of, numbers_of}
use Rattle.sheet.specs.Reader.{broken, at_end, after_reactions, after_count, after_amounts}
use Rattle.sheet.specs.Reader.{after_settings, sheet_of, model_from, malformed, read_of}
use Rattle.sheet.specs.declared.kind.Kind.{Kind}
use Rattle.sheet.specs.declared.kind.Phase.{Phase}
use Rattle.sheet.specs.declared.kind.Phase.TheVariants as phase
use Rattle.sheet.specs.Writes.{spell_of, Of, writes, Fit}
use Rattle.sheet.proofs.Inverse.{spell_high}
use Rattle.sheet.proofs.Passages.{ended, Came, numbers-passed, numbers-stuck}
use Rattle.sheet.proofs.NumbersLaws.{ends-few}
use Rattle.sheet.proofs.ReaderLaws.{fit_at}
use Rattle.sheet.proofs.Parts.{settings_in, amounts_in, count_in, reactions_in}
use Rattle.sheet.proofs.Accepted.{text, Fitting, text-written, fitting-valid}
use Rattle.sheet.proofs.FirstWrong.{lines-append, lines-high, malformed-broken}

-- ---- numbers completed

module _ (k : ℕ → Kind) (some : (i : ℕ) → (k i).low ≤ (k i).high) where
  lows : ℕ → ℕ → List ℕ
  lows i zero = []
  lows i (suc n) = (k i).low ∷ lows (i + 1) n

  pad : ℕ → ℕ → List ℕ → List ℕ
  pad i n [] = lows i n
  pad i zero (v ∷ us) = []
  pad i (suc n) (v ∷ us) = v ∷ pad (i + 1) n us

  length-lows : (i n : ℕ) → length (lows i n) ≡ n
  unfolding lows
  length-lows i zero = refl
  length-lows i (suc n) = ap suc (length-lows (i + 1) n)

  length-pad : (i n : ℕ) (us : List ℕ) → length (pad i n us) ≡ n
  unfolding pad
  length-pad i n [] = length-lows i n
  length-pad i zero (v ∷ us) = refl
  length-pad i (suc n) (v ∷ us) = ap suc (length-pad (i + 1) n us)

  lows-fit : (i n : ℕ) → Fit k i (lows i n)
  unfolding lows Fit
  lows-fit i zero = tt
  lows-fit i (suc n) = (record { low = omega arith; high = some i }, lows-fit (i + 1) n)

  pad-fit : (i n : ℕ) (us : List ℕ) → Fit k i us → Fit k i (pad i n us)
  unfolding pad Fit
  pad-fit i n [] f = lows-fit i n
  pad-fit i zero (v ∷ us) f = tt
  pad-fit i (suc n) (v ∷ us) f = (f.0, pad-fit (i + 1) n us f.1)

  -- what stands behind the numbers that were read
  behind : ℕ → ℕ → List ℕ → List ℕ
  behind i n [] = writes k i (lows i n)
  behind i zero (v ∷ us) = []
  behind i (suc n) (v ∷ us) = behind (i + 1) n us

  pad-writes : (i n : ℕ) (us : List ℕ) → length us ≤ n → writes k i (pad i n us) ≡ writes k i us ++ behind i n us
  unfolding pad behind writes
  pad-writes i n [] h = refl
  pad-writes i zero (v ∷ us) h = absurd (let z : ⊥ = omega arith in z)
  pad-writes i (suc n) (v ∷ us) h =
      ap (λ x. spell_of (k i) v ++ ((k i).mark ∷ x))
      (pad-writes (i + 1) n us (let z : length us ≤ n = omega arith in z))
      ∙ sym (append_assoc (spell_of (k i) v) ((k i).mark ∷ writes k (i + 1) us) (behind (i + 1) n us))

pub lines-written : (k : ℕ → Kind) (us : List ℕ) (i : ℕ) → lines_in (writes k i us) ≡ ended k i us
unfolding writes ended lines_in
lines-written k [] i = refl
lines-written k (v ∷ us) i =
    lines-append (spell_of (k i) v) ((k i).mark ∷ writes k (i + 1) us)
    ∙ (let z : lines_in (spell_of (k i) v) + (ends_of (k i).mark + lines_in (writes k (i + 1) us))
    ≡ ends_of (k i).mark + ended k (i + 1) us =
    omega (arith, lines-high (spell_of (k i) v) (spell_high (k i) v), lines-written k us (i + 1)) in z)

some-kind : (p : Phase) (species i : ℕ) → (kind_of p species i).low ≤ (kind_of p species i).high
unfolding kind_of setting_of reaction_of
some-kind phase.Settings species i =
    pick_all (λ (k : Kind). k.low ≤ k.high) _ _ _ (λ e. omega arith)
    (λ e. pick_all (λ (k : Kind). k.low ≤ k.high) _ _ _ (λ e. omega arith)
    (λ e. pick_all (λ (k : Kind). k.low ≤ k.high) _ _ _ (λ e. omega arith)
    (λ e. pick_all (λ (k : Kind). k.low ≤ k.high) _ _ _ (λ e. omega arith) (λ e. omega arith))))
some-kind phase.Amounts species i = omega arith
some-kind phase.Count species i = omega arith
some-kind phase.Reactions species i = pick_all (λ (k : Kind). k.low ≤ k.high) _ _ _ (λ e. omega arith)
    (λ e. pick_all (λ (k : Kind). k.low ≤ k.high) _ _ _ (λ e. omega arith) (λ e. omega arith))

-- ---- a sheet completed

fitting-of : (h a n r : List ℕ) → length h ≡ 8 → Fit (kind_of phase.Settings 0) 0 h → length a ≡ get_or h 7 0
    → Fit (kind_of phase.Amounts 0) 0 a
    → length n ≡ 1 → Fit (kind_of phase.Count 0) 0 n → length r ≡ get_or n 0 0 * 5
    → Fit (kind_of phase.Reactions (get_or h 7 0)) 0 r → Fitting h a n r
unfolding kind_of setting_of pick
fitting-of h a n r lh fh la fa ln fn lr fr =
    let o : Of (kind_of phase.Settings 0 7) (get_or h 7 0) = fit_at (kind_of phase.Settings 0) h 0 7 fh (omega arith) in
    let q : Of (kind_of phase.Count 0 0) (get_or n 0 0) = fit_at (kind_of phase.Count 0) n 0 0 fn (omega arith) in
    record {
      lengths = record { settings = lh; amounts = la; few = o.high; count = ln; reactions = lr; most = q.high };
      settings = fh;
      amounts = fa;
      count = fn;
      reactions = fr;
    }

begun-by : {s : List ℕ} {lines : ℕ} (h a n r : List ℕ) → Fitting h a n r → (p rest x : List ℕ) → s ≡ p ++ rest
    → text h a n r (get_or h 7 0) ≡ p ++ x → lines_in p ≡ lines
    → Begun s lines
begun-by h a n r f p rest x e t c =
    record {
      model = model_from h a n r;
      valid = fitting-valid h a n r f;
      first = p;
      rest = rest;
      other = x;
      here = e;
      there = text-written h a n r f ∙ t;
      counted = c;
    }

abbrev S : ℕ → Kind
S = kind_of phase.Settings 0

abbrev A : ℕ → Kind
A = kind_of phase.Amounts 0

abbrev C : ℕ → Kind
C = kind_of phase.Count 0

abbrev R : List ℕ → ℕ → Kind
R h = kind_of phase.Reactions (get_or h 7 0)

-- the parts completed, after those that were read
more_a : List ℕ → List ℕ → List ℕ
more_a h ua = pad A (some-kind phase.Amounts 0) 0 (get_or h 7 0) ua

more_c : List ℕ
more_c = pad C (some-kind phase.Count 0) 0 1 []

more_r : List ℕ → List ℕ → List ℕ → List ℕ
more_r h n ur = pad (R h) (some-kind phase.Reactions (get_or h 7 0)) 0 (get_or n 0 0 * 5) ur

-- the settings are read: h; then us is read of the amounts
module _ (s h : List ℕ) (lh : length h ≡ 8) (fh : Fit S 0 h) where
  fitting-a : (ua : List ℕ) → Fit A 0 ua → Fitting h (more_a h ua) more_c (more_r h more_c [])
  unfolding Fit more_a more_c more_r
  fitting-a ua fa =
      fitting-of h (more_a h ua) more_c (more_r h more_c []) lh fh
      (length-pad A (some-kind phase.Amounts 0) 0 (get_or h 7 0) ua)
      (pad-fit A (some-kind phase.Amounts 0) 0 (get_or h 7 0) ua fa)
      (length-pad C (some-kind phase.Count 0) 0 1 []) (pad-fit C (some-kind phase.Count 0) 0 1 [] tt)
      (length-pad (R h) (some-kind phase.Reactions (get_or h 7 0)) 0 (get_or more_c 0 0 * 5) [])
      (pad-fit (R h) (some-kind phase.Reactions (get_or h 7 0)) 0 (get_or more_c 0 0 * 5) [] tt)

  fitting-r : (a n : List ℕ) → length a ≡ get_or h 7 0 → Fit A 0 a → length n ≡ 1 → Fit C 0 n → (ur : List ℕ)
      → Fit (R h) 0 ur → Fitting h a n (more_r h n ur)
  unfolding more_r
  fitting-r a n la fa ln fn ur fr =
      fitting-of h a n (more_r h n ur) lh fh la fa ln fn
      (length-pad (R h) (some-kind phase.Reactions (get_or h 7 0)) 0 (get_or n 0 0 * 5) ur)
      (pad-fit (R h) (some-kind phase.Reactions (get_or h 7 0)) 0 (get_or n 0 0 * 5) ur fr)

-- ---- where the reader stopped

came-of : (k : ℕ → Kind) (n lines : ℕ) (s ws : List ℕ) (L : ℕ) (rest : List ℕ)
    → numbers_of k 0 n lines [] s ≡ passed ws L rest → Came k 0 lines s ws L rest × (length ws ≡ n)
came-of k n lines s ws L rest e =
    let p = numbers-passed k n 0 lines [] s ws L rest e in
    (rw p.all p.came, ap length p.all ∙ p.many)

none-of : (us : List ℕ) → length us < 1 → us ≡ []
none-of [] h = refl
none-of (v ∷ us) h = absurd (let z : ⊥ = omega arith in z)

module _ (s : List ℕ) (L : ℕ) where
  stopped-settings : (l : ℕ) → settings_in s ≡ stuck l → l ≡ L → Begun s L
  unfolding Fit
  stopped-settings l e el =
      let t = numbers-stuck S 8 0 0 [] s l e in
      let f = some-kind phase.Settings 0 in
      let h : List ℕ = pad S f 0 8 t.us in
      let w = pad-writes S f 0 8 t.us (let z : length t.us ≤ 8 = omega (arith, t.fewer) in z) in
      let T : List ℕ = writes A 0 (more_a h []) ++ (writes C 0 more_c ++ writes (R h) 0 (more_r h more_c [])) in
      begun-by h (more_a h []) more_c (more_r h more_c [])
      (fitting-a s h (length-pad S f 0 8 t.us) (pad-fit S f 0 8 t.us t.came.fit) [] tt)
      (writes S 0 t.us) t.rest (behind S f 0 8 t.us ++ T) t.came.text
      (ap (λ x. x ++ T) w ∙ append_assoc (writes S 0 t.us) (behind S f 0 8 t.us) T)
      (lines-written S t.us 0 ∙ (let z : ended S 0 t.us ≡ L = omega (arith, t.came.counted) in z))

  module _ (h : List ℕ) (L1 : ℕ) (s1 : List ℕ) (e1 : settings_in s ≡ passed h L1 s1) where
    c1 : Came S 0 0 s h L1 s1 × (length h ≡ 8)
    c1 = came-of S 8 0 s h L1 s1 e1

    stopped-amounts : (l : ℕ) → amounts_in h L1 s1 ≡ stuck l → l ≡ L → Begun s L
    unfolding more_a
    stopped-amounts l e el =
        let t = numbers-stuck A (get_or h 7 0) 0 L1 [] s1 l e in
        let f = some-kind phase.Amounts 0 in
        let w =
        pad-writes A f 0 (get_or h 7 0) t.us (let z : length t.us ≤ get_or h 7 0 = omega (arith, t.fewer) in z) in
        let T : List ℕ = writes C 0 more_c ++ writes (R h) 0 (more_r h more_c []) in
        begun-by h (more_a h t.us) more_c (more_r h more_c [])
        (fitting-a s h c1.1 c1.0.fit t.us t.came.fit)
        (writes S 0 h ++ writes A 0 t.us) t.rest (behind A f 0 (get_or h 7 0) t.us ++ T)
        (c1.0.text ∙ ap (λ x. writes S 0 h ++ x) t.came.text
        ∙ sym (append_assoc (writes S 0 h) (writes A 0 t.us) t.rest))
        (ap (λ x. writes S 0 h ++ (x ++ T)) w ∙ (simp append_assoc))
        (lines-append (writes S 0 h) (writes A 0 t.us)
        ∙ (let z : lines_in (writes S 0 h) + lines_in (writes A 0 t.us) ≡ L = omega
        (arith, lines-written S h 0, lines-written A t.us 0, c1.0.counted, t.came.counted) in z))

    module _ (a : List ℕ) (L2 : ℕ) (s2 : List ℕ) (e2 : amounts_in h L1 s1 ≡ passed a L2 s2) where
      c2 : Came A 0 L1 s1 a L2 s2 × (length a ≡ get_or h 7 0)
      c2 = came-of A (get_or h 7 0) L1 s1 a L2 s2 e2

      head2 : s ≡ (writes S 0 h ++ writes A 0 a) ++ s2
      head2 =
          c1.0.text ∙ ap (λ x. writes S 0 h ++ x) c2.0.text ∙ sym (append_assoc (writes S 0 h) (writes A 0 a) s2)

      lines2 : lines_in (writes S 0 h ++ writes A 0 a) ≡ L2
      lines2 =
          lines-append (writes S 0 h) (writes A 0 a)
          ∙ (let z : lines_in (writes S 0 h) + lines_in (writes A 0 a) ≡ L2 = omega
          (arith, lines-written S h 0, lines-written A a 0, c1.0.counted, c2.0.counted) in z)

      stopped-count : (l : ℕ) → count_in L2 s2 ≡ stuck l → l ≡ L → Begun s L
      unfolding Fit more_c ended
      stopped-count l e el =
          let t = numbers-stuck C 1 0 L2 [] s2 l e in
          let f = some-kind phase.Count 0 in
          let z : ended C 0 t.us ≡ 0 = ap (ended C 0) (none-of t.us t.fewer) in
          let T : List ℕ = writes C 0 more_c ++ writes (R h) 0 (more_r h more_c []) in
          begun-by h a more_c (more_r h more_c []) (fitting-r s h c1.1 c1.0.fit a more_c c2.1 c2.0.fit
          (length-pad C f 0 1 []) (pad-fit C f 0 1 [] tt) [] tt)
          (writes S 0 h ++ writes A 0 a) s2 T head2 (sym (append_assoc (writes S 0 h) (writes A 0 a) T))
          (lines2 ∙ (let y : L2 ≡ L = omega (arith, t.came.counted) in y))

      module _ (n : List ℕ) (L3 : ℕ) (s3 : List ℕ) (e3 : count_in L2 s2 ≡ passed n L3 s3) where
        c3 : Came C 0 L2 s2 n L3 s3 × (length n ≡ 1)
        c3 = came-of C 1 L2 s2 n L3 s3 e3

        -- with the numbers ur of the reactions
        begun-r : (r ur rest x : List ℕ) → Fitting h a n r → writes (R h) 0 r ≡ writes (R h) 0 ur ++ x
            → s3 ≡ writes (R h) 0 ur ++ rest → L ≡ L3 + ended (R h) 0 ur → Begun s L
        begun-r r ur rest x f w t c =
            let p : List ℕ = (writes S 0 h ++ writes A 0 a) ++ (writes C 0 n ++ writes (R h) 0 ur) in
            begun-by h a n r f ((writes S 0 h ++ writes A 0 a) ++ (writes C 0 n ++ writes (R h) 0 ur)) rest x
            (head2 ∙ ap (λ y. (writes S 0 h ++ writes A 0 a) ++ y) (c3.0.text ∙ ap (λ y. writes C 0 n ++ y) t)
            ∙ (simp append_assoc))
            (ap (λ y. writes S 0 h ++ (writes A 0 a ++ (writes C 0 n ++ y))) w ∙ (simp append_assoc))
            (lines-append (writes S 0 h ++ writes A 0 a) (writes C 0 n ++ writes (R h) 0 ur)
            ∙ (let z : lines_in (writes S 0 h ++ writes A 0 a) + lines_in (writes C 0 n ++ writes (R h) 0 ur) ≡ L =
            omega (
              arith,
              lines2,
              lines-append (writes C 0 n) (writes (R h) 0 ur),
              lines-written C n 0,
              lines-written (R h) ur 0,
              c3.0.counted,
            ) in
            z))

        stopped-reactions : (l : ℕ) → reactions_in h n L3 s3 ≡ stuck l → l ≡ L → Begun s L
        unfolding more_r
        stopped-reactions l e el =
            let t = numbers-stuck (R h) (get_or n 0 0 * 5) 0 L3 [] s3 l e in
            let f = some-kind phase.Reactions (get_or h 7 0) in
            let w = pad-writes (R h) f 0 (get_or n 0 0 * 5) t.us
            (let z : length t.us ≤ get_or n 0 0 * 5 = omega (arith, t.fewer) in z) in
            begun-r (more_r h n t.us) t.us t.rest (behind (R h) f 0 (get_or n 0 0 * 5) t.us)
            (fitting-r s h c1.1 c1.0.fit a n c2.1 c2.0.fit c3.1 c3.0.fit t.us t.came.fit) w
            t.came.text
            (sym el ∙ t.came.counted)

        stopped-end : (r : List ℕ) (L4 : ℕ) (rest : List ℕ) → reactions_in h n L3 s3 ≡ passed r L4 rest
            → at_end h a n r L4 rest ≡ broken L → Begun s L
        unfolding at_end
        stopped-end r L4 [] e4 e = absurd (let z : ◌≡◌ {A = ℕ} 0 1 = cc in let y : ⊥ = omega arith in y)
        stopped-end r L4 (x ∷ rest) e4 e =
            let el : L4 ≡ L = cc in
            let c4 = came-of (R h) (get_or n 0 0 * 5) L3 s3 r L4 (x ∷ rest) e4 in
            begun-r r r (x ∷ rest) []
            (fitting-of h a n r c1.1 c1.0.fit c2.1 c2.0.fit c3.1 c3.0.fit c4.1 c4.0.fit)
            (sym (append-nil (writes (R h) 0 r))) c4.0.text
            (sym el ∙ c4.0.counted)

        in-reactions : (P : Passage) → reactions_in h n L3 s3 ≡ P → after_reactions h a n P ≡ broken L → Begun s L
        unfolding after_reactions
        in-reactions (stuck l) e4 e = stopped-reactions l e4 (cc)
        in-reactions (passed r L4 rest) e4 e = stopped-end r L4 rest e4 e

      in_count : (P : Passage) → count_in L2 s2 ≡ P → after_count h a P ≡ broken L → Begun s L
      unfolding after_count
      in_count (stuck l) e3 e = stopped-count l e3 (cc)
      in_count (passed n L3 s3) e3 e = in-reactions n L3 s3 e3 (reactions_in h n L3 s3) refl e

    in-amounts : (P : Passage) → amounts_in h L1 s1 ≡ P → after_amounts h P ≡ broken L → Begun s L
    unfolding after_amounts
    in-amounts (stuck l) e2 e = stopped-amounts l e2 (cc)
    in-amounts (passed a L2 s2) e2 e = in_count a L2 s2 e2 (count_in L2 s2) refl e

  in-settings : (P : Passage) → settings_in s ≡ P → after_settings P ≡ broken L → Begun s L
  unfolding after_settings
  in-settings (stuck l) e1 e = stopped-settings l e1 (cc)
  in-settings (passed h L1 s1) e1 e = in-amounts h L1 s1 e1 (amounts_in h L1 s1) refl e

  broken-begun : sheet_of s ≡ broken L → Begun s L
  unfolding sheet_of
  broken-begun e = in-settings (settings_in s) refl e

-- ---- the theorem: for each number of lines before the line that is told, some valid sheet
-- begins with these lines of s

pub record Split (p : List ℕ) (j : ℕ) : Type 0 where
  pub front : List ℕ
  pub back : List ℕ
  pub is : p ≡ front ++ back
  pub lines : lines_in front ≡ j

split_by : (x : ℕ) (p : List ℕ) (j e : ℕ) → ends_of x ≡ e → e ≤ 1 → suc j ≤ ends_of x + lines_in p
    → (j ≤ lines_in p → Split p j) → (suc j ≤ lines_in p → Split p (suc j))
    → Split (x ∷ p) (suc j)
unfolding lines_in
split_by x p j zero ee l h f g =
    let t = g (let z : suc j ≤ lines_in p = omega arith in z) in
    record { front = x ∷ t.front; back = t.back; is = ap (λ y. x ∷ y) t.is; lines = omega (arith, t.lines) }
split_by x p j (suc zero) ee l h f g =
    let t = f (let z : j ≤ lines_in p = omega arith in z) in
    record { front = x ∷ t.front; back = t.back; is = ap (λ y. x ∷ y) t.is; lines = omega (arith, t.lines) }
split_by x p j (suc (suc e)) ee l h f g = absurd (let z : ⊥ = omega arith in z)

pub lines_split : (p : List ℕ) (j : ℕ) → j ≤ lines_in p → Split p j
unfolding lines_in
lines_split [] zero h = record { front = []; back = []; is = refl; lines = refl }
lines_split [] (suc j) h = absurd (let z : ⊥ = omega arith in z)
lines_split (x ∷ p) zero h = record { front = []; back = x ∷ p; is = refl; lines = refl }
lines_split (x ∷ p) (suc j) h = split_by x p j (ends_of x) refl (ends-few x) h (lines_split p j) (lines_split p (suc j))

pub malformed-reached-proof : (s : List ℕ) (k : ℕ) → read_of s ≡ malformed k → (j : ℕ) → j < k → Begun s j
malformed-reached-proof s k e j h =
    let b = malformed-broken s k e in
    let B = broken-begun s b.0 b.1 in
    let t = lines_split B.first j (let z : j ≤ lines_in B.first = omega (arith, B.counted, b.2) in z) in
    record {
      model = B.model;
      valid = B.valid;
      first = t.front;
      rest = t.back ++ B.rest;
      other = t.back ++ B.other;
      here = B.here ∙ ap (λ y. y ++ B.rest) t.is ∙ append_assoc t.front t.back B.rest;
      there = B.there ∙ ap (λ y. y ++ B.other) t.is ∙ append_assoc t.front t.back B.other;
      counted = t.lines;
    }
