-- What specs/Reordered.antt leaves is what the definitions leave: `full-built` and `identity-built` say so of the three
-- matrices, `identity-adds` and `identity-sides` of the right sides, for vectors that pass the code's test of being
-- finite; without the test that would be wrong (`not-without-test`).
use Prim.Native.Nat.{ℕ, zero, suc, ◌+◌, ◌*◌, ◌≤◌, ◌<◌}
use mathlib.Core.Bool.{Bool, true, false, ◌&&◌}
use mathlib.Core.Logic.{◌≢◌}
use mathlib.Core.Path.{◌≡◌, refl, sym, ap, ◌∙◌}
use mathlib.Core.List.{List, [], ◌∷◌}
use native.Mathlib.Nat.{zero-mul, suc-mul}
use native.Mathlib.Decide.{dec_lt}
use native.Mathlib.Omega.{arith}
use lib.Dec.{T}
use lib.Seq.{set-set, set_comm}
use lib.Ieee.{Float, inf, binary64, add, sub, mul, neg, eq, is_nan, fits, of_bits, round, sum}
use lib.Ieee.Fits.{neg-fits, mul-fits}
use lib.Ieee.Scale.{finite}
use borrow.Author.Tests.{eq-eqb, ne_eqb}
use Rattle.words.specs.Words.{◌⊕◌, ◌⊖◌, ◌⊗◌, ◌⊘◌, ◌!◌}
use Rattle.words.specs.Constants.{«0·0», «1·0»}
use Rattle.words.specs.Loop.{loop, pick}
use Rattle.words.specs.Grid.{at, put}
use Rattle.words.proofs.Branch.{pick_yes, pick_no}
use Rattle.words.proofs.Loops.{loop-none, loop-more, Any}
use Rattle.scalar.specs.Coefficients.{U1, ALPH, BETA}
use Rattle.scalar.proofs.Tests.{is_zero, never}
use Rattle.solve_blocks.proofs.ZeroLaws.{zero-first, zero-after, zero-times, zero-negated, less-itself}
use Rattle.matrix.proofs.Interchange.{none, more, whole, past, through, split, alike}
use Rattle.matrix.proofs.Cells.{rows_apart}
use Rattle.state.specs.declared.settings.Mass.TheVariants.{Identity, Full}
use Rattle.solve_blocks.specs.declared.sums.Sums.{Sums}
use Rattle.solve_blocks.specs.Entries.{mass_at, jac_at, Three, three}
use Rattle.solve_blocks.specs.Matrices.{build_at, build_row, built_of}
use Rattle.solve_blocks.specs.Newton.{sums, mass_sum_at, mass_sums, mass_add_at, add_sums}
use Rattle.solve_blocks.specs.Estimate.{Sides, row_at, row_sum, side_at, sides_of}
use Rattle.solve_blocks.specs.Reordered.{made_at, full_at, diagonal_at, identity_built}
use Rattle.solve_blocks.specs.Reordered.{finite_at, all_finite, identity_add_at, identity_side_at}

-- ---- a loop around a loop, over places in a row, is one loop

module _ {A : Type 0} (g : ℕ → A → A) where
  continued : (k d : ℕ) (s : A) → loop (λ (c : ℕ). g (k + c)) 0 d (loop g 0 k s) ≡ loop g 0 (k + d) s
  continued k zero s =
      let e : k ≡ k + 0 = omega arith in
      loop-none (λ (c : ℕ). g (k + c)) 0 (loop g 0 k s) ∙ ap (λ (h : ℕ). loop g 0 h s) e
  continued k (suc d) s =
      let e : suc d ≡ d + 1 = omega arith in
      let e' : k + d + 1 ≡ k + suc d = omega arith in
      ap (λ (h : ℕ). loop (λ (c : ℕ). g (k + c)) 0 h (loop g 0 k s)) e
      ∙ loop-more (λ (c : ℕ). g (k + c)) 0 d (loop g 0 k s) (omega arith) ∙ ap (g (k + d)) (continued k d s)
      ∙ sym (loop-more g 0 (k + d) s (omega arith)) ∙ ap (λ (h : ℕ). loop g 0 h s) e'

  flattened : (n m : ℕ) (s : A)
      → loop (λ (r : ℕ) (t : A). loop (λ (c : ℕ). g (r * n + c)) 0 n t) 0 m s ≡ loop g 0 (m * n) s
  flattened n zero s =
      loop-none (λ (r : ℕ) (t : A). loop (λ (c : ℕ). g (r * n + c)) 0 n t) 0 s
      ∙ sym (ap (λ (h : ℕ). loop g 0 h s) (zero-mul n) ∙ loop-none g 0 s)
  flattened n (suc m) s =
      let e : suc m ≡ m + 1 = omega arith in
      ap (λ (h : ℕ). loop (λ (r : ℕ) (t : A). loop (λ (c : ℕ). g (r * n + c)) 0 n t) 0 h s) e
      ∙ loop-more (λ (r : ℕ) (t : A). loop (λ (c : ℕ). g (r * n + c)) 0 n t) 0 m s (omega arith)
      ∙ ap (loop (λ (c : ℕ). g (m * n + c)) 0 n) (flattened n m s) ∙ continued (m * n) n s
      ∙ ap (λ (h : ℕ). loop g 0 h s) (sym (suc-mul m n))

-- ---- the matrices under Full

pub full-built : (n : ℕ) (mass jac : List Float) (h : Float) (e : Three)
    → loop (full_at mass jac (U1 ⊘ h) (ALPH ⊘ h) (BETA ⊘ h)) 0 (n * n) e ≡ built_of Full n mass jac h e
unfolding built_of build_row build_at mass_at jac_at at put full_at made_at
full-built n mass jac h e = sym (flattened (full_at mass jac (U1 ⊘ h) (ALPH ⊘ h) (BETA ⊘ h)) n n e)

-- ---- the matrices under Identity

module _ (jac : List Float) where
  -- what is made at a place is made anew, or makes way for another place
  made-anew : (a b c a' b' c' : Float) (k : ℕ) (e : Three)
      → made_at a b c jac k (made_at a' b' c' jac k e) ≡ made_at a b c jac k e
  unfolding made_at
  made-anew a b c a' b' c' k e =
      rw (
        set-set e.one k (a' ⊖ jac ! k) (a ⊖ jac ! k),
        set-set e.two k (b' ⊖ jac ! k) (b ⊖ jac ! k),
        set-set e.three k c' c,
      )

  made-apart : (a b c a' b' c' : Float) (k l : ℕ) (e : Three) → l ≢ k
      → made_at a b c jac k (made_at a' b' c' jac l e) ≡ made_at a' b' c' jac l (made_at a b c jac k e)
  unfolding made_at
  made-apart a b c a' b' c' k l e h =
      rw (
        set_comm e.one l k (a' ⊖ jac ! l) (a ⊖ jac ! k) h,
        set_comm e.two l k (b' ⊖ jac ! l) (b ⊖ jac ! k) h,
        set_comm e.three l k c' c h,
      )

  module _ (n : ℕ) (mass : List Float) (fac1 alphn betan : Float) where
    abbrev plain : ℕ → Three → Three
    plain = made_at («0·0» ⊗ fac1) («0·0» ⊗ alphn) («0·0» ⊗ betan) jac

    abbrev diagonal : ℕ → Three → Three
    diagonal = diagonal_at n («1·0» ⊗ fac1) («1·0» ⊗ alphn) («1·0» ⊗ betan) jac

    abbrev built : ℕ → ℕ → Three → Three
    built = build_at Identity n mass jac fac1 alphn betan

    off-diagonal : (r c : ℕ) → r ≢ c → (e : Three) → built r c e ≡ plain (r * n + c) e
    unfolding build_at mass_at jac_at at put made_at
    off-diagonal r c h e = rw (pick_no «1·0» «0·0» (ne_eqb r c h))

    on-diagonal : (r : ℕ) (e : Three) → built r r e ≡ diagonal r e
    unfolding build_at mass_at jac_at at put made_at diagonal_at
    on-diagonal r e = rw (pick_yes «1·0» «0·0» (eq-eqb r r refl))

    diagonal-past : (r k : ℕ) → r * n + r ≢ k → (e : Three) → plain k (diagonal r e) ≡ diagonal r (plain k e)
    unfolding diagonal_at
    diagonal-past r k h e =
        made-apart («0·0» ⊗ fac1) («0·0» ⊗ alphn) («0·0» ⊗ betan) («1·0» ⊗ fac1) («1·0» ⊗ alphn) («1·0» ⊗ betan)
        k (r * n + r) e h

    module _ (r : ℕ) (hr : r < n) (e : Three) where
      abbrev row : ℕ → Three → Three
      row c = plain (r * n + c)

      before : loop (built r) 0 r e ≡ loop row 0 r e
      before =
          alike Any (built r) row 0 r (omega arith) (λ c l₁ l₂ s q. tt)
          (λ c l₁ l₂ s q. off-diagonal r c (λ z. omega arith) s) e tt

      -- past its entry on the diagonal, a row is that of the plain entries with the diagonal's made anew
      beyond : (d : ℕ) → loop (built r) 0 (r + 1 + d) e ≡ diagonal r (loop row 0 (r + 1 + d) e)
      unfolding diagonal_at
      beyond zero =
          let z : r + 1 + 0 ≡ r + 1 = omega arith in
          rw z
          (loop-more (built r) 0 r e (omega arith) ∙ on-diagonal r (loop (built r) 0 r e) ∙ ap (diagonal r) before
          ∙ sym
          (made-anew («1·0» ⊗ fac1) («1·0» ⊗ alphn) («1·0» ⊗ betan) («0·0» ⊗ fac1) («0·0» ⊗ alphn) («0·0» ⊗ betan)
          (r * n + r) (loop row 0 r e))
          ∙ ap (diagonal r) (sym (loop-more row 0 r e (omega arith))))
      beyond (suc d) =
          let z : r + 1 + suc d ≡ r + 1 + d + 1 = omega arith in
          rw z
          (loop-more (built r) 0 (r + 1 + d) e (omega arith)
          ∙ off-diagonal r (r + 1 + d) (λ y. omega arith) (loop (built r) 0 (r + 1 + d) e)
          ∙ ap (row (r + 1 + d)) (beyond d)
          ∙ diagonal-past r (r * n + (r + 1 + d)) (λ y. omega arith) (loop row 0 (r + 1 + d) e)
          ∙ ap (diagonal r) (sym (loop-more row 0 (r + 1 + d) e (omega arith))))

      row-built : loop (built r) 0 n e ≡ diagonal r (loop row 0 n e)
      row-built =
          whole (λ (h : ℕ). loop (built r) 0 h e ≡ diagonal r (loop row 0 h e)) (r + 1)
          n (omega arith) (λ d l. beyond d)

    rows-built : (e : Three)
        → loop (build_row Identity n mass jac fac1 alphn betan) 0 n e ≡ loop diagonal 0 n (loop plain 0 (n * n) e)
    unfolding build_row diagonal_at
    rows-built e =
        split Any (build_row Identity n mass jac fac1 alphn betan)
        (λ (r : ℕ) (s : Three). loop (λ (c : ℕ). plain (r * n + c)) 0 n s) diagonal 0 n (omega arith)
        (λ r l₁ l₂ s q. tt) (λ r l₁ l₂ s q. row-built r l₂ s)
        (λ p r l₁ l₂ l₃ s. sym (past (λ (c : ℕ). plain (r * n + c)) (diagonal p) 0 n (omega arith)
        (λ c l₄ l₅ t. sym (diagonal-past p (r * n + c) (rows_apart n p p r c (omega arith) l₂) t)) s))
        e tt
        ∙ ap (loop diagonal 0 n) (flattened plain n n e)

pub identity-built : (n : ℕ) (mass jac : List Float) (h : Float) (e : Three)
    → identity_built n jac (U1 ⊘ h) (ALPH ⊘ h) (BETA ⊘ h) e ≡ built_of Identity n mass jac h e
unfolding built_of identity_built
identity-built n mass jac h e = sym (rows-built jac n mass (U1 ⊘ h) (ALPH ⊘ h) (BETA ⊘ h) e)

-- ---- a sum with one term besides zeros

module _ (term : ℕ → Float) (n i : ℕ) (hi : i < n) (fit : T (fits binary64 (term i)))
    (zeros : (j : ℕ) → j < n → j ≢ i → is_zero (term j) ≡ true) where
  abbrev added : ℕ → Float → Float
  added j s = s ⊕ term j

  zeros-only : loop added 0 i «0·0» ≡ «0·0»
  zeros-only =
      through (λ (s : Float). s ≡ «0·0») added 0 i (omega arith)
      (λ j l₁ l₂ s e. ap (λ (x : Float). x ⊕ term j) e ∙ zero-first (term j) (zeros j (omega arith) (λ z. omega arith)))
      «0·0» refl

  term-and-zeros : (d : ℕ) → i + 1 + d ≤ n → loop added 0 (i + 1 + d) «0·0» ≡ «0·0» ⊕ term i
  term-and-zeros zero l =
      let z : i + 1 + 0 ≡ i + 1 = omega arith in
      rw z (loop-more added 0 i «0·0» (omega arith) ∙ ap (λ (x : Float). x ⊕ term i) zeros-only)
  term-and-zeros (suc d) l =
      let z : i + 1 + suc d ≡ i + 1 + d + 1 = omega arith in
      rw z
      (loop-more added 0 (i + 1 + d) «0·0» (omega arith)
      ∙ ap (λ (x : Float). x ⊕ term (i + 1 + d)) (term-and-zeros d (omega arith))
      ∙ zero-after (term i) (term (i + 1 + d)) fit (zeros (i + 1 + d) (omega arith) (λ y. omega arith)))

  lone : loop added 0 n «0·0» ≡ «0·0» ⊕ term i
  lone = whole (λ (h : ℕ). loop added 0 h «0·0» ≡ «0·0» ⊕ term i) (i + 1) n (omega arith) term-and-zeros

-- ---- a row of the identity times a vector whose entries are finite

abbrev Finite : ℕ → List Float → Type 0
Finite n values = (j : ℕ) → j < n → T (finite (values ! j))

module _ (mass : List Float) (n i : ℕ) (hi : i < n) (values : List Float) (fine : Finite n values) where
  abbrev product : ℕ → Float
  product j = mass_at Identity mass n i j ⊗ values ! j

  one-there : product i ≡ «1·0» ⊗ values ! i
  unfolding mass_at
  one-there = rw (pick_yes «1·0» «0·0» (eq-eqb i i refl))

  zero-elsewhere : (j : ℕ) → j < n → j ≢ i → is_zero (product j) ≡ true
  unfolding mass_at
  zero-elsewhere j l h = rw (pick_no «1·0» «0·0» (ne_eqb i j (λ e. h (sym e)))) (zero-times (values ! j) (fine j l))

  sum_added : loop (λ (j : ℕ) (s : Float). s ⊕ product j) 0 n «0·0» ≡ «0·0» ⊕ «1·0» ⊗ values ! i
  sum_added =
      lone product n i hi (mul-fits binary64 (mass_at Identity mass n i i) (values ! i)) zero-elsewhere
      ∙ ap (λ (x : Float). «0·0» ⊕ x) one-there

  sum-taken : loop (λ (j : ℕ) (s : Float). s ⊖ product j) 0 n «0·0» ≡ «0·0» ⊖ «1·0» ⊗ values ! i
  unfolding sub
  sum-taken =
      lone (λ (j : ℕ). neg (product j)) n i hi
      (neg-fits binary64 (product i) (mul-fits binary64 (mass_at Identity mass n i i) (values ! i)))
      (λ j l h. zero-negated (product j) (zero-elsewhere j l h)) ∙ ap (λ (x : Float). «0·0» ⊕ neg x) one-there

-- ---- the code's test

both : (p q : Bool) → p && q ≡ true → (p ≡ true) × (q ≡ true)
both true q h = (refl, h)
both false q h = never (sym h)

abbrev passed : List Float → ℕ → Bool
passed values j = eq (values ! j ⊖ values ! j) «0·0»

last-passed : (n : ℕ) (values : List Float) → all_finite (suc n) values ≡ true
    → (all_finite n values ≡ true) × (passed values n ≡ true)
unfolding all_finite finite_at
last-passed n values h =
    let e : suc n ≡ n + 1 = omega arith in
    both (loop (finite_at values) 0 n true) (passed values n)
    (sym (ap (λ (k : ℕ). loop (finite_at values) 0 k true) e ∙ loop-more (finite_at values) 0 n true (omega arith)) ∙ h)

all-finite : (n : ℕ) (values : List Float) → all_finite n values ≡ true → Finite n values
all-finite zero values h j l = absurd (omega arith)
all-finite (suc n) values h j l = by (dec_lt j n) (all-finite n values (last-passed n values h).0 j)
  where
    by : Dec (j < n) → (j < n → T (finite (values ! j))) → T (finite (values ! j))
    by (yes k) below = below k
    by (no k) below = let e : j ≡ n = omega arith in rw e (less-itself (values ! n) (last-passed n values h).1)

-- ---- the sums of a row, side by side

-- a part of a loop's state that goes by itself
part-alone : {A B : Type 0} (part : A → B) (f : ℕ → A → A) (g : ℕ → B → B) (lo hi : ℕ) → lo ≤ hi
    → ((j : ℕ) (s : A) → part (f j s) ≡ g j (part s)) → (s : A)
    → part (loop f lo hi s) ≡ loop g lo hi (part s)
part-alone {A} part f g lo hi low step s =
    whole (λ (h : ℕ). part (loop f lo h s) ≡ loop g lo h (part s)) lo hi low (λ d l. go d)
  where
    go : (d : ℕ) → part (loop f lo (lo + d) s) ≡ loop g lo (lo + d) (part s)
    go zero = ap part (none f lo s) ∙ sym (none g lo (part s))
    go (suc d) =
        ap part (more f lo s d) ∙ step (lo + d) (loop f lo (lo + d) s) ∙ ap (g (lo + d)) (go d)
        ∙ sym (more g lo (part s) d)

same-sums : (s : Sums) {a b c : Float} → s.sum1 ≡ a → s.sum2 ≡ b → s.sum3 ≡ c → s ≡ sums a b c
same-sums s p q r = rw (sym p, sym q, sym r)

module _ (n : ℕ) (mass : List Float) (f : Three)
    (test : all_finite n f.one && all_finite n f.two && all_finite n f.three ≡ true) where
  fine1 : Finite n f.one
  fine1 =
      all-finite n f.one (both (all_finite n f.one) (all_finite n f.two)
      (both (all_finite n f.one && all_finite n f.two) (all_finite n f.three) test).0).0

  fine2 : Finite n f.two
  fine2 =
      all-finite n f.two (both (all_finite n f.one) (all_finite n f.two)
      (both (all_finite n f.one && all_finite n f.two) (all_finite n f.three) test).0).1

  fine3 : Finite n f.three
  fine3 = all-finite n f.three (both (all_finite n f.one && all_finite n f.two) (all_finite n f.three) test).1

  identity-sums : (i : ℕ) → i < n
      → mass_sums Identity n mass f i
      ≡ sums («0·0» ⊖ «1·0» ⊗ f.one ! i) («0·0» ⊖ «1·0» ⊗ f.two ! i) («0·0» ⊖ «1·0» ⊗ f.three ! i)
  unfolding mass_sums mass_sum_at
  identity-sums i hi =
      let start = sums «0·0» «0·0» «0·0» in
      let turn = mass_sum_at Identity n mass f i in
      same-sums (loop turn 0 n start)
      (part-alone (λ (s : Sums). s.sum1) turn (λ (j : ℕ) (s : Float). s ⊖ mass_at Identity mass n i j ⊗ f.one ! j) 0 n
      (omega arith) (λ j s. refl) start
      ∙ sum-taken mass n i hi f.one fine1)
      (part-alone (λ (s : Sums). s.sum2) turn (λ (j : ℕ) (s : Float). s ⊖ mass_at Identity mass n i j ⊗ f.two ! j) 0 n
      (omega arith) (λ j s. refl) start
      ∙ sum-taken mass n i hi f.two fine2)
      (part-alone (λ (s : Sums). s.sum3) turn (λ (j : ℕ) (s : Float). s ⊖ mass_at Identity mass n i j ⊗ f.three ! j) 0
      n (omega arith) (λ j s. refl) start
      ∙ sum-taken mass n i hi f.three fine3)

  pub identity-adds : (fac1 alphn betan : Float) (z : Three)
      → loop (identity_add_at f fac1 alphn betan) 0 n z ≡ loop (mass_add_at Identity n mass f fac1 alphn betan) 0 n z
  unfolding mass_add_at identity_add_at
  identity-adds fac1 alphn betan z =
      alike Any (identity_add_at f fac1 alphn betan)
      (mass_add_at Identity n mass f fac1 alphn betan) 0 n (omega arith) (λ i l₁ l₂ s q. tt)
      (λ i l₁ l₂ s q. ap (λ (t : Sums). add_sums fac1 alphn betan t i s) (sym (identity-sums i l₂))) z tt

pub identity-sides : (n : ℕ) (mass f0 f1 : List Float) → all_finite n f1 ≡ true → (s : Sides)
    → loop (identity_side_at f0 f1) 0 n s ≡ sides_of Identity n mass f0 f1 s
unfolding sides_of side_at row_sum row_at identity_side_at
identity-sides n mass f0 f1 test s =
    alike Any (identity_side_at f0 f1) (side_at Identity n mass f0 f1) 0 n (omega arith) (λ i l₁ l₂ t q. tt)
    (λ i l₁ l₂ t q. rw (sum_added mass n i l₂ f1 (all-finite n f1 test))) s tt

-- ---- the test is needed: an infinity in another row makes a NaN of the definition's sum

pub not-without-test :
    ((n : ℕ) (mass : List Float) (f : Three) (fac1 alphn betan : Float) (z : Three)
    → loop (identity_add_at f fac1 alphn betan) 0 n z ≡ loop (mass_add_at Identity n mass f fac1 alphn betan) 0 n z)
    → ⊥
unfolding loop pick identity_add_at mass_add_at mass_sums mass_sum_at mass_at add_sums add sub mul neg sum round of_bits
    is_nan
not-without-test wrong =
    let one = «1·0» in
    let ones = one ∷ one ∷ [] in
    never (ap (λ (t : Three). is_nan (t.one ! 1))
    (sym (wrong 2 [] (three (inf false ∷ one ∷ []) ones ones) one one one (three ones ones ones))))
