-- The back phase column by column, as linear.rs goes, or row by row, as the code does: for any lawful kind of right
-- side it is the same (`by_rows`). A turn in row i takes entry k's part from entry i: it writes entry i alone and
-- reads, besides it, entry k. Turns in two rows may change places where neither reads what the other writes, and so may
-- a turn and the division of another entry. The proof goes over the number d of columns done: they leave what d whole
-- rows leave once each row above them has lost its first d parts (`columns-then-rows`). With d = n no row is left
-- above. `rows-solved`: a row's sum may be kept in a variable. `solved-after`, `solved-by`: both phases.
use Prim.Native.Nat.{ℕ, zero, suc, ◌+◌, ◌-◌, ◌≤◌, ◌<◌}
use mathlib.Core.Logic.{◌≢◌}
use mathlib.Core.Path.{◌≡◌, refl, sym, ap, ◌∙◌}
use mathlib.Core.List.{List}
use native.Mathlib.Omega.{arith}
use lib.Dec.{eqb}
use borrow.Author.Tests.{eqb-true}
use Rattle.words.specs.Loop.{loop}
use Rattle.words.proofs.Branch.{pick_all}
use Rattle.words.proofs.Loops.{loop-none, loop-more, Any}
use Rattle.matrix.specs.Substitution.{exchanged, Side, forward_at, back_at, substituted, solved}
use Rattle.matrix.specs.Reordered.{Entries, gained_at, stepped, stepped_at, sum_at, row_solved_at}
use Rattle.matrix.specs.Reordered.{solved_by_rows}
use Rattle.matrix.proofs.Interchange.{none, more, whole, past, through, split, alike, idle}
use Rattle.matrix.proofs.Sides.{taken, quotient, taken_at, divided_at, Lawful, ReadOnce}

-- row n - ib by its own number
pub row_counted : {A B E : Type 0} (entries : Entries A B E) (a : A) (n i : ℕ) (b : B) → i < n
    → entries.put b i
    (entries.over (loop (sum_at entries a n i b) 1 (n - i) (entries.at b i)) (entries.cell a n i i))
    ≡ row_solved_at entries a n (n - i) b
unfolding row_solved_at
row_counted entries a n i b h =
    let e : i ≡ n - (n - i) = omega arith in
    ap
    (λ (r : ℕ).
    entries.put b r
    (entries.over (loop (sum_at entries a n r b) 1 (n - i) (entries.at b r)) (entries.cell a n r r))) e

module _ {A B E : Type 0} (side : Side A B) (entries : Entries A B E)
    (P : ℕ → B → Type 0) (law : Lawful side entries P) (a : A) (n : ℕ) where
  abbrev put : B → ℕ → E → B
  put = entries.put

  abbrev take : ℕ → ℕ → B → B
  take = taken_at entries a n

  abbrev divide : ℕ → B → B
  divide = divided_at entries a n

  -- ---- a turn and a division

  -- two stores whose values do not depend on each other's place
  apart : (i j : ℕ) (f g : B → E) → i ≢ j → ((s : B) (x : E) → f (put s j x) ≡ f s)
      → ((s : B) (x : E) → g (put s i x) ≡ g s)
      → (s : B) → put (put s j (g s)) i (f (put s j (g s))) ≡ put (put s i (f s)) j (g (put s i (f s)))
  apart i j f g ij hf hg s =
      ap (put (put s j (g s)) i) (hf s (g s)) ∙ law.commute s j i (g s) (f s) (λ e. ij (sym e))
      ∙ ap (put (put s i (f s)) j) (sym (hg s (f s)))

  taken-stays : (k i j : ℕ) → i ≢ j → k ≢ j → (s : B) (x : E)
      → taken entries a n k i (put s j x) ≡ taken entries a n k i s
  taken-stays k i j ij kj s x = rw (law.other s j i x ij, law.other s j k x kj, taken)

  quotient-stays : (k j : ℕ) → k ≢ j → (s : B) (x : E) → quotient entries a n k (put s j x) ≡ quotient entries a n k s
  quotient-stays k j kj s x = rw (law.other s j k x kj, quotient)

  takes-commute : (k i l j : ℕ) → i ≢ j → k ≢ j → l ≢ i → (s : B) → take k i (take l j s) ≡ take l j (take k i s)
  unfolding taken_at
  takes-commute k i l j ij kj li s =
      apart i j (taken entries a n k i) (taken entries a n l j) ij (taken-stays k i j ij kj)
      (taken-stays l j i (λ e. ij (sym e)) li) s

  divide-past-take : (k l j : ℕ) → k ≢ j → l ≢ k → (s : B) → divide k (take l j s) ≡ take l j (divide k s)
  unfolding taken_at divided_at
  divide-past-take k l j kj lk s =
      apart k j (quotient entries a n k) (taken entries a n l j) kj (quotient-stays k j kj)
      (taken-stays l j k (λ e. kj (sym e)) lk) s

  -- ---- rows

  -- the first d parts that row i loses, those of the last d entries
  abbrev parts : ℕ → ℕ → B → B
  parts d i s = loop (λ (kb : ℕ). take (n - kb) i) 1 (1 + d) s

  -- row n - ib, its sum in its place
  abbrev row_at : ℕ → B → B
  row_at ib s = divide (n - ib) (loop (λ (kb : ℕ). take (n - kb) (n - ib)) 1 ib s)

  -- parts of row j and a turn in row i, which reads entry k
  take-past-parts : (d k i j : ℕ) → d < n - i → j < n - d → i ≢ j → k ≢ j → (s : B)
      → take k i (parts d j s) ≡ parts d j (take k i s)
  take-past-parts d k i j di dj ij kj s =
      past (λ (kb : ℕ). take (n - kb) j) (take k i) 1 (1 + d) (omega arith)
      (λ kb l₁ l₂ t. takes-commute k i (n - kb) j ij kj (λ e. omega arith) t) s

  row-past-parts : (d i : ℕ) → d < n → i < n - (1 + d) → (s : B)
      → row_at (1 + d) (parts d i s) ≡ parts d i (row_at (1 + d) s)
  row-past-parts d i dn il s =
      past (λ (kb : ℕ). take (n - kb) i) (row_at (1 + d)) 1 (1 + d) (omega arith)
      (λ kb l₁ l₂ t. ap (divide (n - (1 + d)))
      (sym
      (take-past-parts d (n - kb) i (n - (1 + d)) (omega arith) (omega arith) (λ e. omega arith) (λ e. omega arith) t))
      ∙ divide-past-take (n - (1 + d)) (n - kb) i (λ e. omega arith) (λ e. omega arith) (parts d (n - (1 + d)) t)) s

  -- one part more in each row above k, where k is n - (1 + d)
  parts_more : (d : ℕ) → d < n → (s : B)
      → loop (take (n - (1 + d))) 0 (n - (1 + d)) (loop (parts d) 0 (n - (1 + d)) s)
      ≡ loop (parts (suc d)) 0 (n - (1 + d)) s
  parts_more d dn s =
      sym
      (split Any (parts (suc d)) (parts d) (take (n - (1 + d))) 0 (n - (1 + d)) (omega arith) (λ j l₁ l₂ t p. tt)
      (λ j l₁ l₂ t p. more (λ (kb : ℕ). take (n - kb) j) 1 t d)
      (λ i j l₁ l₂ l₃ t.
      sym (take-past-parts d (n - (1 + d)) i j (omega arith) (omega arith) (λ e. omega arith) (λ e. omega arith) t))
      s tt)

  -- ---- columns

  column-is : (kb : ℕ) (s : B) → back_at side a n kb s ≡ loop (take (n - kb)) 0 (n - kb) (divide (n - kb) s)
  unfolding back_at
  column-is kb s =
      law.takes a n (n - kb) (side.divided a n (n - kb) s)
      ∙ ap (loop (take (n - kb)) 0 (n - kb)) (law.divides a n (n - kb) s)

  columns-then-rows : (d : ℕ) → d ≤ n → (s : B)
      → loop (back_at side a n) 1 (1 + d) s ≡ loop (parts d) 0 (n - d) (loop row_at 1 (1 + d) s)
  columns-then-rows zero h s =
      none (back_at side a n) 1 s ∙ sym (none row_at 1 s)
      ∙ sym
      (idle (parts 0) 0 (n - 0) (omega arith) (λ i t. none (λ (kb : ℕ). take (n - kb) i) 1 t) (loop row_at 1 (1 + 0) s))
  columns-then-rows (suc d) h s =
      let e : n - d ≡ n - (1 + d) + 1 = omega arith in
      let f : n - (1 + d) ≡ n - suc d = omega arith in
      more (back_at side a n) 1 s d ∙ column-is (1 + d) (loop (back_at side a n) 1 (1 + d) s)
      ∙ ap (λ (t : B). loop (take (n - (1 + d))) 0 (n - (1 + d)) (divide (n - (1 + d)) t))
      (columns-then-rows d (omega arith) s ∙ ap (λ (m : ℕ). loop (parts d) 0 m (loop row_at 1 (1 + d) s)) e
      ∙ loop-more (parts d) 0 (n - (1 + d)) (loop row_at 1 (1 + d) s) (omega arith))
      ∙ ap (loop (take (n - (1 + d))) 0 (n - (1 + d)))
      (past (parts d) (row_at (1 + d)) 0 (n - (1 + d)) (omega arith) (λ i l₁ l₂ t. row-past-parts d i (omega arith) l₂
      t)
      (loop row_at 1 (1 + d) s))
      ∙ parts_more d (omega arith) (row_at (1 + d) (loop row_at 1 (1 + d) s))
      ∙ ap (loop (parts (suc d)) 0 (n - (1 + d))) (sym (more row_at 1 s d))
      ∙ ap (λ (m : ℕ). loop (parts (suc d)) 0 m (loop row_at 1 (1 + suc d) s)) f

  columns-are-rows : (s : B) → loop (back_at side a n) 1 (n + 1) s ≡ loop row_at 1 (n + 1) s
  columns-are-rows s =
      let e : n + 1 ≡ 1 + n = omega arith in
      let z : n - n ≡ 0 = omega arith in
      ap (λ (m : ℕ). loop (back_at side a n) 1 m s) e ∙ columns-then-rows n (omega arith) s
      ∙ ap (λ (m : ℕ). loop (parts n) 0 m (loop row_at 1 (1 + n) s)) z ∙ loop-none (parts n) 0 (loop row_at 1 (1 + n) s)
      ∙ ap (λ (m : ℕ). loop row_at 1 m s) (sym e)

  -- entry 0 takes from no other, so its division is a column too
  last-column : 1 ≤ n → (s : B)
      → loop (back_at side a n) 1 (n + 1) s ≡ side.divided a n 0 (loop (back_at side a n) 1 n s)
  last-column h s =
      let z : n - n ≡ 0 = omega arith in
      loop-more (back_at side a n) 1 n s h ∙ column-is n (loop (back_at side a n) 1 n s)
      ∙ ap (λ (k : ℕ). loop (take k) 0 k (divide k (loop (back_at side a n) 1 n s))) z
      ∙ loop-none (take 0) 0 (divide 0 (loop (back_at side a n) 1 n s))
      ∙ sym (law.divides a n 0 (loop (back_at side a n) 1 n s))

  -- ---- a row's sum in a variable

  module _ (s : B) (full : P n s) (i : ℕ) (hi : i < n) where
    abbrev sum : ℕ → E
    sum h = loop (sum_at entries a n i s) 1 h (entries.at s i)

    parts-summed : (d : ℕ) → d < n - i → parts d i s ≡ put s i (sum (1 + d))
    unfolding taken_at sum_at
    parts-summed zero h =
        none (λ (kb : ℕ). take (n - kb) i) 1 s ∙ sym (law.back s i)
        ∙ ap (put s i) (sym (none (sum_at entries a n i s) 1 (entries.at s i)))
    parts-summed (suc d) h =
        more (λ (kb : ℕ). take (n - kb) i) 1 s d ∙ ap (take (n - (1 + d)) i) (parts-summed d (omega arith))
        ∙ ap
        (λ (x : E). put (put s i (sum (1 + d))) i
        (entries.less x (entries.cell a n i (n - (1 + d))) (entries.at (put s i (sum (1 + d))) (n - (1 + d)))))
        (law.same s n i (sum (1 + d)) full hi)
        ∙ ap
        (λ (x : E). put (put s i (sum (1 + d))) i (entries.less (sum (1 + d)) (entries.cell a n i (n - (1 + d))) x))
        (law.other s i (n - (1 + d)) (sum (1 + d)) (λ e. omega arith))
        ∙ law.again s i (sum (1 + d)) (sum_at entries a n i s (1 + d) (sum (1 + d)))
        ∙ ap (put s i) (sym (more (sum_at entries a n i s) 1 (entries.at s i) d))

  row-solved : (ib : ℕ) → 1 ≤ ib → ib ≤ n → (s : B) → P n s → row_solved_at entries a n ib s ≡ row_at ib s
  unfolding row_solved_at divided_at
  row-solved ib low high s full =
      let hi : n - ib < n = omega arith in
      sym
      (ap (divide (n - ib))
      (whole (λ (h : ℕ). loop (λ (kb : ℕ). take (n - kb) (n - ib)) 1 h s ≡ put s (n - ib) (sum s full (n - ib) hi h)) 1
      ib low
      (λ d l. parts-summed s full (n - ib) hi d (omega arith)))
      ∙ ap (λ (x : E).
      put (put s (n - ib) (sum s full (n - ib) hi ib)) (n - ib) (entries.over x (entries.cell a n (n - ib) (n - ib))))
      (law.same s n (n - ib) (sum s full (n - ib) hi ib) full hi)
      ∙ law.again s (n - ib) (sum s full (n - ib) hi ib)
      (entries.over (sum s full (n - ib) hi ib) (entries.cell a n (n - ib) (n - ib))))

  row_kept : (ib : ℕ) (s : B) → P n s → P n (row_solved_at entries a n ib s)
  unfolding row_solved_at
  row_kept ib s full = law.kept s n (n - ib) _ full

  rows-solved : (s : B) → P n s → loop (row_solved_at entries a n) 1 (n + 1) s ≡ loop row_at 1 (n + 1) s
  rows-solved s full =
      alike (P n) (row_solved_at entries a n) row_at 1 (n + 1) (omega arith) (λ ib l₁ l₂ t q. row_kept ib t q)
      (λ ib l₁ l₂ t q. row-solved ib l₁ (omega arith) t q) s full

  -- ---- the whole

  pub by_rows : 1 ≤ n → (s : B) → P n s
      → loop (row_solved_at entries a n) 1 (n + 1) s ≡ side.divided a n 0 (loop (back_at side a n) 1 n s)
  by_rows h s full = rows-solved s full ∙ sym (columns-are-rows s) ∙ last-column h s

  -- at the order 1 neither phase has a turn
  one : (ip : List ℕ) (b : B) → n ≡ 1 → substituted side a n ip b ≡ side.divided a n 0 b
  unfolding substituted
  one ip b o =
      let z : n - 1 ≡ 0 = omega arith in
      ap (λ (m : ℕ). side.divided a n 0 (loop (back_at side a n) 1 m (loop (forward_at side a n ip) 0 (n - 1) b))) o
      ∙ ap (side.divided a n 0) (loop-none (back_at side a n) 1 (loop (forward_at side a n ip) 0 (n - 1) b))
      ∙ ap (λ (m : ℕ). side.divided a n 0 (loop (forward_at side a n ip) 0 m b)) z
      ∙ ap (side.divided a n 0) (loop-none (forward_at side a n ip) 0 b)

  -- both phases, by what stands after each
  pub solved-after : (ip : List ℕ) (b : B) {b₁ b₂ : B} → 1 ≤ n → P n b₁
      → b₁ ≡ loop (forward_at side a n ip) 0 (n - 1) b
      → b₂ ≡ loop (row_solved_at entries a n) 1 (n + 1) b₁ → b₂ ≡ solved side a n ip b
  unfolding solved substituted
  solved-after ip b {b₁} {b₂} h full e₁ e₂ =
      let e : b₂ ≡ substituted side a n ip b
      = e₂ ∙ by_rows h b₁ full ∙ ap (λ (t : B). side.divided a n 0 (loop (back_at side a n) 1 n t)) e₁ in
      pick_all (λ (t : B). b₂ ≡ t) (eqb n 1) (side.divided a n 0 b) (substituted side a n ip b)
      (λ t. e ∙ one ip b (eqb-true n 1 t)) (λ t. e)

  -- a step of the forward phase
  step_kept : (ip : List ℕ) (k : ℕ) → k < n → (s : B) → P n s → P n (stepped_at entries a n ip k s)
  unfolding stepped_at stepped gained_at exchanged
  step_kept ip k h s full =
      through (P n) (gained_at entries a n k _) (k + 1) n (omega arith) (λ i l₁ l₂ t q. law.kept t n i _ q) _
      (law.kept _ n k _ (law.kept s n _ _ full))

  step-is : ReadOnce side entries P → (ip : List ℕ) (k : ℕ) → k < n → (s : B) → P n s
      → stepped_at entries a n ip k s ≡ forward_at side a n ip k s
  unfolding stepped_at forward_at
  step-is once ip k h s full = sym (once.steps a n k _ s full h)

  -- both phases, as the code goes
  pub solved-by : ReadOnce side entries P → (ip : List ℕ) (b : B) → 1 ≤ n → P n b
      → solved_by_rows entries a n ip b ≡ solved side a n ip b
  unfolding solved_by_rows
  solved-by once ip b h full =
      solved-after ip b h
      (through (P n) (stepped_at entries a n ip) 0 (n - 1) (omega arith)
      (λ k l₁ l₂ s q. step_kept ip k (omega arith) s q) b full)
      (alike (P n) (stepped_at entries a n ip) (forward_at side a n ip) 0 (n - 1) (omega arith)
      (λ k l₁ l₂ s q. step_kept ip k (omega arith) s q) (λ k l₁ l₂ s q. step-is once ip k (omega arith) s q) b full)
      refl
