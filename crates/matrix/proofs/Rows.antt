-- Column by column, as lu.rs goes, or row by row, as the code does: for any lawful kind of matrix a pass leaves the
-- same (`rows-first`); `by_rows` says so by the calls. Nor does it matter that a row ends where only idle
-- multipliers follow (`row-early`). A turn at row i, column j writes that entry alone and reads, besides it, column k
-- and row k, which no turn writes. So turns in two columns may change places, and so may a turn and the exchange of two
-- entries in another column: first all exchanges, then all turns, in either order.
use Prim.Native.Nat.{ℕ, ◌+◌, ◌≤◌, ◌<◌}
use mathlib.Core.Bool.{Bool, true, false}
use mathlib.Core.Logic.{◌≢◌}
use mathlib.Core.Path.{◌≡◌, refl, sym, ap, subst, ◌∙◌}
use native.Mathlib.Omega.{arith}
use lib.Dec.{eqb}
use borrow.Author.Tests.{eqb-true}
use Rattle.words.specs.Loop.{loop, pick}
use Rattle.words.proofs.Branch.{pick_all}
use Rattle.matrix.specs.Elimination.{Kind, swapped, column_at}
use Rattle.matrix.specs.Reordered.{cell_at, row_at, IdleFrom}
use Rattle.matrix.proofs.Interchange.{past, split, across, alike, through, early}
use Rattle.matrix.proofs.Cells.{Lawful, columns-apart, rows_apart}

-- an act on a branch's state, where it may change places with the branch's other side
beside : {A : Type 0} (b : Bool) (f g : A → A) (a : A) → g (f a) ≡ f (g a) → pick b (f a) (g (f a)) ≡ f (pick b a (g a))
unfolding pick
beside true f g a e = refl
beside false f g a e = e

module _ {A E : Type 0} (kind : Kind A E) (P : ℕ → A → Type 0)
    (entry : E → E → E → E) (law : Lawful kind P entry) (n k : ℕ) (hk : k < n) where
  abbrev value : ℕ → ℕ → A → E
  value i j a = entry (kind.at a n i k) (kind.at a n k j) (kind.at a n i j)

  -- ---- a turn and a store in another column

  module _ (i j p c : ℕ) (hj : j < n) (hc : c < n) (ck : k ≢ c) (cj : j ≢ c) where
    value_stays : (a : A) (x : E) → value i j (kind.put a n p c x) ≡ value i j a
    value_stays a x =
        rw (
          law.other a n p c i k x (columns-apart n i k p c hk hc ck),
          law.other a n p c k j x (columns-apart n k j p c hj hc cj),
          law.other a n p c i j x (columns-apart n i j p c hj hc cj),
        )

    cell-past-put : (a : A) (x : E)
        → cell_at kind entry n k i j (kind.put a n p c x) ≡ kind.put (cell_at kind entry n k i j a) n p c x
    unfolding cell_at
    cell-past-put a x =
        ap (kind.put (kind.put a n p c x) n i j) (value_stays a x)
        ∙ law.commute a n p c i j x (value i j a) (columns-apart n p c i j hc hj (λ e. cj (sym e)))

  -- a turn by its calls, where x is what column k of the row held all along
  pub row-turn : {s s' : A} {x t y v : E} (i j : ℕ) → j < n → k < j
      → kind.at s n i k ≡ x → t ≡ kind.at s n k j → y ≡ kind.at s n i j
      → v ≡ entry x t y → s' ≡ kind.put s n i j v → (kind.at s' n i k ≡ x) × (s' ≡ cell_at kind entry n k i j s)
  unfolding cell_at
  row-turn {s} {t = t} {y = y} {v = v} i j hj kj ex et ey ev e = (
    ap (λ (a : A). kind.at a n i k) e
        ∙ law.other s n i j i k v (columns-apart n i k i j hk hj (λ z. omega arith)) ∙ ex,
    e
        ∙ ap (kind.put s n i j)
        (ev ∙ ap (λ (x : E). entry x t y) (sym ex) ∙ ap (λ (t : E). entry (kind.at s n i k) t y) et
        ∙ ap (entry (kind.at s n i k) (kind.at s n k j)) ey),
  )

  -- ---- a row that ends early

  module _ (end i : ℕ) (ki : k < i) where
    -- no turn writes row k
    turns-idle : (hi : ℕ) → k + 1 ≤ hi → (a : A) → IdleFrom kind entry n k end a
        → IdleFrom kind entry n k end (loop (cell_at kind entry n k i) (k + 1) hi a)
    unfolding cell_at
    turns-idle hi low =
        through (IdleFrom kind entry n k end) (cell_at kind entry n k i) (k + 1) hi low
        (λ j l₁ l₂ s q. record {
          low = q.low;
          high = q.high;
          still =
              λ c l u x y.
              ap (λ (t : E). entry x t y) (law.other s n i j k c (value i j s) (rows_apart n k c i j u ki))
              ∙ q.still c l u x y;
        })

    pub row-idle : (a : A) → IdleFrom kind entry n k end a → IdleFrom kind entry n k end (row_at kind entry n k i a)
    unfolding row_at
    row-idle = turns-idle n (omega arith)

    idle-turn : (j : ℕ) → end ≤ j → j < n → (a : A) → IdleFrom kind entry n k end a → cell_at kind entry n k i j a ≡ a
    unfolding cell_at
    idle-turn j l u a q =
        ap (kind.put a n i j) (q.still j l u (kind.at a n i k) (kind.at a n i j)) ∙ law.back a n i j

    pub row-early : (a : A) → IdleFrom kind entry n k end a
        → loop (cell_at kind entry n k i) (k + 1) end a ≡ row_at kind entry n k i a
    unfolding row_at
    row-early a q =
        early (cell_at kind entry n k i) (k + 1) end n q.low q.high a
        (λ j l u. idle-turn j l u (loop (cell_at kind entry n k i) (k + 1) end a) (turns-idle end q.low a q))

  -- ---- two turns, in two columns

  cells-commute : (i j p c : ℕ) → j < n → c < n → k < j → k < c → j ≢ c → (a : A)
      → cell_at kind entry n k i j (cell_at kind entry n k p c a)
      ≡ cell_at kind entry n k p c (cell_at kind entry n k i j a)
  unfolding cell_at
  cells-commute i j p c hj hc kj kc jc a =
      cell-past-put i j p c hj hc (λ e. omega arith) jc a (value p c a)
      ∙ ap (kind.put (cell_at kind entry n k i j a) n p c)
      (sym (value_stays p c i j hc hj (λ e. omega arith) (λ e. jc (sym e)) a (value i j a)))

  -- ---- a turn and an exchange in another column

  module _ (m : ℕ) where
    abbrev exchange : ℕ → A → A
    exchange j a = kind.put (kind.put a n m j (kind.at a n k j)) n k j (kind.at a n m j)

    exchange-past-cell : (i c j : ℕ) → c < n → j < n → k < c → k < j → c ≢ j → (a : A)
        → exchange j (cell_at kind entry n k i c a) ≡ cell_at kind entry n k i c (exchange j a)
    unfolding cell_at
    exchange-past-cell i c j hc hj kc kj cj a =
        ap (λ (y : E). kind.put (kind.put (cell_at kind entry n k i c a) n m j y) n k j
        (kind.at (cell_at kind entry n k i c a) n m j))
        (law.other a n i c k j (value i c a) (columns-apart n k j i c hj hc (λ e. cj (sym e))))
        ∙ ap (λ (x : E). kind.put (kind.put (cell_at kind entry n k i c a) n m j (kind.at a n k j)) n k j x)
        (law.other a n i c m j (value i c a) (columns-apart n m j i c hj hc (λ e. cj (sym e))))
        ∙ sym
        (cell-past-put i c k j hc hj (λ e. omega arith) cj (kind.put a n m j (kind.at a n k j)) (kind.at a n m j)
        ∙ ap (λ (s : A). kind.put s n k j (kind.at a n m j))
        (cell-past-put i c m j hc hj (λ e. omega arith) cj a (kind.at a n k j)))

    swap-past-cell : (i c j : ℕ) → c < n → j < n → k < c → k < j → c ≢ j → (a : A)
        → swapped kind n k m j (cell_at kind entry n k i c a) ≡ cell_at kind entry n k i c (swapped kind n k m j a)
    unfolding swapped
    swap-past-cell i c j hc hj kc kj cj a =
        beside (eqb m k) (cell_at kind entry n k i c) (exchange j) a (exchange-past-cell i c j hc hj kc kj cj a)

    -- ---- one column

    -- after the exchange row k holds the multiplier
    multiplier-there : (j : ℕ) → j < n → (a : A) → P n a → kind.at (swapped kind n k m j a) n k j ≡ kind.at a n m j
    unfolding swapped
    multiplier-there j hj a p =
        pick_all (λ (s : A). kind.at s n k j ≡ kind.at a n m j) (eqb m k) a (exchange j a)
        (λ e. ap (λ (i : ℕ). kind.at a n i j) (sym (eqb-true m k e)))
        (λ e. law.same (kind.put a n m j (kind.at a n k j)) n k j (kind.at a n m j)
        (law.kept a n m j (kind.at a n k j) p) hk hj)

    swap-kept : (j : ℕ) (a : A) → P n a → P n (swapped kind n k m j a)
    unfolding swapped
    swap-kept j a p =
        pick_all (P n) (eqb m k) a (exchange j a) (λ e. p)
        (λ e. law.kept (kind.put a n m j (kind.at a n k j)) n k j (kind.at a n m j)
        (law.kept a n m j (kind.at a n k j) p))

    abbrev column-turns : ℕ → A → A
    column-turns j a = loop (λ (i : ℕ). cell_at kind entry n k i j) (k + 1) n a

    -- no turn writes row k, so the multiplier may be read anew in each
    fixed-is-read : (j : ℕ) → j < n → (t : E) (a : A) → kind.at a n k j ≡ t
        → kind.updated n k j t a ≡ column-turns j a
    unfolding cell_at
    fixed-is-read j hj t a e =
        law.fixed a n k j t hk
        ∙ alike (λ (s : A). kind.at s n k j ≡ t)
        (λ (i : ℕ) (s : A). kind.put s n i j (entry (kind.at s n i k) t (kind.at s n i j)))
        (λ (i : ℕ). cell_at kind entry n k i j) (k + 1) n (omega arith)
        (λ i l₁ l₂ s q.
        law.other s n i j k j (entry (kind.at s n i k) t (kind.at s n i j)) (rows_apart n k j i j hj (omega arith))
        ∙ q)
        (λ i l₁ l₂ s q. ap (λ (x : E). kind.put s n i j (entry (kind.at s n i k) x (kind.at s n i j))) (sym q)) a e

    column-is : (j : ℕ) → j < n → (a : A) → P n a → column_at kind n k m j a ≡ column-turns j (swapped kind n k m j a)
    unfolding column_at
    column-is j hj a p = fixed-is-read j hj (kind.at a n m j) (swapped kind n k m j a) (multiplier-there j hj a p)

    column-kept : (j : ℕ) → j < n → (a : A) → P n a → P n (column_at kind n k m j a)
    unfolding cell_at
    column-kept j hj a p =
        subst (P n) (sym (column-is j hj a p))
        (through (P n) (λ (i : ℕ). cell_at kind entry n k i j) (k + 1) n (omega arith)
        (λ i l₁ l₂ s q. law.kept s n i j (value i j s) q)
        (swapped kind n k m j a) (swap-kept j a p))

    -- ---- all columns

    pub rows-first : (a : A) → P n a
        → loop (column_at kind n k m) (k + 1) n a
        ≡ loop (row_at kind entry n k) (k + 1) n (loop (swapped kind n k m) (k + 1) n a)
    unfolding row_at
    rows-first a p =
        split (P n) (column_at kind n k m) (swapped kind n k m) column-turns (k + 1) n (omega arith)
        (λ j l₁ l₂ b q. column-kept j l₂ b q) (λ j l₁ l₂ b q. column-is j l₂ b q)
        (λ c j l₁ l₂ l₃ b. past (λ (i : ℕ). cell_at kind entry n k i c) (swapped kind n k m j) (k + 1) n (omega arith)
        (λ i l₄ l₅ s. swap-past-cell i c j (omega arith) l₃ (omega arith) (omega arith) (λ e. omega arith) s) b)
        a p
        ∙ across (λ (i j : ℕ). cell_at kind entry n k i j) (k + 1) n (k + 1) n (omega arith) (omega arith)
        (λ i i' j j' l₁ l₂ l₃ l₄ l₅ l₆ s.
        cells-commute i j' i' j l₆ (omega arith) (omega arith) (omega arith) (λ e. omega arith) s)
        (loop (swapped kind n k m) (k + 1) n a)

    -- past column k, by its calls: the rows change places, row by row is updated
    pub by_rows : {a a₁ a₂ : A} → P n a → a₁ ≡ loop (swapped kind n k m) (k + 1) n a
        → a₂ ≡ loop (row_at kind entry n k) (k + 1) n a₁ → a₂ ≡ loop (column_at kind n k m) (k + 1) n a
    by_rows {a} p e₁ e₂ = e₂ ∙ ap (loop (row_at kind entry n k) (k + 1) n) e₁ ∙ sym (rows-first a p)
