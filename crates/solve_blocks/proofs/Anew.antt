-- A pass works on nothing that stood in the factors before it: every cell of the three matrices is written, and where
-- elimination stops doesn't depend on the pivots that stood there.
--     beside        what two loops, turn by turn side by side, keep
--     built-anew    the matrices that are built, whatever stood in their cells
--     stop-anew     the stop of an elimination, whatever the pivots were
use Prim.Native.Nat.{ℕ, zero, suc, ◌+◌, ◌-◌, ◌*◌, ◌≤◌, ◌<◌}
use mathlib.Core.Path.{◌≡◌, refl, sym, ap₂, ◌∙◌, subst}
use mathlib.Core.Bool.{Bool, true, false}
use mathlib.Core.List.{List, [], ◌∷◌}
use native.Mathlib.Omega.{arith}
use lib.Dec.{eqb}
use lib.ListN.{length, set}
use lib.Ieee.{Float}
use Rattle.words.specs.Loop.{loop, pick}
use Rattle.words.specs.Grid.{put}
use Rattle.words.proofs.Loops.{loop-none, loop-more}
use Rattle.matrix.specs.Answers.{Stop}
use Rattle.matrix.specs.Elimination.{Kind, Work, work, pass_with, passed, pass_at, last_tested, single, worked}
use Rattle.state.specs.declared.settings.Mass.{Mass}
use Rattle.solve_blocks.specs.Entries.{Three, three}
use Rattle.solve_blocks.specs.Matrices.{build_at, build_row, built_of}
use Rattle.solve_blocks.proofs.Decompositions.{Long, set_long}
use Rattle.solve_blocks.proofs.Passes.{Each, built-kept}

-- ---- two loops

module _ {A B : Type 0} (R : ℕ → A → B → Type 0) (f : ℕ → A → A) (g : ℕ → B → B) (hi : ℕ)
    (turn : (i : ℕ) → i < hi → (a : A) (b : B) → R i a b → R (i + 1) (f i a) (g i b)) where
  beside-part : (d : ℕ) → d ≤ hi → (a : A) (b : B) → R 0 a b → R d (loop f 0 d a) (loop g 0 d b)
  beside-part zero l a b r = rw (loop-none f 0 a, loop-none g 0 b) r
  beside-part (suc d) l a b r =
      let e : d + 1 ≡ suc d = omega arith in
      subst (λ (k : ℕ). R k (loop f 0 k a) (loop g 0 k b)) e
      (rw (loop-more f 0 d a (omega arith), loop-more g 0 d b (omega arith))
      (turn d (omega arith) _ _ (beside-part d (omega arith) a b r)))

  beside : (a : A) (b : B) → R 0 a b → R hi (loop f 0 hi a) (loop g 0 hi b)
  beside a b r = beside-part hi (omega arith) a b r

-- ---- cells written one after the other

-- the same in the first i cells, and as long
unfoldable Upto : ℕ → List Float → List Float → Type 0
Upto zero xs ys = length xs ≡ length ys
Upto (suc i) [] [] = Unit
Upto (suc i) [] (y ∷ ys) = ⊥
Upto (suc i) (x ∷ xs) [] = ⊥
Upto (suc i) (x ∷ xs) (y ∷ ys) = (x ≡ y) × Upto i xs ys

written : (i : ℕ) (xs ys : List Float) (v : Float) → Upto i xs ys → Upto (suc i) (set xs i v) (set ys i v)
unfolding Upto
written zero [] [] v h = tt
written zero [] (y ∷ ys) v h = absurd (omega (arith, h))
written zero (x ∷ xs) [] v h = absurd (omega (arith, h))
written zero (x ∷ xs) (y ∷ ys) v h = (refl, omega (arith, h))
written (suc i) [] [] v h = tt
written (suc i) [] (y ∷ ys) v h = absurd h
written (suc i) (x ∷ xs) [] v h = absurd h
written (suc i) (x ∷ xs) (y ∷ ys) v h = (h.0, written i xs ys v h.1)

all-written : (i : ℕ) (xs ys : List Float) → length xs ≤ i → Upto i xs ys → xs ≡ ys
unfolding Upto
all-written zero [] [] l h = refl
all-written zero [] (y ∷ ys) l h = absurd (omega (arith, h))
all-written zero (x ∷ xs) ys l h = absurd (omega (arith, l))
all-written (suc i) [] [] l h = refl
all-written (suc i) [] (y ∷ ys) l h = absurd h
all-written (suc i) (x ∷ xs) [] l h = absurd h
all-written (suc i) (x ∷ xs) (y ∷ ys) l h = ap₂ ◌∷◌ h.0 (all-written i xs ys (omega (arith, l)) h.1)

-- each of three
abbrev Alike : ℕ → Three → Three → Type 0
Alike i a b = Upto i a.one b.one × Upto i a.two b.two × Upto i a.three b.three

module _ (mode : Mass) (n : ℕ) (mass jac : List Float) (h : Float) where
  cell-alike : (x y z : Float) (r c : ℕ) (a b : Three) → Alike (r * n + c) a b
      → Alike (r * n + (c + 1)) (build_at mode n mass jac x y z r c a) (build_at mode n mass jac x y z r c b)
  unfolding build_at put
  cell-alike x y z r c a b w =
      let e : suc (r * n + c) ≡ r * n + (c + 1) = omega arith in
      subst (λ (i : ℕ). Alike i (build_at mode n mass jac x y z r c a) (build_at mode n mass jac x y z r c b)) e
      (written _ _ _ _ w.0, written _ _ _ _ w.1, written _ _ _ _ w.2)

  row-alike : (x y z : Float) (r : ℕ) (a b : Three) → Alike (r * n) a b
      → Alike ((r + 1) * n) (build_row mode n mass jac x y z r a) (build_row mode n mass jac x y z r b)
  unfolding build_row
  row-alike x y z r a b w =
      let first : r * n ≡ r * n + 0 = omega arith in
      let last : r * n + n ≡ (r + 1) * n = omega arith in
      let at = build_at mode n mass jac x y z r in
      subst (λ (i : ℕ). Alike i (loop at 0 n a) (loop at 0 n b)) last
      (beside (λ (c : ℕ). Alike (r * n + c)) at at n (λ c l u v. cell-alike x y z r c u v) a b
      (subst (λ (i : ℕ). Alike i a b) first w))

  pub built-anew : (a b : Three) → Each (Long (n * n)) a → Each (Long (n * n)) b
      → built_of mode n mass jac h a ≡ built_of mode n mass jac h b
  unfolding built_of Upto
  built-anew a b l m =
      let none : 0 ≡ 0 * n = omega arith in
      let k = built-kept (Long (n * n)) (λ xs i x q. set_long xs i x q) mode n mass jac h a l in
      let w = beside (λ (r : ℕ). Alike (r * n)) (build_row mode n mass jac _ _ _) (build_row mode n mass jac _ _ _) n
      (λ r _ u v. row-alike _ _ _ r u v) a b
      (subst (λ (i : ℕ). Alike i a b) none (l.0 ∙ sym m.0, l.1 ∙ sym m.1, l.2 ∙ sym m.2)) in
      ap₂ (λ (f : List Float → Three) (z : List Float). f z)
      (ap₂ three (all-written (n * n) _ _ (omega (arith, k.0)) w.0)
      (all-written (n * n) _ _ (omega (arith, k.1)) w.1))
      (all-written (n * n) _ _ (omega (arith, k.2)) w.2)

-- ---- elimination

module _ {A E : Type 0} (kind : Kind A E) (n : ℕ) where
  -- the same matrix and the same stop, whatever the pivots
  abbrev Same : Work A → Work A → Type 0
  Same v w = (v.a ≡ w.a) × (v.stop ≡ w.stop)

  -- two branches that one test decides
  pick_two : (b : Bool) (s t u v : Work A) → Same s u → Same t v → Same (pick b s t) (pick b u v)
  unfolding pick
  pick_two true s t u v p q = p
  pick_two false s t u v p q = q

  pass_same : (k : ℕ) (a : A) (s : Stop) (ip jp : List ℕ)
      → Same (pass_at kind n k (work a ip s)) (pass_at kind n k (work a jp s))
  unfolding pass_at passed pass_with
  pass_same k a s ip jp = pick_two _ _ _ _ _ (pick_two _ _ _ _ _ (refl, refl) (refl, refl)) (refl, refl)

  step_same : (k : ℕ) (v w : Work A) → Same v w → Same (pass_at kind n k v) (pass_at kind n k w)
  step_same k v w e =
      subst (λ (a : A). Same (pass_at kind n k v) (pass_at kind n k (work a w.ip w.stop))) e.0
      (subst (λ (s : Stop). Same (pass_at kind n k v) (pass_at kind n k (work v.a w.ip s))) e.1
      (pass_same k v.a v.stop v.ip w.ip))

  last-same : (v w : Work A) → Same v w → (last_tested kind n v).stop ≡ (last_tested kind n w).stop
  unfolding last_tested
  last-same v w e =
      subst (λ (a : A). (last_tested kind n v).stop ≡ (last_tested kind n (work a w.ip w.stop)).stop) e.0
      (subst (λ (s : Stop). (last_tested kind n v).stop ≡ (last_tested kind n (work v.a w.ip s)).stop) e.1
      (pick_two _ _ _ _ _ (pick_two _ _ _ _ _ (refl, refl) (refl, refl)) (refl, refl)).1)

  pick-stop : (b : Bool) (s t u v : Work A) → s.stop ≡ u.stop → t.stop ≡ v.stop
      → (pick b s t).stop ≡ (pick b u v).stop
  unfolding pick
  pick-stop true s t u v p q = p
  pick-stop false s t u v p q = q

  pub stop-anew : (a : A) (ip jp : List ℕ) → (worked kind n a ip).stop ≡ (worked kind n a jp).stop
  unfolding worked single
  stop-anew a ip jp =
      pick-stop (eqb n 1) _ _ _ _
      (pick_two _ _ _ _ _ (refl, refl) (refl, refl)).1
      (last-same _ _
      (beside (λ (i : ℕ). Same) (pass_at kind n) (pass_at kind n) (n - 1) (λ i _ v w. step_same i v w) _ _
      (refl, refl)))
