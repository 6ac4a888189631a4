-- What the four matrix routines keep of what they write, said once for the real and the complex one of each pair.
--     loop-keeps                     what every turn keeps, the loop keeps
--     lu-kept, lu-complex-kept       a decomposition, where stores keep P of a matrix and a store of a row keeps Q of
--                                    the pivots
--     solve-long, solve-complex-long a right side's length
use Prim.Native.Nat.{ℕ, zero, suc, ◌+◌, ◌-◌, ◌<◌}
use mathlib.Core.Path.{◌≡◌, ◌∙◌}
use mathlib.Core.Bool.{Bool}
use mathlib.Core.List.{List}
use native.Mathlib.Omega.{arith}
use lib.Dec.{eqb}
use lib.ListN.{length, set, length-set}
use lib.Ieee.{Float}
use borrow.Author.Tests.{eqb-true}
use Rattle.words.specs.Words.{◌!◌}
use Rattle.words.specs.Loop.{turns, loop, pick}
use Rattle.words.specs.Grid.{Square, put}
use Rattle.words.proofs.Branch.{pick_all}
use Rattle.matrix.specs.declared.complex.Complex.{Complex}
use Rattle.matrix.specs.Answers.{nowhere, Decomposed, Decomposition, decomposition, Solved, Solution, solution}
use Rattle.matrix.specs.Complex.{Parts, put_complex, entry_complex, set_complex}
use Rattle.matrix.specs.Elimination.{Kind, Best, best, Work, work, goes_on, better_at, pivot_row}
use Rattle.matrix.specs.Elimination.{swapped, scaled_at, column_at, eliminated, pass_with}
use Rattle.matrix.specs.Elimination.{passed, pass_at, last_tested, single, worked, answered}
use Rattle.matrix.specs.Lu.{real, update_at, updated, lu_decomp_of}
use Rattle.matrix.specs.LuComplex.{complex_kind, added_complex, real_at, imaginary_at}
use Rattle.matrix.specs.LuComplex.{general_at, updated_complex, lu_decomp_complex_of}
use Rattle.matrix.specs.Substitution.{exchanged, Side, forward_at, back_at, substituted, solved}
use Rattle.matrix.specs.Linear.{divided, add_at, forward, take_at, back, real_side, lin_solve_of}
use Rattle.matrix.specs.LinearComplex.{divided_complex, add_complex_at, forward_complex}
use Rattle.matrix.specs.LinearComplex.{back_complex, complex_side, lin_solve_complex_of}
use Rattle.matrix.proofs.Interchange.{through}

-- ---- loops and lengths

module _ {A : Type 0} (P : A → Type 0) (f : ℕ → A → A) (turn : (i : ℕ) (a : A) → P a → P (f i a)) where
  turns-keep : (lo k : ℕ) (a : A) → P a → P (turns f lo k a)
  turns-keep lo zero a p = p
  turns-keep lo (suc k) a p = turn (lo + k) (turns f lo k a) (turns-keep lo k a p)

  pub loop-keeps : (lo hi : ℕ) (a : A) → P a → P (loop f lo hi a)
  unfolding loop
  loop-keeps lo hi a p = turns-keep lo (hi - lo) a p

abbrev pub Long : {A : Type 0} → ℕ → List A → Type 0
Long n xs = length xs ≡ n

pub set_long : {A : Type 0} {n : ℕ} (xs : List A) (i : ℕ) (x : A) → Long n xs → Long n (set xs i x)
set_long xs i x e = length-set xs i x ∙ e

pub set-square : {n : ℕ} (a : List Float) (i : ℕ) (x : Float) → Square n a → Square n (set a i x)
set-square a i x s = record { small = s.small; full = set_long a i x s.full }

-- ---- elimination, over a kind of matrix

module _ {A E : Type 0} (kind : Kind A E) (n : ℕ)
    (P : A → Type 0) (put-kept : (a : A) (i k : ℕ) (x : E) → P a → P (kind.put a n i k x))
    (updated-kept : (k j : ℕ) (t : E) (a : A) → P a → P (kind.updated n k j t a))
    (Q : List ℕ → Type 0) (row_kept : (ip : List ℕ) (k m : ℕ) → m < n → Q ip → Q (set ip k m)) where
  swapped-kept : (k m j : ℕ) (a : A) → P a → P (swapped kind n k m j a)
  unfolding swapped
  swapped-kept k m j a p = pick_all P _ _ _ (λ _. p) (λ _. put-kept _ k j _ (put-kept a m j _ p))

  eliminated-kept : (k m : ℕ) (a : A) → P a → P (eliminated kind n k m a)
  unfolding eliminated column_at scaled_at
  eliminated-kept k m a p =
      loop-keeps P (column_at kind n k m) (λ j b q. updated-kept k j _ _ (swapped-kept k m j b q)) (k + 1) n _
      (loop-keeps P (scaled_at kind n k _) (λ i b q. put-kept b i k _ q) (k + 1) n _ (swapped-kept k m k a p))

  -- the search finds a row
  row_below : (a : A) (k : ℕ) → k < n → pivot_row kind n a k < n
  unfolding pivot_row better_at
  row_below a k l =
      through (λ (b : Best). b.row < n) (better_at kind n a k) (k + 1) n (omega arith)
      (λ i low high b p. pick_all (λ (c : Best). c.row < n) _ _ _ (λ _. high) (λ _. p)) (best k _) l

  abbrev Kept : Work A → Type 0
  Kept w = P w.a × Q w.ip

  pass_kept : (k : ℕ) → k < n → (w : Work A) → Kept w → Kept (pass_at kind n k w)
  unfolding pass_at passed pass_with
  pass_kept k l w h =
      let q = row_kept w.ip k _ (row_below w.a k l) h.1 in
      pick_all Kept (goes_on w.stop) _ _
      (λ _. pick_all Kept _ _ _ (λ _. (h.0, q)) (λ _. (eliminated-kept k _ w.a h.0, q)))
      (λ _. h)

  last-kept : (w : Work A) → Kept w → Kept (last_tested kind n w)
  unfolding last_tested
  last-kept w h = pick_all Kept _ _ _ (λ _. pick_all Kept _ _ _ (λ _. h) (λ _. h)) (λ _. h)

  worked_kept : (a : A) (ip : List ℕ) → P a → Q ip → Kept (worked kind n a ip)
  unfolding worked single
  worked_kept a ip p q =
      pick_all Kept (eqb n 1) _ _
      (λ e. pick_all Kept _ _ _ (λ _. (p, q)) (λ _. (p, row_kept ip 0 0 (omega (arith, eqb-true n 1 e)) q)))
      (λ _. last-kept _ (through Kept (pass_at kind n) 0 (n - 1) (omega arith)
      (λ k low high w h. pass_kept k (omega arith) w h) (work a ip nowhere) (p, q)))

  -- with the refusals, which change nothing
  decomposed-kept : (b c : Bool) (x y : Decomposed) (a : A) (ip : List ℕ) → P a → Q ip
      → let d = pick b (pick c (answered kind n (worked kind n a ip)) (decomposition x a ip)) (decomposition y a ip) in
      P d.a × Q d.ip
  unfolding answered
  decomposed-kept b c x y a ip p q =
      pick_all (λ (d : Decomposition A). P d.a × Q d.ip) b _ _
      (λ _. pick_all (λ (d : Decomposition A). P d.a × Q d.ip) c _ _ (λ _. worked_kept a ip p q) (λ _. (p, q)))
      (λ _. (p, q))

module _ (n : ℕ) (P : List Float → Type 0) (set-kept : (a : List Float) (i : ℕ) (x : Float) → P a → P (set a i x))
    (Q : List ℕ → Type 0) (row_kept : (ip : List ℕ) (k m : ℕ) → m < n → Q ip → Q (set ip k m)) where
  put-kept : (a : List Float) (i k : ℕ) (x : Float) → P a → P (put a n i k x)
  unfolding put
  put-kept a i k x p = set-kept a _ x p

  updated-kept : (k j : ℕ) (t : Float) (a : List Float) → P a → P (updated n k j t a)
  unfolding updated update_at
  updated-kept k j t a p =
      pick_all P _ _ _ (λ _. loop-keeps P (update_at n k j t) (λ i b q. put-kept b i j _ q) (k + 1) n a p) (λ _. p)

  pub lu-kept : (a : List Float) (ip : List ℕ) → P a → Q ip → P (lu_decomp_of n a ip).a × Q (lu_decomp_of n a ip).ip
  unfolding lu_decomp_of
  lu-kept a ip = decomposed-kept real n P put-kept updated-kept Q row_kept _ _ _ _ a ip

  abbrev Both : Parts → Type 0
  Both a = P a.re × P a.im

  put_both : (a : Parts) (i k : ℕ) (x : Complex) → Both a → Both (put_complex a n i k x)
  unfolding put_complex
  put_both a i k x p = (put-kept a.re i k _ p.0, put-kept a.im i k _ p.1)

  updated-both : (k j : ℕ) (t : Complex) (a : Parts) → Both a → Both (updated_complex n k j t a)
  unfolding updated_complex real_at imaginary_at general_at added_complex
  updated-both k j t a p =
      pick_all Both _ _ _
      (λ _.
      pick_all Both _ _ _ (λ _. loop-keeps Both (real_at n k j t.re) (λ i b q. put_both b i j _ q) (k + 1) n a p)
      (λ _.
      pick_all Both _ _ _ (λ _. loop-keeps Both (imaginary_at n k j t.im) (λ i b q. put_both b i j _ q) (k + 1) n a p)
      (λ _. loop-keeps Both (general_at n k j t) (λ i b q. put_both b i j _ q) (k + 1) n a p)))
      (λ _. p)

  pub lu-complex-kept : (a : Parts) (ip : List ℕ) → P a.re × P a.im → Q ip
      → (P (lu_decomp_complex_of n a ip).a.re × P (lu_decomp_complex_of n a ip).a.im) × Q
      (lu_decomp_complex_of n a ip).ip
  unfolding lu_decomp_complex_of
  lu-complex-kept a ip = decomposed-kept complex_kind n Both put_both updated-both Q row_kept _ _ _ _ a ip

-- ---- substitution, over a kind of right side

exchanged-kept : {B E : Type 0} (at : B → ℕ → E) (put : B → ℕ → E → B) (P : B → Type 0)
    → ((b : B) (i : ℕ) (x : E) → P b → P (put b i x))
    → (m k : ℕ) (b : B) → P b → P (exchanged at put m k b)
unfolding exchanged
exchanged-kept at put P kept m k b p = kept _ k _ (kept b m _ p)

module _ {A B : Type 0} (side : Side A B) (a : A) (n : ℕ) (P : B → Type 0)
    (divided-kept : (k : ℕ) (b : B) → P b → P (side.divided a n k b))
    (forward-kept : (k m : ℕ) (b : B) → P b → P (side.forward a n k m b))
    (back-kept : (k : ℕ) (b : B) → P b → P (side.back a n k b)) where
  solved-kept : (ip : List ℕ) (b : B) → P b → P (solved side a n ip b)
  unfolding solved substituted forward_at back_at
  solved-kept ip b p =
      pick_all P _ _ _ (λ _. divided-kept 0 b p)
      (λ _. divided-kept 0 _
      (loop-keeps P (back_at side a n) (λ k c q. back-kept _ _ (divided-kept _ c q)) 1 n _
      (loop-keeps P (forward_at side a n ip) (λ k c q. forward-kept k _ c q) 0 (n - 1) b p)))

  -- with the refusals, which change nothing
  solution-kept : (u v w : Bool) (x y z s : Solved) (ip : List ℕ) (b : B) → P b
      → P (pick u (pick v (pick w (solution x b) (solution s (solved side a n ip b))) (solution y b)) (solution z b)).b
  solution-kept u v w x y z s ip b p =
      pick_all (λ (d : Solution B). P d.b) u _ _
      (λ _. pick_all (λ (d : Solution B). P d.b) v _ _
      (λ _. pick_all (λ (d : Solution B). P d.b) w _ _ (λ _. p) (λ _. solved-kept ip b p)) (λ _. p))
      (λ _. p)

module _ (k : ℕ) (n : ℕ) (ip : List ℕ) where
  pub solve-long : (a b : List Float) → Long k b → Long k (lin_solve_of n a b ip).b
  unfolding lin_solve_of divided forward add_at back take_at
  solve-long a b =
      solution-kept real_side a n (Long k) (λ i c q. set_long c i _ q)
      (λ i m c q. loop-keeps (Long k) (add_at a n i) (λ j d e. set_long d j _ e) (i + 1) n _
      (exchanged-kept ◌!◌ set (Long k) (λ d j x e. set_long d j x e) m i c q))
      (λ i c q. loop-keeps (Long k) (take_at a n i) (λ j d e. set_long d j _ e) 0 i c q) _ _ _ _ _ _ _ ip b

  abbrev Pair : Parts → Type 0
  Pair b = Long k b.re × Long k b.im

  set_pair : (b : Parts) (i : ℕ) (x : Complex) → Pair b → Pair (set_complex b i x)
  unfolding set_complex
  set_pair b i x p = (set_long b.re i _ p.0, set_long b.im i _ p.1)

  pub solve-complex-long : (a b : Parts) → Long k b.re × Long k b.im
      → Long k (lin_solve_complex_of n a b ip).b.re × Long k (lin_solve_complex_of n a b ip).b.im
  unfolding lin_solve_complex_of divided_complex forward_complex add_complex_at back_complex
  solve-complex-long a b =
      solution-kept complex_side a n Pair (λ i c q. set_pair c i _ q)
      (λ i m c q. loop-keeps Pair (add_complex_at a n i _) (λ j d e. set_pair d j _ e) (i + 1) n _
      (exchanged-kept entry_complex set_complex Pair set_pair m i c q))
      (λ i c q. loop-keeps Pair (add_complex_at a n i _) (λ j d e. set_pair d j _ e) 0 i c q) _ _ _ _ _ _ _ ip b
