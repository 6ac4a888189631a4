-- Memory for n amounts is the front of arrays of 32, 128 and 1024 entries: it fits, and what is +0
-- throughout is +0 in front.
use Prim.Native.Nat.{ℕ, zero, suc, ◌-◌, ◌*◌, ◌≤◌}
use mathlib.Core.Path.{◌≡◌, refl, sym, ap, subst, ◌∙◌}
use mathlib.Core.List.{List, ◌∷◌, ◌++◌}
use native.Mathlib.Nat.{mul-le-mul, le_of_suc-le-suc, lt_of_le_of_lt, sub-zero}
use native.Mathlib.Omega.{arith}
use lib.Dec.{lit<}
use lib.ListN.{length, take, drop, replicate, length-replicate}
use lib.Ieee.{Float}
use mir.Syntax.{w64}
use mir.Val.{Fits}
use Rattle.words.specs.Words.{double}
use Rattle.state.specs.Memory.{Memory, memory, amounts, newton, given, factors, differences, zeros, noughts}
use Rattle.state.specs.declared.run.Run.{Run}
use Rattle.state.specs.declared.run.Tolerances.TheVariants.{Scalars}
use Rattle.state.specs.declared.talk.Place.{Place}
use Rattle.state.specs.declared.talk.Request.{Request}
use Rattle.opening.specs.Rows.{opening}
use Rattle.opening.specs.Opening.{OpeningOutcome, opening_outcome, open_of}
use Rattle.history.specs.History.{point}
use Rattle.model_run.specs.declared.run.Task.{Task}
use Rattle.model_run.specs.declared.run.TaskOutcome as run
use Rattle.model_run.specs.Budget.{Standing, standing, standing_at, last_of, budget}
use Rattle.model_run.specs.Budget.{room_of, memory_of, opening_of, host_for, ran_of, NoneRefused}
use Rattle.state.specs.Talk.{Opened}
use Rattle.std.specs.Prelude.{Ok}

-- ---- an array that holds one value throughout

module _ {X : Type 0} (x : X) where
  front : (n k : ℕ) → n ≤ k → take n (replicate k x) ≡ replicate n x
  front zero k l = refl
  front (suc n) zero l = absurd (omega arith)
  front (suc n) (suc k) l = ap (λ (xs : List X). x ∷ xs) (front n k (le_of_suc-le-suc l))

  fits : (n k : ℕ) (xs : List X) → xs ≡ replicate k x → n ≤ k → n ≤ length xs
  fits n k xs e l = rw (e, length-replicate) l

-- the code's &xs[0..n]
abbrev pub first : {X : Type 0} → ℕ → List X → List X
first n xs = take (n - 0) xs

first-is : {X : Type 0} (n : ℕ) (xs : List X) → first n xs ≡ take n xs
first-is n xs = ap (λ (k : ℕ). take k xs) (sub-zero n)

zeros-front : (n k : ℕ) (xs : List Float) → xs ≡ zeros k → n ≤ k → first n xs ≡ zeros n
unfolding zeros
zeros-front n k xs e l = first-is n xs ∙ ap (take n) e ∙ front (double 0) n k l

noughts-front : (n k : ℕ) (xs : List ℕ) → xs ≡ noughts k → n ≤ k → first n xs ≡ noughts n
unfolding noughts
noughts-front n k xs e l = first-is n xs ∙ ap (take n) e ∙ front 0 n k l

pub zeros-fit : {n k : ℕ} {xs : List Float} → xs ≡ zeros k → n ≤ k → n ≤ length xs
unfolding zeros
zeros-fit {n} {k} {xs} e l = fits (double 0) n k xs e l

pub noughts-fit : {n k : ℕ} {xs : List ℕ} → xs ≡ noughts k → n ≤ k → n ≤ length xs
unfolding noughts
noughts-fit {n} {k} {xs} e l = fits 0 n k xs e l

-- ---- the three lengths

pub square-fits : (n : ℕ) → n ≤ 32 → Fits w64 (n * n)
square-fits n l = record { fits = lt_of_le_of_lt (mul-le-mul l l) (lit< tt) }

-- n is what a task has room for, m
abbrev pub Sizes : ℕ → ℕ → ℕ → ℕ → Type 0
Sizes m n n4 nn = (n ≤ 32) × (n ≡ m) × (n4 ≡ 4 * n) × (nn ≡ n * n)

module _ {m n n4 nn : ℕ} (s : Sizes m n n4 nn) where
  pub four-small : n4 ≤ 128
  four-small = omega (arith, s.0, s.2)

  pub square-small : nn ≤ 1024
  square-small = subst (λ k. k ≤ 1024) (sym s.3) (mul-le-mul s.0 s.0)

  vector-is : {xs : List Float} → xs ≡ zeros 32 → first n xs ≡ zeros m
  vector-is {xs} e = zeros-front n 32 xs e s.0 ∙ ap zeros s.1

  coefficients-is : {xs : List Float} → xs ≡ zeros 128 → first n4 xs ≡ zeros (4 * m)
  coefficients-is {xs} e = zeros-front n4 128 xs e four-small ∙ ap zeros (s.2 ∙ ap (λ k. 4 * k) s.1)

  matrix-is : {xs : List Float} → xs ≡ zeros 1024 → first nn xs ≡ zeros (m * m)
  matrix-is {xs} e = zeros-front nn 1024 xs e square-small ∙ ap zeros (s.3 ∙ ap (λ k. k * k) s.1)

  pivots-is : {xs : List ℕ} → xs ≡ noughts 32 → first n xs ≡ noughts m
  pivots-is {xs} e = noughts-front n 32 xs e s.0 ∙ ap noughts s.1

  -- ---- the 22 parts

  amounts-are : (y : List Float) {f0 scal cont : List Float} → f0 ≡ zeros 32 → scal ≡ zeros 32 → cont ≡ zeros 128
      → amounts (first n y) (first n f0) (first n scal) (first n4 cont)
      ≡ amounts (take m y) (zeros m) (zeros m) (zeros (4 * m))
  amounts-are y a b c =
      let h = first-is n y ∙ ap (λ k. take k y) s.1 in
      let i = vector-is a in
      let j = vector-is b in
      let k = coefficients-is c in
      cc

  newton-are : {z1 z2 z3 f1 f2 f3 : List Float} → z1 ≡ zeros 32 → z2 ≡ zeros 32 → z3 ≡ zeros 32 → f1 ≡ zeros 32
      → f2 ≡ zeros 32 → f3 ≡ zeros 32
      → newton (first n z1) (first n z2) (first n z3) (first n f1) (first n f2) (first n f3)
      ≡ newton (zeros m) (zeros m) (zeros m) (zeros m) (zeros m) (zeros m)
  newton-are a b c d e f =
      let h = vector-is a in
      let i = vector-is b in
      let j = vector-is c in
      let k = vector-is d in
      let l = vector-is e in
      let o = vector-is f in
      cc

  given-are : {rtol atol mass jac : List Float} → rtol ≡ zeros 32 → atol ≡ zeros 32
      → mass ≡ zeros 1024 → jac ≡ zeros 1024
      → given (first n rtol) (first n atol) (first nn mass) (first nn jac)
      ≡ given (zeros m) (zeros m) (zeros (m * m)) (zeros (m * m))
  given-are a b c d =
      let h = vector-is a in
      let i = vector-is b in
      let j = matrix-is c in
      let k = matrix-is d in
      cc

  factors-are : {e1 e2r e2i : List Float} {ip1 ip2 : List ℕ} → e1 ≡ zeros 1024 → e2r ≡ zeros 1024 → e2i ≡ zeros 1024
      → ip1 ≡ noughts 32 → ip2 ≡ noughts 32
      → factors (first nn e1) (first nn e2r) (first nn e2i) (first n ip1) (first n ip2)
      ≡ factors (zeros (m * m)) (zeros (m * m)) (zeros (m * m)) (noughts m) (noughts m)
  factors-are a b c d e =
      let h = matrix-is a in
      let i = matrix-is b in
      let j = matrix-is c in
      let k = pivots-is d in
      let l = pivots-is e in
      cc

  differences-are : {yp fp fo : List Float} → yp ≡ zeros 32 → fp ≡ zeros 32 → fo ≡ zeros 32
      → differences (first n yp) (first n fp) (first n fo) ≡ differences (zeros m) (zeros m) (zeros m)
  differences-are a b c =
      let h = vector-is a in
      let i = vector-is b in
      let j = vector-is c in
      cc

-- what is lent of a task's memory, part by part, is the memory of its opening
pub lent_is : (t : Task) {n n4 nn : ℕ} → Sizes (room_of t.n) n n4 nn
    → {f0 scal cont z1 z2 z3 f1 f2 f3 rtol atol mass jac e1 e2r e2i : List Float}
    {ip1 ip2 : List ℕ} {yp fp fo : List Float}
    → f0 ≡ zeros 32 → scal ≡ zeros 32 → cont ≡ zeros 128
    → z1 ≡ zeros 32 → z2 ≡ zeros 32 → z3 ≡ zeros 32 → f1 ≡ zeros 32 → f2 ≡ zeros 32 → f3 ≡ zeros 32
    → rtol ≡ zeros 32 → atol ≡ zeros 32 → mass ≡ zeros 1024 → jac ≡ zeros 1024
    → e1 ≡ zeros 1024 → e2r ≡ zeros 1024 → e2i ≡ zeros 1024 → ip1 ≡ noughts 32 → ip2 ≡ noughts 32
    → yp ≡ zeros 32 → fp ≡ zeros 32 → fo ≡ zeros 32
    → memory
    (amounts (first n t.amounts) (first n f0) (first n scal) (first n4 cont))
    (newton (first n z1) (first n z2) (first n z3) (first n f1) (first n f2) (first n f3))
    (given (first n rtol) (first n atol) (first nn mass) (first nn jac))
    (factors (first nn e1) (first nn e2r) (first nn e2i) (first n ip1) (first n ip2))
    (differences (first n yp) (first n fp) (first n fo))
    ≡ memory_of t
lent_is t s p0 p1 p2 p3 p4 p5 p6 p7 p8 p9 p10 p11 p12 p13 p14 p15 p16 p17 p18 p19 p20 =
    let a = amounts-are s t.amounts p0 p1 p2 in
    let b = newton-are s p3 p4 p5 p6 p7 p8 in
    let c = given-are s p9 p10 p11 p12 in
    let d = factors-are s p13 p14 p15 p16 p17 in
    let e = differences-are s p18 p19 p20 in
    cc

-- ---- the two wide calls

-- the run, and the amounts with what was not lent behind them
abbrev ended_at : Task → ℕ → Standing → run.TaskOutcome
ended_at t n s = record { finish = Ok s.run; amounts = s.memory.amounts.y ++ drop n t.amounts }

pub opened-is : (t : Task) {m m' : Memory} {r : Opened} → m ≡ memory_of t
    → opening_outcome r m' ≡ open_of (opening t.settings t.n t.x0 t.xend (Scalars t.rtol t.atol) m)
    → r ≡ (open_of (opening_of t)).answer
opened-is t e o =
    ap (λ (w : OpeningOutcome). w.answer) o
    ∙ ap
    (λ (m : Memory). (open_of (opening t.settings t.n t.x0 t.xend (Scalars t.rtol t.atol) m)).answer) e

-- no turn is refused from the memory that is lent
pub none_lent : (t : Task) (rates : List Float) (species : List ℕ) (here : Run) (q : Request) (p : Place) {m : Memory}
    → m ≡ memory_of t → NoneRefused (host_for t rates species) (point here q p (memory_of t))
    → NoneRefused (host_for t rates species) (point here q p m)
none_lent t rates species here q p e none =
    subst (λ (m : Memory). NoneRefused (host_for t rates species) (point here q p m)) (sym e) none

pub ran-is : (t : Task) (rates : List Float) (species : List ℕ) (here : Run)
    (q : Request) (p : Place) {n : ℕ} {m m' : Memory} {r : Run}
    → n ≡ room_of t.n → m ≡ memory_of t
    → standing r m' ≡ standing_at (last_of (host_for t rates species) budget (point here q p m))
    → ended_at t (n - 0) (standing r m') ≡ ran_of t rates species here q p
unfolding ran_of
ran-is t rates species here q p {n} l e o =
    ap (ended_at t (n - 0))
    (o ∙ ap (λ (m : Memory). standing_at (last_of (host_for t rates species) budget (point here q p m))) e)
    ∙ ap (λ (k : ℕ). ended_at t k
    (standing_at (last_of (host_for t rates species) budget (point here q p (memory_of t)))))
    (sub-zero n ∙ l)
