-- The ring of places: a step that is put at the place of a shelf is the newest of the list, and the others follow.
use Prim.Native.Nat.{ℕ, zero, suc, ◌+◌, ◌-◌, ◌*◌, ◌≤◌, ◌<◌}
use mathlib.Core.Path.{◌≡◌, refl, sym, ap, subst, ◌∙◌}
use mathlib.Core.List.{List, [], ◌∷◌}
use mathlib.Core.Logic.{◌⊎◌, inl, inr, ⊎_elim}
use native.Mathlib.Decide.{dec_lt}
use native.Mathlib.Nat.{mul-le-mul_right, suc-mul}
use native.Mathlib.Numerals.{add-one}
use native.Mathlib.Omega.{arith}
use lib.Dec.{eqb}
use lib.ListN.{length, take, drop}
use lib.Seq.{take_all}
use lib.Ieee.{Float, nan}
use borrow.Author.Tests.{eqb-true, eqb-false}
use Rattle.words.specs.Words.{◌!◌}
use Rattle.words.proofs.Branch.{pick_all}
use Rattle.shelf.specs.Shelf.{Step, step, shelved, place_before, place_after, steps_after, step_at}
use Rattle.shelf.specs.Shelf.{steps_before, over}
use Rattle.shelf.proofs.Over.{part-here, part-before, part-after, entry_here, entry-before, entry-after}
use Rattle.shelf.specs.Refusals.{Room}
use Rattle.shelf.proofs.TestLaws.{within-room}

lt-or-ge : (a b : ℕ) → (a < b) ⊎ (b ≤ a)
lt-or-ge a b = by (dec_lt a b)
  where
    by : Dec (a < b) → (a < b) ⊎ (b ≤ a)
    by (yes p) = inl p
    by (no p) = inr (omega arith)

-- ---- the places

pub before-none : (place : ℕ) → place ≡ 0 → 47 ≡ place_before place
unfolding place_before
before-none place e = ap place_before (sym e)

pub before-some : (place : ℕ) → (place ≡ 0 → ⊥) → place - 1 ≡ place_before place
unfolding place_before
before-some zero h = absurd (h refl)
before-some (suc place) h = omega arith

pub before-low : (place : ℕ) → place ≤ 47 → place_before place ≤ 47
unfolding place_before
before-low zero h = omega arith
before-low (suc place) h = omega arith

pub after-low : (place : ℕ) → place ≤ 47 → place_after place ≤ 47
unfolding place_after
after-low place h =
    pick_all (λ (p : ℕ). p ≤ 47) (eqb place 47) 0 (place + 1) (λ _. omega arith)
    (λ e. let other : place ≡ 47 → ⊥ = eqb-false _ _ e in
    ⊎_elim (λ (l : place < 47). omega arith) (λ (g : 47 ≤ place). absurd (other (omega arith))) (lt-or-ge place 47))

pub after-before : (place : ℕ) → place ≤ 47 → place_before (place_after place) ≡ place
unfolding place_after place_before
after-before place h =
    pick_all (λ (p : ℕ). place_before p ≡ place) (eqb place 47) 0 (place + 1)
    (λ e. sym (eqb-true _ _ e)) (λ e. ap place_before (add-one place))

pub steps_low : (steps : ℕ) → steps ≤ 48 → steps_after steps ≤ 48
unfolding steps_after
steps_low steps h =
    pick_all (λ (p : ℕ). p ≤ 48) (eqb steps 48) 48 (steps + 1) (λ _. omega arith)
    (λ e. let other : steps ≡ 48 → ⊥ = eqb-false _ _ e in
    ⊎_elim (λ (l : steps < 48). omega arith) (λ (g : 48 ≤ steps). absurd (other (omega arith))) (lt-or-ge steps 48))

-- ---- the steps before a place

module _ (n : ℕ) (coefficients ends : List Float) where
  pub before-many : (count place : ℕ) → length (steps_before n coefficients ends place count) ≡ count
  unfolding steps_before
  before-many zero place = refl
  before-many (suc count) place = ap suc (before-many count (place_before place))

  pub take-before : (count more place : ℕ) → count ≤ more
      → take count (steps_before n coefficients ends place more) ≡ steps_before n coefficients ends place count
  unfolding steps_before
  take-before zero more place h = refl
  take-before (suc count) zero place h = absurd (omega arith)
  take-before (suc count) (suc more) place h =
      ap (λ (l : List Step). step_at n coefficients ends (place_before place) ∷ l)
      (take-before count more (place_before place) (omega arith))

-- two memories that differ at one place have the 47 steps before it alike
module _ (n : ℕ) (cs es cs' es' : List Float) (p : ℕ)
    (apart : (q : ℕ) → q ≤ 47 → (q ≡ p → ⊥) → step_at n cs' es' q ≡ step_at n cs es q) where
  before-alike : (count q d r : ℕ) → q ≤ 47 → count + d ≤ 47 → q + d ≡ p + 48 * r
      → steps_before n cs' es' q count ≡ steps_before n cs es q count
  unfolding steps_before place_before
  before-alike zero q d r hq hc e = refl
  before-alike (suc count) zero d r hq hc e =
      let first : step_at n cs' es' 47 ≡ step_at n cs es 47 = apart 47 (omega arith) (λ z. omega arith) in
      let rest : steps_before n cs' es' 47 count ≡ steps_before n cs es 47 count =
      before-alike count 47 (d + 1) (r + 1) (omega arith) (omega arith) (omega arith) in
      λ i. first i ∷ rest i
  before-alike (suc count) (suc q) d r hq hc e =
      let first : step_at n cs' es' q ≡ step_at n cs es q = apart q (omega arith) (λ z. omega arith) in
      let rest : steps_before n cs' es' q count ≡ steps_before n cs es q count =
      before-alike count q (d + 1) r (omega arith) (omega arith) (omega arith) in
      λ i. first i ∷ rest i

  pub before_same : (count : ℕ) → p ≤ 47 → count ≤ 47 → steps_before n cs' es' p count ≡ steps_before n cs es p count
  before_same count hp hc = before-alike count p 0 0 hp (omega arith) (omega arith)

-- ---- a step is put at a place

module _ (n place : ℕ) (cont : List Float) (xold h : Float) (cs es : List Float)
    (long : length cont ≡ 4 * n) (room : Room n (length cs) (length es)) (low : place ≤ 47) where
  abbrev cs' : List Float
  cs' = over (place * length cont) cont cs

  abbrev es' : List Float
  es' = over (2 * place) (xold ∷ h ∷ []) es

  fits : place * length cont + length cont ≤ length cs
  fits = within-room n (length cont) (length cs) place long room.coefficients low

  pub put-here : step_at n cs' es' place ≡ step cont xold h
  unfolding step_at
  put-here =
      let wide : 2 * place + 2 ≤ length es = omega (arith, room.ends) in
      let a : take (4 * n) (drop (place * (4 * n)) cs') ≡ cont =
      subst (λ (k : ℕ). take k (drop (place * k) cs') ≡ cont) long (part-here (place * length cont) cont cs fits) in
      let zeroth : 2 * place ≡ 2 * place + 0 = omega arith in
      let b : es' ! (2 * place) ≡ xold =
      ap (λ (k : ℕ). es' ! k) zeroth ∙ entry_here (2 * place) (xold ∷ h ∷ []) es wide nan 0 (omega arith) in
      let c : es' ! (2 * place + 1) ≡ h = entry_here (2 * place) (xold ∷ h ∷ []) es wide nan 1 (omega arith) in
      λ i. step (a i) (b i) (c i)

  put-there : (q : ℕ) → q ≤ 47 → (q ≡ place → ⊥) → step_at n cs' es' q ≡ step_at n cs es q
  unfolding step_at
  put-there q hq apart =
      let wide : 2 * place + 2 ≤ length es = omega (arith, room.ends) in
      let first : take (length cont) (drop (q * length cont) cs') ≡ take (length cont) (drop (q * length cont) cs) =
      ⊎_elim
      (λ (l : q < place).
      part-before (place * length cont) cont cs fits (q * length cont) (length cont)
      (omega (arith, mul-le-mul_right (length cont) l, suc-mul q (length cont))))
      (λ (g : place ≤ q).
      let l : suc place ≤ q = ⊎_elim (λ (z : place < q). z) (λ (z : q ≤ place). absurd (apart (omega arith)))
      (lt-or-ge place q) in
      part-after (place * length cont) cont cs fits (q * length cont) (length cont)
      (omega (arith, mul-le-mul_right (length cont) l, suc-mul place (length cont))))
      (lt-or-ge q place) in
      let a : take (4 * n) (drop (q * (4 * n)) cs') ≡ take (4 * n) (drop (q * (4 * n)) cs) =
      subst (λ (k : ℕ). take k (drop (q * k) cs') ≡ take k (drop (q * k) cs)) long first in
      let entry : (i : ℕ) → i ≤ 1 → es' ! (2 * q + i) ≡ es ! (2 * q + i) =
      (λ i hi. ⊎_elim
      (λ (l : q < place). entry-before (2 * place) (xold ∷ h ∷ []) es wide nan (2 * q + i) (omega arith))
      (λ (g : place ≤ q).
      ⊎_elim
      (λ (l : place < q). entry-after (2 * place) (xold ∷ h ∷ []) es wide nan (2 * q + i) (omega arith))
      (λ (z : q ≤ place). absurd (apart (omega arith)))
      (lt-or-ge place q))
      (lt-or-ge q place)) in
      let zeroth : 2 * q + 0 ≡ 2 * q = omega arith in
      let b : es' ! (2 * q) ≡ es ! (2 * q) =
      subst (λ (k : ℕ). es' ! k ≡ es ! k) zeroth (entry 0 (omega arith)) in
      let c : es' ! (2 * q + 1) ≡ es ! (2 * q + 1) = entry 1 (omega arith) in
      λ i. step (a i) (b i) (c i)

  -- so many steps as before, or 47 of them, follow the new one
  newest : (count : ℕ) → count ≤ 47
      → steps_before n cs' es' (place_after place) (suc count) ≡ step cont xold h ∷ steps_before n cs es place count
  unfolding steps_before
  newest count hc =
      let first : step_at n cs' es' (place_before (place_after place)) ≡ step cont xold h =
      ap (step_at n cs' es') (after-before place low) ∙ put-here in
      let rest : steps_before n cs' es' (place_before (place_after place)) count ≡ steps_before n cs es place count =
      ap (λ (q : ℕ). steps_before n cs' es' q count) (after-before place low)
      ∙ before_same n cs es cs' es' place put-there count low hc in
      λ i. first i ∷ rest i

  pub put-kept : (steps : ℕ) → steps ≤ 48
      → steps_before n cs' es' (place_after place) (steps_after steps)
      ≡ shelved (step cont xold h) (steps_before n cs es place steps)
  unfolding steps_after
  put-kept steps hs =
      pick_all
      (λ (k : ℕ). steps_before n cs' es' (place_after place) k
      ≡ shelved (step cont xold h) (steps_before n cs es place steps))
      (eqb steps 48) 48 (steps + 1)
      (λ e. newest 47 (omega arith)
      ∙ ap (λ (l : List Step). step cont xold h ∷ l)
      (sym (ap (λ (k : ℕ). take 47 (steps_before n cs es place k)) (eqb-true _ _ e)
      ∙ take-before n cs es 47 48 place (omega arith))))
      (λ e. let other : steps ≡ 48 → ⊥ = eqb-false _ _ e in
      let few : steps ≤ 47 = ⊎_elim (λ (l : steps < 48). omega arith)
      (λ (g : 48 ≤ steps). absurd (other (omega arith))) (lt-or-ge steps 48) in
      ap (steps_before n cs' es' (place_after place)) (add-one steps) ∙ newest steps few
      ∙ ap (λ (l : List Step). step cont xold h ∷ l)
      (sym (take_all 47 (steps_before n cs es place steps) (omega (arith, before-many n cs es steps place)))))
