-- Lent memory that was filled entry by entry has the model's amounts, rates and species over its first entries.
use Prim.Native.Nat.{ℕ, zero, suc, ◌+◌, ◌*◌, ◌/◌, ◌%◌, ◌≤◌, ◌<◌}
use mathlib.Core.Path.{◌≡◌, refl, sym, ap, ◌∙◌}
use mathlib.Core.List.{List, [], ◌∷◌, ◌++◌}
use native.Mathlib.Numerals.{add-one}
use native.Mathlib.Omega.{arith}
use lib.ListN.{length, get_or, take, drop, set}
use lib.Seq.{length-take-le, get_or-take, get_or-drop, take-length}
use Rattle.words.specs.Loop.{loop}
use Rattle.words.proofs.Loops.{loop-none, loop-more}
use Rattle.sheet.specs.Fill.{placed, rate_at, species_at}
use Rattle.sheet.specs.Reader.{over, reactions_from, rates_of, species_of}

over_nothing : (vs : List ℕ) → over vs [] ≡ []
unfolding over
over_nothing [] = refl
over_nothing (v ∷ vs) = refl

pub set-over : (vs memory : List ℕ) (n : ℕ) → n < length vs
    → set (over (take n vs) memory) n (get_or vs n 0) ≡ over (take (suc n) vs) memory
unfolding over
set-over [] memory n h = absurd (let z : ⊥ = omega arith in z)
set-over (v ∷ vs) [] n h = ap (λ m. set m n (get_or (v ∷ vs) n 0)) (over_nothing (take n (v ∷ vs)))
set-over (v ∷ vs) (x ∷ memory) zero h = refl
set-over (v ∷ vs) (x ∷ memory) (suc n) h =
    ap (λ m. v ∷ m) (set-over vs memory n (let z : n < length vs = omega arith in z))

module _ (f : ℕ → ℕ) (vs memory : List ℕ) (same : (j : ℕ) → j < length vs → f j ≡ get_or vs j 0) where
  filled-to : (n : ℕ) → n ≤ length vs → loop (placed f) 0 n memory ≡ over (take n vs) memory
  unfolding over
  filled-to zero h = loop-none (placed f) 0 memory
  filled-to (suc n) h =
      let l : n < length vs = omega arith in
      let e : suc n ≡ n + 1 = sym (add-one n) in
      ap (λ k. loop (placed f) 0 k memory) e ∙ loop-more (placed f) 0 n memory (let z : 0 ≤ n = omega arith in z)
      ∙ ap (λ m. set m n (f n)) (filled-to n (let z : n ≤ length vs = omega arith in z))
      ∙ ap (λ v. set (over (take n vs) memory) n v) (same n l) ∙ set-over vs memory n l

  pub filled-over : loop (placed f) 0 (length vs) memory ≡ over vs memory
  filled-over =
      filled-to (length vs) (let z : length vs ≤ length vs = omega arith in z)
      ∙ ap (λ x. over x memory) (take-length vs)

-- ---- the numbers of the reactions, five to each

pub length-rates : (m : ℕ) (r : List ℕ) → length (rates_of (reactions_from m r)) ≡ m
unfolding rates_of reactions_from
length-rates zero r = refl
length-rates (suc m) r = ap suc (length-rates m (drop 5 r))

pub length-reactions : (m : ℕ) (r : List ℕ) → length (reactions_from m r) ≡ m
unfolding reactions_from
length-reactions zero r = refl
length-reactions (suc m) r = ap suc (length-reactions m (drop 5 r))

pub length-species : (m : ℕ) (r : List ℕ) → length (species_of (reactions_from m r)) ≡ m * 4
unfolding species_of reactions_from
length-species zero r = refl
length-species (suc m) r =
    let z : suc (suc (suc (suc (length (species_of (reactions_from m (drop 5 r)))))))
    ≡ suc m * 4 = omega (arith, length-species m (drop 5 r)) in
    z

rates-at : (m : ℕ) (r : List ℕ) (j : ℕ) → j < m → get_or (rates_of (reactions_from m r)) j 0 ≡ get_or r (j * 5) 0
unfolding rates_of reactions_from
rates-at zero r j h = absurd (let z : ⊥ = omega arith in z)
rates-at (suc m) r zero h = refl
rates-at (suc m) r (suc j) h =
    let e : 5 + j * 5 ≡ suc j * 5 = omega arith in
    rates-at m (drop 5 r) j (let z : j < m = omega arith in z) ∙ get_or-drop 5 r (j * 5) 0 ∙ ap (λ k. get_or r k 0) e

species-at : (m : ℕ) (r : List ℕ) (j : ℕ) → j < m * 4
    → get_or (species_of (reactions_from m r)) j 0 ≡ get_or r (j / 4 * 5 + j % 4 + 1) 0
unfolding species_of reactions_from
species-at zero r j h = absurd (let z : ⊥ = omega arith in z)
species-at (suc m) r zero h = refl
species-at (suc m) r (suc zero) h = refl
species-at (suc m) r (suc (suc zero)) h = refl
species-at (suc m) r (suc (suc (suc zero))) h = refl
species-at (suc m) r (suc (suc (suc (suc j)))) h =
    let e : 5 + (j / 4 * 5 + j % 4 + 1)
    ≡ suc (suc (suc (suc j))) / 4 * 5 + suc (suc (suc (suc j))) % 4 + 1 = omega arith in
    species-at m (drop 5 r) j (let z : j < m * 4 = omega arith in z)
    ∙ get_or-drop 5 r (j / 4 * 5 + j % 4 + 1) 0 ∙ ap (λ k. get_or r k 0) e

module _ (listed memory : List ℕ) where
  pub amounts-over : (n : ℕ) → n ≤ length listed
      → loop (placed (λ i. get_or listed i 0)) 0 n memory ≡ over (take n listed) memory
  amounts-over n h =
      let e : length (take n listed) ≡ n = length-take-le n listed h in
      ap (λ k. loop (placed (λ i. get_or listed i 0)) 0 k memory) (sym e)
      ∙ filled-over (λ i. get_or listed i 0) (take n listed) memory
      (λ j q. sym (get_or-take n listed j 0 (let z : j < n = omega arith in z)))

  pub rates-over : (m : ℕ)
      → loop (placed (rate_at listed)) 0 m memory ≡ over (rates_of (reactions_from m (take (m * 5) listed))) memory
  rates-over m =
      let e : length (rates_of (reactions_from m (take (m * 5) listed))) ≡ m = length-rates m (take (m * 5) listed) in
      ap (λ k. loop (placed (rate_at listed)) 0 k memory) (sym e)
      ∙ filled-over (rate_at listed) (rates_of (reactions_from m (take (m * 5) listed))) memory
      (λ j q. let b : j < m = omega arith in
      sym (rates-at m (take (m * 5) listed) j b
      ∙ get_or-take (m * 5) listed (j * 5) 0 (let z : j * 5 < m * 5 = omega arith in z)))

  pub species-over : (m : ℕ)
      → loop (placed (species_at listed)) 0 (m * 4) memory
      ≡ over (species_of (reactions_from m (take (m * 5) listed))) memory
  species-over m =
      let e : length (species_of (reactions_from m (take (m * 5) listed)))
      ≡ m * 4 = length-species m (take (m * 5) listed) in
      ap (λ k. loop (placed (species_at listed)) 0 k memory) (sym e)
      ∙ filled-over (species_at listed) (species_of (reactions_from m (take (m * 5) listed))) memory
      (λ j q. let b : j < m * 4 = omega arith in
      sym (species-at m (take (m * 5) listed) j b
      ∙ get_or-take (m * 5) listed (j / 4 * 5 + j % 4 + 1) 0
      (let z : j / 4 * 5 + j % 4 + 1 < m * 5 = omega arith in z)))

-- over a memory that has the room, values stand in front of what was behind them
pub over-room : (vs memory : List ℕ) → length vs ≤ length memory → over vs memory ≡ vs ++ drop (length vs) memory
unfolding over
over-room [] memory h = refl
over-room (v ∷ vs) [] h = absurd (let z : ⊥ = omega arith in z)
over-room (v ∷ vs) (x ∷ memory) h =
    ap (λ m. v ∷ m) (over-room vs memory (let z : length vs ≤ length memory = omega arith in z))

-- the first of some values, copied over the first of a memory
pub copied-over : (n : ℕ) (vs memory : List ℕ) → n ≤ length vs → n ≤ length memory
    → take n vs ++ drop n memory ≡ over (take n vs) memory
copied-over n vs memory h l =
    let e : length (take n vs) ≡ n = length-take-le n vs h in
    ap (λ k. take n vs ++ drop k memory) (sym e)
    ∙ sym (over-room (take n vs) memory (let z : length (take n vs) ≤ length memory = omega arith in z))
