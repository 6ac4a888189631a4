-- What the reader leaves in memory is the model: its reactions, entry by entry, and its amounts with +0 behind them.
use Prim.Native.Nat.{ℕ, zero, suc, ◌+◌, ◌-◌, ◌*◌, ◌≤◌, ◌<◌}
use mathlib.Core.Path.{◌≡◌, refl, sym, ap, ◌∙◌, subst}
use mathlib.Core.List.{List, [], ◌∷◌, ◌++◌, map, map-append}
use native.Mathlib.Omega.{arith}
use lib.ListN.{length, get_or, take, drop, replicate, length-map, length-replicate, get_or-append, get_or-map}
use lib.Seq.{take_at, drop_at}
use lib.Ieee.{Float, nan}
use Rattle.words.specs.Words.{double, ◌!◌}
use Rattle.state.specs.Memory.{zeros, noughts}
use Rattle.model.specs.Derivative.{reaction_at, reactions_of}
use Rattle.model.proofs.Listed.{reactions-of-list}
use Rattle.sheet.specs.Sheet as sheet
use Rattle.sheet.specs.Sheet.{Every, Known, Valid}
use Rattle.sheet.specs.Reader.{over, rates_of, species_of}
use Rattle.sheet.proofs.FillLaws.{over-room}
use Rattle.forecast.specs.Forecast.{reaction_for}

-- ---- lists

-- an entry that is there needs no default
get_or-map-in : {A B : Type 0} (f : A → B) (l : List A) (i : ℕ) (d : A) (e : B) → i < length l
    → get_or (map f l) i e ≡ f (get_or l i d)
get_or-map-in f [] i d e h = absurd (let no : ⊥ = omega arith in no)
get_or-map-in f (x ∷ l) zero d e h = refl
get_or-map-in f (x ∷ l) (suc i) d e h = get_or-map-in f l i d e (omega arith)

map-replicate : {A B : Type 0} (f : A → B) (n : ℕ) (a : A) → map f (replicate n a) ≡ replicate n (f a)
map-replicate f zero a = refl
map-replicate f (suc n) a = ap (λ (l : List _). f a ∷ l) (map-replicate f n a)

drop-replicate : {A : Type 0} (k n : ℕ) (a : A) → drop k (replicate n a) ≡ replicate (n - k) a
drop-replicate zero n a = let e : n ≡ n - 0 = omega arith in ap (λ (i : ℕ). replicate i a) e
drop-replicate (suc k) zero a = let e : 0 ≡ 0 - suc k = omega arith in ap (λ (i : ℕ). replicate i a) e
drop-replicate (suc k) (suc n) a =
    let e : n - k ≡ suc n - suc k = omega arith in drop-replicate k n a ∙ ap (λ (i : ℕ). replicate i a) e

-- ---- values over a memory

length_over : (vs memory : List ℕ) → length (over vs memory) ≡ length memory
unfolding over
length_over [] memory = refl
length_over (v ∷ vs) [] = refl
length_over (v ∷ vs) (x ∷ memory) = ap suc (length_over vs memory)

get_d_over : (vs memory : List ℕ) (i d : ℕ) → length vs ≤ length memory → i < length vs
    → get_or (over vs memory) i d ≡ get_or vs i d
get_d_over vs memory i d room h =
    ap (λ (l : List ℕ). get_or l i d) (over-room vs memory room) ∙ get_or-append vs (drop (length vs) memory) d i h

-- ---- the amounts

module _ (vs : List ℕ) (few : length vs ≤ 32) where
  amounts-are : map double (over vs (noughts 32)) ≡ map double vs ++ zeros (32 - length vs)
  unfolding noughts zeros
  amounts-are =
      ap (map double) (over-room vs (replicate 32 0) (omega (arith, length-replicate {A = ℕ} 32 0))
      ∙ ap (λ (l : List ℕ). vs ++ l) (drop-replicate (length vs) 32 0))
      ∙ map-append double vs (replicate (32 - length vs) 0)
      ∙ ap (λ (l : List Float). map double vs ++ l) (map-replicate double (32 - length vs) 0)

  pub amounts-taken : take (length vs) (map double (over vs (noughts 32))) ≡ map double vs
  amounts-taken =
      ap (take (length vs)) amounts-are
      ∙ take_at (map double vs) (zeros (32 - length vs)) (length vs) (length-map vs double)

  pub amounts-behind : drop (length vs) (map double (over vs (noughts 32))) ≡ zeros (32 - length vs)
  amounts-behind =
      ap (drop (length vs)) amounts-are
      ∙ drop_at (map double vs) (zeros (32 - length vs)) (length vs) (length-map vs double)

-- ---- the reactions

rates-length : (rs : List sheet.Reaction) → length (rates_of rs) ≡ length rs
unfolding rates_of
rates-length [] = refl
rates-length (r ∷ rs) = ap suc (rates-length rs)

species-length : (rs : List sheet.Reaction) → length (species_of rs) ≡ 4 * length rs
unfolding species_of
species-length [] = refl
species-length (r ∷ rs) = omega (arith, species-length rs)

rate-listed : (d : sheet.Reaction) (rs : List sheet.Reaction) (i : ℕ) → i < length rs
    → get_or (rates_of rs) i 0 ≡ (get_or rs i d).rate
unfolding rates_of
rate-listed d [] i h = absurd (let no : ⊥ = omega arith in no)
rate-listed d (r ∷ rs) zero h = refl
rate-listed d (r ∷ rs) (suc i) h = rate-listed d rs i (omega arith)

-- the four numbers of reaction i
abbrev SpeciesAt : (ℕ → ℕ) → ℕ → sheet.Reaction → Type 0
SpeciesAt at i r =
    (at (4 * i) ≡ r.reactant1)
    × (at (4 * i + 1) ≡ r.reactant2)
    × (at (4 * i + 2) ≡ r.product1)
    × (at (4 * i + 3) ≡ r.product2)

species-listed : (d : sheet.Reaction) (rs : List sheet.Reaction) (i : ℕ) → i < length rs
    → SpeciesAt (λ k. get_or (species_of rs) k 0) i (get_or rs i d)
unfolding species_of
species-listed d [] i h = absurd (let no : ⊥ = omega arith in no)
species-listed d (r ∷ rs) zero h = (refl, refl, refl, refl)
species-listed d (r ∷ rs) (suc i) h =
    let s = species-listed d rs i (omega arith) in
    let later : (k j : ℕ) → j ≡ suc (suc (suc (suc k)))
    → get_or (species_of (r ∷ rs)) j 0
    ≡ get_or (species_of rs) k 0 = λ k j e. ap (λ (n : ℕ). get_or (species_of (r ∷ rs)) n 0) e in (
      later (4 * i) (4 * suc i) (omega arith) ∙ s.0,
      later (4 * i + 1) (4 * suc i + 1) (omega arith) ∙ s.1,
      later (4 * i + 2) (4 * suc i + 2) (omega arith) ∙ s.2,
      later (4 * i + 3) (4 * suc i + 3) (omega arith) ∙ s.3,
    )

species-known : (n : ℕ) (rs : List sheet.Reaction) → Every (Known n) rs → (k : ℕ) → get_or (species_of rs) k 0 ≤ n
unfolding species_of
species-known n [] known k = omega arith
species-known n (r ∷ rs) known zero = known.0.reactant1
species-known n (r ∷ rs) known (suc zero) = known.0.reactant2
species-known n (r ∷ rs) known (suc (suc zero)) = known.0.product1
species-known n (r ∷ rs) known (suc (suc (suc zero))) = known.0.product2
species-known n (r ∷ rs) known (suc (suc (suc (suc k)))) = species-known n rs known.1 k

-- ---- as they lie in memory

abbrev pub rates_for : sheet.Model → List Float
rates_for m = map double (over (rates_of m.reactions) (noughts 64))

abbrev pub species_for : sheet.Model → List ℕ
species_for m = over (species_of m.reactions) (noughts 256)

noughts-length : (n : ℕ) → length (noughts n) ≡ n
unfolding noughts
noughts-length n = length-replicate n 0

module _ (m : sheet.Model) (valid : Valid m) where
  abbrev rs : List sheet.Reaction
  rs = m.reactions

  pub rates-enough : length (rates_for m) ≡ 64
  rates-enough =
      length-map (over (rates_of rs) (noughts 64)) double ∙ length_over (rates_of rs) (noughts 64) ∙ noughts-length 64

  pub species-enough : length (species_for m) ≡ 256
  species-enough = length_over (species_of rs) (noughts 256) ∙ noughts-length 256

  species-in : (k : ℕ) → k < 4 * length rs → get_or (species_for m) k 0 ≡ get_or (species_of rs) k 0
  species-in k h =
      get_d_over (species_of rs) (noughts 256) k 0
      (omega (arith, species-length rs, noughts-length 256, valid.reactions)) (omega (arith, species-length rs))

  pub species-fit : (k : ℕ) → k < 4 * length rs → get_or (species_for m) k 0 ≤ length m.amounts
  species-fit k h =
      subst (λ (s : ℕ). s ≤ length m.amounts) (sym (species-in k h))
      (species-known (length m.amounts) rs valid.known k)

  module _ (d : sheet.Reaction) (i : ℕ) (h : i < length rs) where
    rate-in : rates_for m ! i ≡ double (get_or rs i d).rate
    rate-in =
        get_or-map-in double (over (rates_of rs) (noughts 64)) i 0 nan
        (omega (arith, length_over (rates_of rs) (noughts 64), noughts-length 64, valid.reactions))
        ∙ ap double (get_d_over (rates_of rs) (noughts 64) i 0
        (omega (arith, rates-length rs, noughts-length 64, valid.reactions)) (omega (arith, rates-length rs))
        ∙ rate-listed d rs i h)

    reaction-in : reaction_at (rates_for m) (species_for m) i ≡ reaction_for (get_or rs i d)
    reaction-in =
        let s = species-listed d rs i h in
        let a = species-in (4 * i) (omega arith) ∙ s.0 in
        let b = species-in (4 * i + 1) (omega arith) ∙ s.1 in
        let c = species-in (4 * i + 2) (omega arith) ∙ s.2 in
        let e = species-in (4 * i + 3) (omega arith) ∙ s.3 in
        rw (rate-in, a, b, c, e)

  abbrev nothing : sheet.Reaction
  nothing = record { rate = 0; reactant1 = 0; reactant2 = 0; product1 = 0; product2 = 0 }

  pub reactions-left : reactions_of (rates_for m) (species_for m) (length rs) ≡ map reaction_for rs
  reactions-left =
      let many : length (map reaction_for rs) ≡ length rs = length-map rs reaction_for in
      ap (reactions_of (rates_for m) (species_for m)) (sym many)
      ∙ reactions-of-list (rates_for m) (species_for m) (reaction_for nothing) (map reaction_for rs)
      (λ i h. reaction-in nothing i (omega arith) ∙ sym (get_or-map reaction_for rs i nothing))
