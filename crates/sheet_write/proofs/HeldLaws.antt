-- Memory that the test lets pass holds one model, which is valid; and memory that holds a valid model passes.
use Prim.Native.Nat.{ℕ, zero, suc, ◌*◌, ◌≤◌}
use mathlib.Core.Path.{◌≡◌, refl, sym, ap, ◌∙◌}
use mathlib.Core.Bool.{Bool, true, false, true≢false}
use mathlib.Core.List.{List, [], ◌∷◌, ◌++◌}
use native.Mathlib.Omega.{arith}
use lib.ListN.{length, take, drop}
use lib.Seq.{take-append_seam, length-take-le}
use Rattle.words.specs.Loop.{pick}
use Rattle.sheet.specs.declared.sheet.Heading.{Heading}
use Rattle.sheet.specs.Sheet.{Reaction, Model, Valid}
use Rattle.sheet.specs.Reader.{heading_of, over, rates_of, species_of, reactions_from}
use Rattle.sheet.proofs.FillLaws.{over-room, length-reactions}
use Rattle.sheet.proofs.Sheets.{settings_of, listed_of, valid-fits}
use Rattle.sheet.proofs.Accepted.{fitting-valid, reactions-back}
use Rattle.sheet_write.specs.Memory.{Holds, Arrays, settings_in, listed_in, model_in}
use Rattle.sheet_write.specs.Writer.{held_in}
use Rattle.sheet_write.proofs.KindLaws.{fit-true}
use Rattle.sheet_write.proofs.MemoryLaws.{length-listed}
use Rattle.sheet_write.proofs.AnswerLaws.{fitting, model-same, few-species, few-reactions}
use Rattle.sheet_write.proofs.AnswerLaws.{Right, right-held, right-fits}

-- ---- values over a memory

pub length_over : (vs memory : List ℕ) → length (over vs memory) ≡ length memory
unfolding over
length_over [] memory = refl
length_over (v ∷ vs) [] = refl
length_over (v ∷ vs) (x ∷ memory) = ap suc (length_over vs memory)

pub over-twice : (vs memory : List ℕ) → over vs (over vs memory) ≡ over vs memory
unfolding over
over-twice [] memory = refl
over-twice (v ∷ vs) [] = refl
over-twice (v ∷ vs) (x ∷ memory) = ap (λ m. v ∷ m) (over-twice vs memory)

over-take : (n : ℕ) (memory : List ℕ) → over (take n memory) memory ≡ memory
unfolding over
over-take zero memory = refl
over-take (suc n) [] = refl
over-take (suc n) (x ∷ memory) = ap (λ m. x ∷ m) (over-take n memory)

-- what stands over the first entries is what they are
taken-over : (vs memory : List ℕ) → length vs ≤ length memory → memory ≡ over vs memory
    → memory ≡ vs ++ drop (length vs) memory
taken-over vs memory h e = e ∙ over-room vs memory h

-- ---- the reactions in memory

rates-in : (n : ℕ) (r s : List ℕ) → n ≤ length r → rates_of (reactions_from n (listed_in n r s)) ≡ take n r
unfolding rates_of reactions_from listed_in
rates-in zero r s h = refl
rates-in (suc n) [] s h = absurd (let z : ⊥ = omega arith in z)
rates-in (suc n) (x ∷ r) s h =
    ap (λ l. x ∷ l) (rates-in n r (drop 4 s) (let z : n ≤ length r = omega arith in z))

species-in : (n : ℕ) (r s : List ℕ) → n * 4 ≤ length s
    → species_of (reactions_from n (listed_in n r s)) ≡ take (n * 4) s
unfolding species_of reactions_from listed_in
species-in zero r s h = refl
species-in (suc n) r [] h = absurd (let z : ⊥ = omega arith in z)
species-in (suc n) r (a ∷ []) h = absurd (let z : ⊥ = omega arith in z)
species-in (suc n) r (a ∷ b ∷ []) h = absurd (let z : ⊥ = omega arith in z)
species-in (suc n) r (a ∷ b ∷ c ∷ []) h = absurd (let z : ⊥ = omega arith in z)
species-in (suc n) r (a ∷ b ∷ c ∷ d ∷ s) h =
    let e : suc n * 4 ≡ suc (suc (suc (suc (n * 4)))) = omega arith in
    rw e (ap (λ l. a ∷ b ∷ c ∷ d ∷ l) (species-in n (drop 1 r) s (let z : n * 4 ≤ length s = omega arith in z)))

listed_back : (rs : List Reaction) (r s : List ℕ)
    → listed_in (length rs) (rates_of rs ++ r) (species_of rs ++ s) ≡ listed_of rs
unfolding listed_in rates_of species_of listed_of
listed_back [] r s = refl
listed_back (x ∷ rs) r s =
    ap (λ l. x.rate ∷ x.reactant1 ∷ x.reactant2 ∷ x.product1 ∷ x.product2 ∷ l) (listed_back rs r s)

pub length-rates-of : (rs : List Reaction) → length (rates_of rs) ≡ length rs
unfolding rates_of
length-rates-of [] = refl
length-rates-of (x ∷ rs) = ap suc (length-rates-of rs)

pub length-species-of : (rs : List Reaction) → length (species_of rs) ≡ length rs * 4
unfolding species_of
length-species-of [] = refl
length-species-of (x ∷ rs) =
    let z : suc (suc (suc (suc (length (species_of rs))))) ≡ suc (length rs) * 4 =
    omega (arith, length-species-of rs) in
    z

-- ---- passed, so held

picked : (b : Bool) {x : Bool} → pick b x false ≡ true → (b ≡ true) × (x ≡ true)
unfolding pick
picked true e = (refl, e)
picked false e = absurd (true≢false (sym e))

module _ (h : Heading) (a r s : List ℕ) where
  pub held-right : held_in h a r s ≡ true → Right h a r s
  unfolding held_in
  held-right e =
      let p = picked _ e in
      let q = picked _ p.1 in
      let t = picked _ q.1 in
      record { settings = p.0; count = q.0; amounts = t.0; reactions = t.1 }

  module _ (long : Arrays a r s) (held : held_in h a r s ≡ true) where
    right : Right h a r s
    right = held-right held

    species-few : h.species ≤ 32
    species-few = few-species h a r s right.settings

    reactions-few : h.reactions ≤ 64
    reactions-few = few-reactions h a r s right.count

    amounts-long : length (take h.species a) ≡ h.species
    amounts-long =
        length-take-le h.species a (let z : h.species ≤ length a = omega (arith, species-few, long.amounts) in z)

    pub held-valid : Valid (model_in h a r s)
    held-valid =
        rw (model-same h a r s) at
        (fitting-valid (settings_in h) (take h.species a) (h.reactions ∷ []) (listed_in h.reactions r s)
        (fitting (settings_in h) (take h.species a) (h.reactions ∷ []) (listed_in h.reactions r s)
        (right-fits h a r s right) refl amounts-long refl (length-listed h.reactions r s)))

    pub held-holds : Holds (model_in h a r s) h a r s
    unfolding heading_of model_in
    held-holds =
        record {
          heading = rw (amounts-long, length-reactions h.reactions (listed_in h.reactions r s));
          amounts = sym (over-take h.species a);
          rates = sym (ap (λ l. over l r) (rates-in h.reactions r s
              (let z : h.reactions ≤ length r = omega (arith, reactions-few, long.rates) in z))
              ∙ over-take h.reactions r);
          species = sym (ap (λ l. over l s) (species-in h.reactions r s
              (let z : h.reactions * 4 ≤ length s = omega (arith, reactions-few, long.species) in z))
              ∙ over-take (h.reactions * 4) s);
        }

-- ---- held, so passed

module _ (m : Model) (h : Heading) (a r s : List ℕ) (long : Arrays a r s) (holds : Holds m h a r s)
    (valid : Valid m) where
  same-amounts : take h.species a ≡ m.amounts
  unfolding heading_of
  same-amounts =
      rw holds.heading
      (ap (λ l. take (length m.amounts) l)
      (taken-over m.amounts a (omega (arith, valid.few, long.amounts)) holds.amounts)
      ∙ take-append_seam m.amounts (drop (length m.amounts) a))

  same-listed : listed_in h.reactions r s ≡ listed_of m.reactions
  unfolding heading_of
  same-listed =
      let rs = m.reactions in
      let u = taken-over (rates_of rs) r
      (let z : length (rates_of rs) ≤ length r = omega (arith, length-rates-of rs, valid.reactions, long.rates) in z)
      holds.rates in
      let w = taken-over (species_of rs) s
      (let z : length (species_of rs) ≤ length s =
      omega (arith, length-species-of rs, valid.reactions, long.species) in z)
      holds.species in
      rw holds.heading
      (ap (λ l. listed_in (length rs) l s) u
      ∙ ap (λ l. listed_in (length rs) (rates_of rs ++ drop (length (rates_of rs)) r) l) w
      ∙ listed_back rs (drop (length (rates_of rs)) r) (drop (length (species_of rs)) s))

  pub holds-model : model_in h a r s ≡ m
  unfolding model_in heading_of
  holds-model =
      rw (same-amounts, same-listed) (rw holds.heading (rw (reactions-back m.reactions) refl))

  same-settings : settings_in h ≡ settings_of m
  unfolding heading_of
  same-settings = ap settings_in holds.heading

  same_count : h.reactions ∷ [] ≡ length m.reactions ∷ []
  unfolding heading_of
  same_count = ap (λ (x : Heading). x.reactions ∷ []) holds.heading

  same-species : h.species ≡ length m.amounts
  unfolding heading_of
  same-species = ap (λ (x : Heading). x.species) holds.heading

  pub holds-held : held_in h a r s ≡ true
  holds-held =
      let f = valid-fits m valid in
      right-held h a r s
      (record {
        settings = fit-true _ 0 (settings_in h) (rw (same-settings) f.settings);
        count = fit-true _ 0 (h.reactions ∷ []) (rw (same_count) f.count);
        amounts = fit-true _ 0 (take h.species a) (rw (same-amounts) f.amounts);
        reactions = fit-true _ 0 (listed_in h.reactions r s) (rw (same-listed, same-species) f.reactions);
      })
