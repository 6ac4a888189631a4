-- A model in memory, in the arrays that reading fills: its heading, its amounts, its rates, and four species for each
-- reaction. Entries behind those are no part of it.
use Rattle.std.specs.Prelude.{ℕ, zero, suc, ◌≡◌, List, [], ◌∷◌, length, get_or, take, drop}
use Rattle.sheet.specs.declared.sheet.Heading.{Heading}
use Rattle.sheet.specs.Sheet.{Model, rule_number}
use Rattle.sheet.specs.Reader.{heading_of, over, rates_of, species_of, reactions_from}

-- memory holds the model: to read the model's sheet into it would leave all as it is
pub record Holds (m : Model) (h : Heading) (a r s : List ℕ) : Type 0 where
  pub heading : h ≡ heading_of m
  pub amounts : a ≡ over m.amounts a
  pub rates : r ≡ over (rates_of m.reactions) r
  pub species : s ≡ over (species_of m.reactions) s

-- the arrays that reading fills are of these lengths
pub record Arrays (a r s : List ℕ) : Type 0 where
  pub amounts : length a ≡ 32
  pub rates : length r ≡ 64
  pub species : length s ≡ 256

-- ---- the numbers of its sheet, in their order

abbrev pub settings_in : Heading → List ℕ
settings_in h = 6 ∷ h.x0 ∷ h.xend ∷ h.rtol ∷ h.atol ∷ h.max_steps ∷ rule_number h.rule ∷ h.species ∷ []

-- five to a reaction: its rate and its four species
unfoldable pub listed_in : ℕ → List ℕ → List ℕ → List ℕ
listed_in zero rates species = []
listed_in (suc n) rates species =
    get_or rates 0 0 ∷ get_or species 0 0 ∷ get_or species 1 0 ∷ get_or species 2 0 ∷ get_or species 3 0
    ∷ listed_in n (drop 1 rates) (drop 4 species)

unfoldable pub model_in : Heading → List ℕ → List ℕ → List ℕ → Model
model_in h amounts rates species =
    record {
      x0 = h.x0;
      xend = h.xend;
      rtol = h.rtol;
      atol = h.atol;
      max_steps = h.max_steps;
      rule = h.rule;
      amounts = take h.species amounts;
      reactions = reactions_from h.reactions (listed_in h.reactions rates species);
    }
