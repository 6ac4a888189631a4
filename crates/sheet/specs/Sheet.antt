-- What a model sheet is: the model that it holds, which models a sheet can hold, and the bytes of a
-- model's sheet, line by line.
use Rattle.std.specs.Prelude.{ℕ, ◌≤◌, List, [], ◌∷◌, ◌++◌, length}
use Rattle.state.specs.declared.settings.Rule.{Rule}
use Rattle.state.specs.declared.settings.Rule.TheVariants as rule
use Rattle.sheet.specs.Digits.{hex_of, decimal_of}

-- a float stands here by its bits; a species by its number from 1, 0 being none
pub record Reaction : Type 0 where
  pub rate : ℕ
  pub reactant1 : ℕ
  pub reactant2 : ℕ
  pub product1 : ℕ
  pub product2 : ℕ

pub record Model : Type 0 where
  pub x0 : ℕ
  pub xend : ℕ
  pub rtol : ℕ
  pub atol : ℕ
  pub max_steps : ℕ
  pub rule : Rule
  pub amounts : List ℕ
  pub reactions : List Reaction

-- ---- the models that a sheet can hold

abbrev pub Every : {A : Type 0} → (A → Type 0) → List A → Type 0
Every P [] = Unit
Every P (x ∷ xs) = P x × Every P xs

abbrev pub Bits : ℕ → Type 0
Bits v = v ≤ 0xffff_ffff_ffff_ffff

pub record Known (species : ℕ) (r : Reaction) : Type 0 where
  pub rate : Bits r.rate
  pub reactant1 : r.reactant1 ≤ species
  pub reactant2 : r.reactant2 ≤ species
  pub product1 : r.product1 ≤ species
  pub product2 : r.product2 ≤ species

abbrev pub most_steps : ℕ
most_steps = 9999999999

pub record Valid (m : Model) : Type 0 where
  pub x0 : Bits m.x0
  pub xend : Bits m.xend
  pub rtol : Bits m.rtol
  pub atol : Bits m.atol
  pub max_steps : m.max_steps ≤ most_steps
  pub some : 1 ≤ length m.amounts
  pub few : length m.amounts ≤ 32
  pub amounts : Every Bits m.amounts
  pub reactions : length m.reactions ≤ 64
  pub known : Every (Known (length m.amounts)) m.reactions

-- ---- the sheet of a model

abbrev pub line_feed : ℕ
line_feed = 10

abbrev pub space : ℕ
space = 32

-- a text with LF, or a space, behind it
abbrev pub line : List ℕ → List ℕ
line text = text ++ (line_feed ∷ [])

abbrev pub field : List ℕ → List ℕ
field text = text ++ (space ∷ [])

abbrev pub rule_number : Rule → ℕ
rule_number rule.Rust = 0
rule_number rule.Book = 1

abbrev pub amount_lines : List ℕ → List ℕ
amount_lines [] = []
amount_lines (a ∷ as') = line (hex_of a) ++ amount_lines as'

abbrev pub reaction_line : Reaction → List ℕ
reaction_line r =
    field (hex_of r.rate) ++ field (decimal_of r.reactant1) ++ field (decimal_of r.reactant2)
    ++ field (decimal_of r.product1)
    ++ line (decimal_of r.product2)

abbrev pub reaction_lines : List Reaction → List ℕ
reaction_lines [] = []
reaction_lines (r ∷ rs) = reaction_line r ++ reaction_lines rs

unfoldable pub written : Model → List ℕ
written m =
    line (decimal_of 6) ++ line (hex_of m.x0) ++ line (hex_of m.xend)
    ++ line (hex_of m.rtol) ++ line (hex_of m.atol)
    ++ line (decimal_of m.max_steps) ++ line (decimal_of (rule_number m.rule))
    ++ line (decimal_of (length m.amounts)) ++ amount_lines m.amounts
    ++ line (decimal_of (length m.reactions)) ++ reaction_lines m.reactions
