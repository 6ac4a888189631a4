-- The derivative species by species. Place k of the numbers of species stands for one change: reactants and products in
-- the order in which document 01 subtracts and adds. So what is added at place k is entry k / 2 of the changes: of
-- reaction i -v at 2 * i and v at 2 * i + 1. A plan lists for each species the changes that it has, in order.
use Rattle.std.specs.Prelude.{ℕ, ◌+◌, ◌*◌, ◌/◌, ◌≤◌, ◌<◌, ◌≡◌, List, eqb, length, get_or, Float}
use Rattle.std.specs.Float.Ieee.{neg}
use Rattle.words.specs.Words.{◌⊕◌, ◌!◌}
use Rattle.words.specs.Loop.{loop, pick}
use Rattle.model.specs.declared.planned.Plan.{Plan}
use Rattle.model.specs.Model.{speed_of}
use Rattle.model.specs.Derivative.{reaction_at}

-- the change that term t names is added, and that of place k if it is of species s
unfoldable pub term_at : List ℕ → List Float → ℕ → Float → Float
term_at terms changes t sum = sum ⊕ changes ! get_or terms t 0

unfoldable pub place_at : List ℕ → ℕ → List Float → ℕ → Float → Float
place_at species s changes k sum = pick (eqb (get_or species k 0) s) (sum ⊕ changes ! (k / 2)) sum

-- the changes of all reactions
pub record Changes (reactions : ℕ) (y rates : List Float) (species : List ℕ) (changes : List Float) : Type 0 where
  pub less : (i : ℕ) → i < reactions → changes ! (2 * i) ≡ neg (speed_of y (reaction_at rates species i))
  pub more : (i : ℕ) → i < reactions → changes ! (2 * i + 1) ≡ speed_of y (reaction_at rates species i)

-- from..to of the terms are those of species s among the first `count` places: for all changes the sum is the same
pub record Listing (species : List ℕ) (count s : ℕ) (terms : List ℕ) (from to : ℕ) : Type 0 where
  pub small : (t : ℕ) → from ≤ t → t < to → get_or terms t 0 < 128
  pub sums : (changes : List Float) (sum : Float)
      → loop (term_at terms changes) from to sum ≡ loop (place_at species s changes) 0 count sum

-- so far listed from `at` on, where there was room; what stood before `at` is kept
pub record Lists (species : List ℕ) (s at : ℕ) (before : List ℕ) (count : ℕ) (terms : List ℕ) (to : ℕ) : Type 0 where
  pub rises : at ≤ to
  pub close : to ≤ at + count
  pub long : length terms ≡ 256
  pub kept : (t : ℕ) → t < at → get_or terms t 0 ≡ get_or before t 0
  pub listing : to ≤ 256 → Listing species count s terms at to

-- each of n species listed, where there was room
pub record Listings (n : ℕ) (species : List ℕ) (count : ℕ) (starts terms : List ℕ) : Type 0 where
  pub sized : length starts ≡ 33
  pub long : length terms ≡ 256
  pub near : get_or starts n 0 ≤ n * 256
  pub rising : (s : ℕ) → s < n → get_or starts s 0 ≤ get_or starts (s + 1) 0
  pub below : (s : ℕ) → s < n → get_or starts (s + 1) 0 ≤ get_or starts n 0
  pub listed : get_or starts n 0 ≤ 256 → (s : ℕ) → s < n
      → Listing species count (s + 1) terms (get_or starts s 0) (get_or starts (s + 1) 0)

-- a plan of n species: those of species s + 1 stand from starts s to starts (s + 1)
pub record Planned (n reactions : ℕ) (species starts terms : List ℕ) : Type 0 where
  pub few : n ≤ 32
  pub handful : reactions ≤ 64
  pub enough : 4 * reactions ≤ length species
  pub known : (k : ℕ) → k < 4 * reactions → get_or species k 0 ≤ n
  pub rising : (s : ℕ) → s < n → get_or starts s 0 ≤ get_or starts (s + 1) 0
  pub room : (s : ℕ) → s < n → get_or starts (s + 1) 0 ≤ 256
  pub listed : (s : ℕ) → s < n
      → Listing species (4 * reactions) (s + 1) terms (get_or starts s 0) (get_or starts (s + 1) 0)

abbrev pub IsPlanOf : Plan → ℕ → List ℕ → Type 0
IsPlanOf p reactions species = Planned p.n reactions species p.starts p.terms
