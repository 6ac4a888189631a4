-- Memory whose first entries are filled, one after the other.
use Rattle.std.specs.Prelude.{ℕ, ◌+◌, ◌*◌, ◌/◌, ◌%◌, List, get_or, set}

abbrev pub placed : (ℕ → ℕ) → ℕ → List ℕ → List ℕ
placed f i memory = set memory i (f i)

-- five numbers stand for a reaction: its rate and four species
abbrev pub rate_at : List ℕ → ℕ → ℕ
rate_at listed i = get_or listed (i * 5) 0

abbrev pub species_at : List ℕ → ℕ → ℕ
species_at listed i = get_or listed (i / 4 * 5 + i % 4 + 1) 0
