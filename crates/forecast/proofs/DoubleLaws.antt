-- A list that holds the doubles of patterns, place by place, is what `map` makes of them.
use Rattle.std.proofs.Common.{ℕ, List, ◌≡◌, ◌<◌, ◌∙◌, sym, map, length, get_or, Float, arith}
use Rattle.std.proofs.lemmas.List.{ext_get_or, get_or-map, length-map}
use Rattle.words.specs.Words.{double}

pub doubles : (bits : List ℕ) (floats : List Float) (n : ℕ) → length bits ≡ n → length floats ≡ n
    → ((i : ℕ) → i < n → get_or floats i (double 0) ≡ double (get_or bits i 0)) → floats ≡ map double bits
doubles bits floats n here there each =
    ext_get_or (double 0) floats (map double bits) (there ∙ sym (length-map bits double ∙ here))
    (λ i in-list. each i (omega arith) ∙ sym (get_or-map double bits i 0 (double 0) (omega arith)))
