-- Wrong readings of radau.rs:801-812, of 01's refusal 19 and of dense.rs:71-79, each as a routine that takes it, and
-- each refuted: at one step it gives what the contract doesn't allow.
--     not-equal-refused      a target of just the right length refused
--     not-nodes-exchanged    the two nodes exchanged
--     not-zero-backwards     h = 0 taken for a step backwards
use Prim.Native.Nat.{ℕ, ◌+◌, ◌*◌, ◌/◌}
use mathlib.Core.Bool.{Bool, true≢false}
use mathlib.Core.Path.{◌≡◌, ap, sym}
use mathlib.Core.List.{List, [], ◌∷◌}
use lib.Dec.{eqb, leb, ltb}
use lib.ListN.{length, set}
use lib.Ieee.{Float, binary64, add, sub, mul, div, le, lt, of_bits, to_bits}
use Rattle.words.specs.Words.{◌⊕◌, ◌⊖◌, ◌⊗◌, ◌!◌, double}
use Rattle.words.specs.Loop.{loop, pick}
use Rattle.scalar.specs.Coefficients.{C1M1, C2M1}
use Rattle.dense.specs.declared.answers.Bounds.{Bounds}
use Rattle.std.specs.Prelude.{Ok, Err}
use Rattle.dense.specs.declared.answers.InterpolationError.TheVariants.{ShortTarget}
use Rattle.dense.specs.Answers.{Interpolation, interpolation, interpolated_number}
use Rattle.dense.specs.Interpolate.{place_of, polynomial_of, amount_of, interpolate_at, interpolate_of}
use Rattle.dense.specs.Bounds.{ends, bounds_of}
use Rattle.dense.proofs.Examples.{none, minus_none, one, two}

-- what a routine is, and what the contract asks of it
abbrev Routine : Type 0
Routine = Float → List Float → List Float → Float → Float → Interpolation

abbrev pub Meets : Routine → Type 0
Meets f = (xi : Float) (yi cont : List Float) (xold h : Float) → f xi yi cont xold h ≡ interpolate_of xi yi cont xold h

-- ---- a target of just the right length (01, number 19)

abbrev pub equal_refused : Routine
equal_refused xi yi cont xold h =
    let n = length cont / 4 in
    pick (leb (length yi) n) (interpolation (Err ShortTarget) yi)
    (interpolation (Ok tt) (loop (interpolate_at (place_of xi xold h) n cont) 0 n yi))

abbrev is_done : Interpolation → Bool
is_done o = eqb (interpolated_number o.answer) 0

-- four coefficients are those of one amount
pub not-equal-refused : Meets equal_refused → ⊥
unfolding interpolate_of interpolate_at amount_of polynomial_of place_of loop pick
not-equal-refused meets = true≢false (sym (ap is_done (meets one (one ∷ []) (one ∷ two ∷ two ∷ one ∷ []) none two)))

-- ---- the nodes (radau.rs:810-812)

module _ (s : Float) (n : ℕ) (cont : List Float) where
  abbrev exchanged_at : ℕ → List Float → List Float
  exchanged_at i yi =
      set yi i (cont ! i ⊕ s ⊗ (cont ! (n + i) ⊕ (s ⊖ C1M1) ⊗ (cont ! (2 * n + i) ⊕ (s ⊖ C2M1) ⊗ cont ! (3 * n + i))))

abbrev pub nodes_exchanged : Routine
nodes_exchanged xi yi cont xold h =
    let n = length cont / 4 in
    pick (ltb (length yi) n) (interpolation (Err ShortTarget) yi)
    (interpolation (Ok tt) (loop (exchanged_at (place_of xi xold h) n cont) 0 n yi))

-- the first of `two-amounts`
abbrev first_right : Interpolation → Bool
first_right o = eqb (to_bits binary64 (o.yi ! 0)) 0x3fbf_5a7c_ecdb_6848

pub not-nodes-exchanged : Meets nodes_exchanged → ⊥
unfolding interpolate_of interpolate_at amount_of polynomial_of place_of loop pick add sub mul div of_bits to_bits
not-nodes-exchanged meets =
    true≢false
    (sym (ap first_right (meets one (one ∷ one ∷ []) (one ∷ two ∷ two ∷ one ∷ one ∷ two ∷ two ∷ one ∷ []) none two)))

-- ---- a step of 0 (dense.rs:73, 134)

abbrev pub zero_backwards : Float → Float → Bounds
zero_backwards xold h = pick (lt (double 0) h) (ends xold (xold ⊕ h)) (ends (xold ⊕ h) xold)

abbrev left_is_zero : Bounds → Bool
left_is_zero b = eqb (to_bits binary64 b.left) 0

-- from -0 by +0, which is +0
pub not-zero-backwards : ((xold h : Float) → zero_backwards xold h ≡ bounds_of xold h) → ⊥
unfolding bounds_of pick add le lt of_bits to_bits
not-zero-backwards meets = true≢false (ap left_is_zero (meets minus_none none))
