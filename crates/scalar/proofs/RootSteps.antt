-- The steps of the code of the root: two ends that hold its pattern move together, and a guess is settled by what the
-- test says of it and of its neighbours.
use Prim.Native.Nat.{ℕ, ◌+◌, ◌-◌, ◌≤◌, ◌<◌}
use mathlib.Core.Path.{◌≡◌, sym, ap, ◌∙◌}
use mathlib.Core.Bool.{Bool, true, false}
use native.Mathlib.Nat.{le_refl}
use native.Mathlib.Omega.{arith}
use mir.Val.{bool_byte}
use lib.Ieee.{Float}
use Rattle.words.specs.Words.{double}
use Rattle.words.specs.Patterns.{infinity_pattern}
use Rattle.scalar.specs.Root.{keeps, root_of}
use Rattle.scalar.specs.Steps.{Ordered, Ends, Seen}
use Rattle.scalar.proofs.RootLaws.{keeps-zero, root-only-proof}

module _ (m : ℕ) (v : Float) (low high : ℕ) (e : Ends m v low high) where
  pub moved_up : (c : ℕ) → c < high → keeps m v c ≡ true → Ends m v c high
  moved_up c u k = record { ordered = e.ordered; order = u; under = e.under; kept = k; not-kept = e.not-kept }

  pub moved_down : (c : ℕ) → low < c → c < high → keeps m v c ≡ false → Ends m v low c
  moved_down c l u k = record {
    ordered = e.ordered;
    order = l;
    under = omega (arith, e.under);
    kept = e.kept;
    not-kept = λ h. k;
  }

  pub neighbours : high - low ≤ 1 → double low ≡ root_of m v
  neighbours h =
      let s : high ≡ low + 1 = omega (arith, e.order) in
      root-only-proof m v e.ordered low (omega (arith, e.order, e.under)) e.kept
      (λ k. ap (λ (b : ℕ). keeps m v b) (sym s) ∙ e.not-kept (omega arith))

pub all-patterns : (m : ℕ) (v : Float) → Ordered m v → Ends m v 0 infinity_pattern
all-patterns m v o =
    record {
      ordered = o;
      order = omega arith;
      under = le_refl infinity_pattern;
      kept = keeps-zero m v o.above;
      not-kept = λ k. absurd (omega arith);
    }

pub byte_small : (b : Bool) → bool_byte b ≤ 1
byte_small true = omega arith
byte_small false = omega arith

-- below the guess the test passes and above it it does not: so the root is the guess, or the one below it
module _ (m : ℕ) (v : Float) (g : ℕ) (below next : Bool) (t : below ≡ true) (f : next ≡ false) where
  pub settled : (here : Bool) → Seen m v g below here next → double (g - 1 + bool_byte here) ≡ root_of m v
  settled true s =
      let e : g - 1 + 1 ≡ g = omega (arith, s.some) in
      rw e (root-only-proof m v s.ordered g s.under (sym s.is-here) (λ l. sym s.is-next ∙ f))
  settled false s =
      let e : g - 1 + 1 ≡ g = omega (arith, s.some) in
      let z : g - 1 + 0 ≡ g - 1 = omega arith in
      rw z (root-only-proof m v s.ordered (g - 1) (omega (arith, s.under)) (sym s.is_below ∙ t)
      (λ l. ap (λ (b : ℕ). keeps m v b) e ∙ sym s.is-here))
