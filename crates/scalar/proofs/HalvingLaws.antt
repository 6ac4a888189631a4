-- The laws of halving. Where the lower end passes the test and the upper does not, 2 ^ n or less apart, n halvings find
-- a pattern that passes while the next does not (`halve-edge`); and where all patterns up to one pass and no later one
-- does, they find that one (`halve-finds`).
use Prim.Native.Nat.{ℕ, zero, suc, ◌+◌, ◌-◌, ◌/◌, ◌^◌, ◌≤◌, ◌<◌}
use mathlib.Core.Path.{◌≡◌, refl, sym, ap, subst, ◌∙◌}
use mathlib.Core.Bool.{Bool, true, false}
use native.Mathlib.Nat.{lt_of_not-le, lt_of_lt_of_le, two-pow-succ}
use native.Mathlib.Decide.{dec_lt, dec_le}
use native.Mathlib.Omega.{arith}
use borrow.Author.Tests.{lt-ltb, le-ltb}
use Rattle.words.specs.Loop.{pick}
use Rattle.scalar.specs.Halving.{halve}

-- b passes, the next pattern does not, and b is below high
pub record Edge (keep : ℕ → Bool) (high b : ℕ) : Type 0 where
  pub here : keep b ≡ true
  pub next : keep (b + 1) ≡ false
  pub under : b < high

abbrev middle : ℕ → ℕ → ℕ
middle low high = low + (high - low) / 2

module _ (keep : ℕ → Bool) where
  -- ---- one halving

  halve-done : (n low high : ℕ) → high - low ≤ 1 → halve n keep low high ≡ low
  unfolding halve pick
  halve-done zero low high h = refl
  halve-done (suc n) low high h = rw (le-ltb 1 (high - low) h)

  halve-up : (n low high : ℕ) → 1 < high - low → keep (middle low high) ≡ true
      → halve (suc n) keep low high ≡ halve n keep (middle low high) high
  unfolding halve pick
  halve-up n low high h t = rw (lt-ltb 1 (high - low) h, t)

  halve-down : (n low high : ℕ) → 1 < high - low → keep (middle low high) ≡ false
      → halve (suc n) keep low high ≡ halve n keep low (middle low high)
  unfolding halve pick
  halve-down n low high h t = rw (lt-ltb 1 (high - low) h, t)

  -- ---- all of them

  edge_at : (low high : ℕ) → keep low ≡ true → keep high ≡ false → high ≡ low + 1 → Edge keep high low
  edge_at low high t f e = record { here = t; next = ap keep (sym e) ∙ f; under = omega arith }

  edge-under : {b : ℕ} (high high' : ℕ) → high ≤ high' → Edge keep high b → Edge keep high' b
  edge-under high high' l e = record { here = e.here; next = e.next; under = lt_of_lt_of_le e.under l }

  pub halve-edge : (n low high : ℕ) → keep low ≡ true → keep high ≡ false → low < high → high - low ≤ 2 ^ n
      → Edge keep high (halve n keep low high)
  halve-edge zero low high t f l h =
      subst (λ (b : ℕ). Edge keep high b) (sym (halve-done 0 low high h)) (edge_at low high t f (omega arith))
  halve-edge (suc n) low high t f l h =
      by (λ x y p q r s. halve-edge n x y p q r s) (dec_lt 1 (high - low)) (keep (middle low high)) refl
    where
      by : ((x y : ℕ) → keep x ≡ true → keep y ≡ false → x < y → y - x ≤ 2 ^ n → Edge keep y (halve n keep x y))
          → Dec (1 < high - low) → (b : Bool) → keep (middle low high) ≡ b
          → Edge keep high (halve (suc n) keep low high)
      by ih (yes g) true e =
          rw (halve-up n low high g e) (ih (middle low high) high e f (omega arith) (omega (arith, two-pow-succ n)))
      by ih (yes g) false e =
          rw (halve-down n low high g e)
          (edge-under (middle low high) high (omega arith)
          (ih low (middle low high) t e (omega arith) (omega (arith, two-pow-succ n))))
      by ih (no g) b e = rw (halve-done (suc n) low high (omega arith)) (edge_at low high t f (omega arith))

  pub halve-finds : (n b limit low high : ℕ) → ((c : ℕ) → c ≤ b → keep c ≡ true)
      → ((c : ℕ) → b < c → c < limit → keep c ≡ false)
      → low ≤ b → b < high → high ≤ limit → high - low ≤ 2 ^ n → halve n keep low high ≡ b
  halve-finds zero b limit low high yes-to no-from l u w h =
      halve-done 0 low high h ∙ (let e : low ≡ b = omega arith in e)
  halve-finds (suc n) b limit low high yes-to no-from l u w h =
      by (λ x y p q r s. halve-finds n b limit x y yes-to no-from p q r s)
      (dec_lt 1 (high - low)) (dec_le (middle low high) b)
    where
      by : ((x y : ℕ) → x ≤ b → b < y → y ≤ limit → y - x ≤ 2 ^ n → halve n keep x y ≡ b)
          → Dec (1 < high - low) → Dec (middle low high ≤ b) → halve (suc n) keep low high ≡ b
      by ih (yes g) (yes k) =
          halve-up n low high g (yes-to _ k) ∙ ih (middle low high) high k u w (omega (arith, two-pow-succ n))
      by ih (yes g) (no k) =
          halve-down n low high g (no-from _ (lt_of_not-le k) (omega arith))
          ∙ ih low (middle low high) l (lt_of_not-le k) (omega arith) (omega (arith, two-pow-succ n))
      by ih (no g) k = halve-done (suc n) low high (omega arith) ∙ (let e : low ≡ b = omega arith in e)
