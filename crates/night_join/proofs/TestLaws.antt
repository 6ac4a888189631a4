-- Two comparisons that hold together are one.
use Rattle.std.proofs.Common.{◌≡◌, ℕ, ◌+◌, ◌-◌, ◌<◌, ◌≤◌, true, false, eqb, ltb, sym, ◌∙◌, arith, ltb-false, ltb-true}
use Rattle.std.proofs.Common.{le-ltb, lt-ltb, eq-eqb, ne_eqb, eqb-true}
use borrow.Author.Tests.{eqb-false}
use Rattle.words.proofs.Branch.{pick_all}

module _ (a b c d : ℕ) where
  pub eqb-by : (a ≡ b → c ≡ d) → (c ≡ d → a ≡ b) → eqb a b ≡ eqb c d
  eqb-by f g =
      pick_all (λ (x : ℕ). eqb a b ≡ eqb c d) (eqb a b) 0 0
      (λ t. t ∙ sym (eq-eqb c d (f (eqb-true a b t))))
      (λ t. t ∙ sym (ne_eqb c d (λ e. eqb-false a b t (g e))))

  pub ltb-by : (a < b → c < d) → (b ≤ a → d ≤ c) → ltb a b ≡ ltb c d
  ltb-by f g =
      pick_all (λ (x : ℕ). ltb a b ≡ ltb c d) (ltb a b) 0 0
      (λ t. t ∙ sym (lt-ltb c d (f (ltb-true a b t))))
      (λ t. t ∙ sym (le-ltb c d (g (ltb-false a b t))))

module _ (a b : ℕ) where
  pub sum-beyond : 65535 < a → true ≡ ltb 65535 (a + b)
  sum-beyond h = sym (lt-ltb 65535 (a + b) (omega arith))

  pub left-beyond : a ≤ 65535 → ltb (65535 - a) b ≡ ltb 65535 (a + b)
  left-beyond h = ltb-by (65535 - a) b 65535 (a + b) (λ l. omega arith) (λ l. omega arith)

-- what is left of n, one after the other of six
module _ (n r₀ r₁ r₂ r₃ r₅ r₇ : ℕ) where
  pub more1 : n < r₀ → false ≡ eqb (r₀ + r₁ + r₂ + r₃ + r₅ + r₇) n
  more1 h = sym (ne_eqb (r₀ + r₁ + r₂ + r₃ + r₅ + r₇) n (λ e. omega arith))

  pub more2 : r₀ ≤ n → n - r₀ < r₁ → false ≡ eqb (r₀ + r₁ + r₂ + r₃ + r₅ + r₇) n
  more2 h₀ h = sym (ne_eqb (r₀ + r₁ + r₂ + r₃ + r₅ + r₇) n (λ e. omega arith))

  pub more3 : r₀ ≤ n → r₁ ≤ n - r₀ → n - r₀ - r₁ < r₂ → false ≡ eqb (r₀ + r₁ + r₂ + r₃ + r₅ + r₇) n
  more3 h₀ h₁ h = sym (ne_eqb (r₀ + r₁ + r₂ + r₃ + r₅ + r₇) n (λ e. omega arith))

  pub more4 : r₀ ≤ n → r₁ ≤ n - r₀ → r₂ ≤ n - r₀ - r₁ → n - r₀ - r₁ - r₂ < r₃
      → false ≡ eqb (r₀ + r₁ + r₂ + r₃ + r₅ + r₇) n
  more4 h₀ h₁ h₂ h = sym (ne_eqb (r₀ + r₁ + r₂ + r₃ + r₅ + r₇) n (λ e. omega arith))

  pub more5 : r₀ ≤ n → r₁ ≤ n - r₀ → r₂ ≤ n - r₀ - r₁ → r₃ ≤ n - r₀ - r₁ - r₂ → n - r₀ - r₁ - r₂ - r₃ < r₅
      → false ≡ eqb (r₀ + r₁ + r₂ + r₃ + r₅ + r₇) n
  more5 h₀ h₁ h₂ h₃ h = sym (ne_eqb (r₀ + r₁ + r₂ + r₃ + r₅ + r₇) n (λ e. omega arith))

  pub all_left : r₀ ≤ n → r₁ ≤ n - r₀ → r₂ ≤ n - r₀ - r₁ → r₃ ≤ n - r₀ - r₁ - r₂ → r₅ ≤ n - r₀ - r₁ - r₂ - r₃
      → eqb (n - r₀ - r₁ - r₂ - r₃ - r₅) r₇ ≡ eqb (r₀ + r₁ + r₂ + r₃ + r₅ + r₇) n
  all_left h₀ h₁ h₂ h₃ h₅ =
      eqb-by (n - r₀ - r₁ - r₂ - r₃ - r₅) r₇ (r₀ + r₁ + r₂ + r₃ + r₅ + r₇) n (λ e. omega arith) (λ e. omega arith)
