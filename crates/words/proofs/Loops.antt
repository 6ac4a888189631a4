-- The laws of a counting loop, and `Ran`, the one form of invariant that the proofs of such loops use.
--     loop-none, loop-more     no turn, and one turn more
--     loop-stays               later turns that leave the state as it is
--     Ran f P lo hi i s₀ s     the invariant: the loop stands at i, s is what its turns so far made of s₀, and P holds
--                              of s
--     begun                    Ran where the loop starts (answers the need `loop-holds`)
--     turned                   Ran after a turn (`loop-again`)
--     ended                    the state after the loop (`returns`, past the loop)
--     stopped                  the same where the code leaves the loop from within, at a state that no later turn would
--                              change
--     Long, Any                what to keep of a state: its length; nothing
use Prim.Native.Nat.{ℕ, zero, suc, ◌+◌, ◌-◌, ◌≤◌, ◌<◌}
use mathlib.Core.Path.{◌≡◌, ap, sym, ◌∙◌}
use mathlib.Core.List.{List}
use native.Mathlib.Nat.{le_antisymm}
use native.Mathlib.Omega.{arith}
use lib.ListN.{length}
use Rattle.words.specs.Loop.{turns, loop}

-- ---- the laws

module _ {A : Type 0} (f : ℕ → A → A) (lo : ℕ) where
  pub loop-none : (s : A) → loop f lo lo s ≡ s
  unfolding loop
  loop-none s = let e : lo - lo ≡ 0 = omega arith in ap (λ (k : ℕ). turns f lo k s) e

  pub loop-more : (i : ℕ) (s : A) → lo ≤ i → loop f lo (i + 1) s ≡ f i (loop f lo i s)
  unfolding loop
  loop-more i s h =
      let e : i + 1 - lo ≡ suc (i - lo) = omega arith in
      let e' : lo + (i - lo) ≡ i = omega arith in
      ap (λ (k : ℕ). turns f lo k s) e ∙ ap (λ (k : ℕ). f k (turns f lo (i - lo) s)) e'

module _ {A : Type 0} (f : ℕ → A → A) (lo k : ℕ) (s t : A) (low : lo ≤ k) (here : loop f lo k s ≡ t)
    (still : (j : ℕ) → f j t ≡ t) where
  stays : (d : ℕ) → loop f lo (k + d) s ≡ t
  stays zero = let e : k + 0 ≡ k = omega arith in ap (λ (h : ℕ). loop f lo h s) e ∙ here
  stays (suc d) =
      let e : k + suc d ≡ k + d + 1 = omega arith in
      let l : lo ≤ k + d = omega arith in
      ap (λ (h : ℕ). loop f lo h s) e ∙ loop-more f lo (k + d) s l ∙ ap (f (k + d)) (stays d) ∙ still (k + d)

  pub loop-stays : (hi : ℕ) → k ≤ hi → loop f lo hi s ≡ t
  loop-stays hi h = let e : hi ≡ k + (hi - k) = omega arith in ap (λ (h : ℕ). loop f lo h s) e ∙ stays (hi - k)

-- ---- the invariant

pub record Ran {A : Type 0} (f : ℕ → A → A) (P : A → Type 0) (lo hi i : ℕ) (s₀ s : A) : Type 0 where
  pub low : lo ≤ i
  pub high : i ≤ hi
  pub kept : P s
  pub is : s ≡ loop f lo i s₀

abbrev pub Long : {A : Type 0} → List A → List A → Type 0
Long s₀ s = length s ≡ length s₀

abbrev pub Any : {A : Type 0} → A → Type 0
Any s = Unit

module _ {A : Type 0} {f : ℕ → A → A} {P : A → Type 0} {lo hi : ℕ} where
  pub begun : {s₀ s : A} → lo ≤ hi → P s → s ≡ s₀ → Ran f P lo hi lo s₀ s
  begun {s₀} h p e = record { low = omega arith; high = h; kept = p; is = e ∙ sym (loop-none f lo s₀) }

  -- s' is `f i s` once f is unfolded and what the body's calls ensure is put in
  pub turned : {i : ℕ} {s₀ s s' : A} → Ran f P lo hi i s₀ s → i < hi → P s' → s' ≡ f i s → Ran f P lo hi (i + 1) s₀ s'
  turned {i} {s₀} r h p e =
      record {
        low = omega arith;
        high = omega arith;
        kept = p;
        is = e ∙ ap (f i) r.is ∙ sym (loop-more f lo i s₀ r.low);
      }

  pub ended : {i : ℕ} {s₀ s : A} → Ran f P lo hi i s₀ s → hi ≤ i → s ≡ loop f lo hi s₀
  ended {i} {s₀} r h = r.is ∙ ap (λ (k : ℕ). loop f lo k s₀) (le_antisymm r.high h)

  pub stopped : {i : ℕ} {s₀ s t : A} → Ran f P lo hi i s₀ s → i < hi → t ≡ f i s
      → ((j : ℕ) → f j t ≡ t) → t ≡ loop f lo hi s₀
  stopped {i} {s₀} {s} {t} r h e still =
      let l : lo ≤ i + 1 = omega (arith, r.low) in
      let u : i + 1 ≤ hi = omega arith in
      sym (loop-stays f lo (i + 1) s₀ t l (loop-more f lo i s₀ r.low ∙ ap (f i) (sym r.is) ∙ sym e) still hi u)
