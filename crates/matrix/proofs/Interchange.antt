-- Laws of counting loops whose turns do not disturb each other, for any state.
--     moved          a turn by another number
--     none, more     a loop by its number of turns: no turn, and one more
--     whole          what holds at every number of turns up to the loop's, at its end
--     past           one more act, before the loop or after it
--     through        what every turn keeps, the loop keeps
--     early          a loop whose last turns change nothing, ended before them
--     split          a loop of two acts is two loops
--     across         a loop around a loop, in the other order
--     alike          two loops whose turns agree where Q holds
--     hoisted, idle  a branch that every turn takes alike; turns that change nothing
use Prim.Native.Nat.{ℕ, zero, suc, ◌+◌, ◌-◌, ◌≤◌, ◌<◌}
use mathlib.Core.Bool.{Bool, true, false}
use mathlib.Core.Path.{◌≡◌, refl, sym, ap, subst, ◌∙◌}
use native.Mathlib.Omega.{arith}
use Rattle.words.specs.Loop.{loop, pick}
use Rattle.words.proofs.Loops.{loop-none, loop-more, Ran, Any}

-- ---- a loop that counts another way

pub moved : {A : Type 0} {f : ℕ → A → A} {P : A → Type 0} {lo hi i j : ℕ} {s₀ s : A} → i ≡ j → Ran f P lo hi i s₀ s
    → Ran f P lo hi j s₀ s
moved {f = f} {P = P} {lo = lo} {hi = hi} {s₀ = s₀} {s = s} e r = subst (λ (i : ℕ). Ran f P lo hi i s₀ s) e r

-- ---- a loop by its number of turns

module _ {A : Type 0} (f : ℕ → A → A) (lo : ℕ) (a : A) where
  pub none : loop f lo (lo + 0) a ≡ a
  none = let e : lo + 0 ≡ lo = omega arith in ap (λ (h : ℕ). loop f lo h a) e ∙ loop-none f lo a

  pub more : (d : ℕ) → loop f lo (lo + suc d) a ≡ f (lo + d) (loop f lo (lo + d) a)
  more d =
      let e : lo + suc d ≡ lo + d + 1 = omega arith in
      let l : lo ≤ lo + d = omega arith in
      ap (λ (h : ℕ). loop f lo h a) e ∙ loop-more f lo (lo + d) a l

pub whole : (F : ℕ → Type 0) (lo hi : ℕ) → lo ≤ hi → ((d : ℕ) → lo + d ≤ hi → F (lo + d)) → F hi
whole F lo hi l p =
    let e : lo + (hi - lo) ≡ hi = omega arith in
    let u : lo + (hi - lo) ≤ hi = omega arith in
    subst F e (p (hi - lo) u)

-- ---- the laws

module _ {A : Type 0} (f : ℕ → A → A) (g : A → A) (lo hi : ℕ) (low : lo ≤ hi)
    (swaps : (i : ℕ) → lo ≤ i → i < hi → (a : A) → g (f i a) ≡ f i (g a)) where
  past-part : (d : ℕ) → lo + d ≤ hi → (a : A) → g (loop f lo (lo + d) a) ≡ loop f lo (lo + d) (g a)
  past-part zero h a = ap g (none f lo a) ∙ sym (none f lo (g a))
  past-part (suc d) h a =
      ap g (more f lo a d) ∙ swaps (lo + d) (omega arith) (omega arith) (loop f lo (lo + d) a)
      ∙ ap (f (lo + d)) (past-part d (omega arith) a) ∙ sym (more f lo (g a) d)

  pub past : (a : A) → g (loop f lo hi a) ≡ loop f lo hi (g a)
  past a = whole (λ (h : ℕ). g (loop f lo h a) ≡ loop f lo h (g a)) lo hi low (λ d l. past-part d l a)

module _ {A : Type 0} (P : A → Type 0) (f : ℕ → A → A) (lo hi : ℕ) (low : lo ≤ hi)
    (kept : (i : ℕ) → lo ≤ i → i < hi → (a : A) → P a → P (f i a)) where
  through-part : (d : ℕ) → lo + d ≤ hi → (a : A) → P a → P (loop f lo (lo + d) a)
  through-part zero l a p = subst P (sym (none f lo a)) p
  through-part (suc d) l a p =
      subst P (sym (more f lo a d))
      (kept (lo + d) (omega arith) (omega arith) (loop f lo (lo + d) a) (through-part d (omega arith) a p))

  pub through : (a : A) → P a → P (loop f lo hi a)
  through a p = whole (λ (e : ℕ). P (loop f lo e a)) lo hi low (λ d l. through-part d l a p)

module _ {A : Type 0} (f : ℕ → A → A) (lo end hi : ℕ) (low : lo ≤ end) (high : end ≤ hi) (a : A)
    (still : (j : ℕ) → end ≤ j → j < hi → f j (loop f lo end a) ≡ loop f lo end a) where
  early-part : (d : ℕ) → end + d ≤ hi → loop f lo end a ≡ loop f lo (end + d) a
  early-part zero l = let e : end ≡ end + 0 = omega arith in ap (λ (h : ℕ). loop f lo h a) e
  early-part (suc d) l =
      let e : end + d + 1 ≡ end + suc d = omega arith in
      sym (still (end + d) (omega arith) (omega arith)) ∙ ap (f (end + d)) (early-part d (omega arith))
      ∙ sym (loop-more f lo (end + d) a (omega arith)) ∙ ap (λ (h : ℕ). loop f lo h a) e

  pub early : loop f lo end a ≡ loop f lo hi a
  early = whole (λ (h : ℕ). loop f lo end a ≡ loop f lo h a) end hi high early-part

module _ {A : Type 0} (P : A → Type 0) (h f g : ℕ → A → A) (lo hi : ℕ) (low : lo ≤ hi)
    (kept : (j : ℕ) → lo ≤ j → j < hi → (a : A) → P a → P (h j a))
    (both : (j : ℕ) → lo ≤ j → j < hi → (a : A) → P a → h j a ≡ g j (f j a))
    (swaps : (i j : ℕ) → lo ≤ i → i < j → j < hi → (a : A) → f j (g i a) ≡ g i (f j a)) where
  split-part : (d : ℕ) → lo + d ≤ hi → (a : A) → P a → loop h lo (lo + d) a ≡ loop g lo (lo + d) (loop f lo (lo + d) a)
  split-part zero l a p = none h lo a ∙ sym (none f lo a) ∙ sym (none g lo (loop f lo (lo + 0) a))
  split-part (suc d) l a p =
      more h lo a d
      ∙ both (lo + d) (omega arith) (omega arith) (loop h lo (lo + d) a)
      (through-part P h lo hi low kept d (omega arith) a p)
      ∙ ap (λ (x : A). g (lo + d) (f (lo + d) x)) (split-part d (omega arith) a p)
      ∙ ap (g (lo + d))
      (past g (f (lo + d)) lo (lo + d) (omega arith)
      (λ i l₁ l₂ b. swaps i (lo + d) l₁ l₂ (omega arith) b) (loop f lo (lo + d) a))
      ∙ ap (λ (x : A). g (lo + d) (loop g lo (lo + d) x)) (sym (more f lo a d))
      ∙ sym (more g lo (loop f lo (lo + suc d) a) d)

  pub split : (a : A) → P a → loop h lo hi a ≡ loop g lo hi (loop f lo hi a)
  split a p = whole (λ (e : ℕ). loop h lo e a ≡ loop g lo e (loop f lo e a)) lo hi low (λ d l. split-part d l a p)

module _ {A : Type 0} (Q : A → Type 0) (f g : ℕ → A → A) (lo hi : ℕ) (low : lo ≤ hi)
    (kept : (i : ℕ) → lo ≤ i → i < hi → (a : A) → Q a → Q (f i a))
    (same : (i : ℕ) → lo ≤ i → i < hi → (a : A) → Q a → f i a ≡ g i a) where
  alike-part : (d : ℕ) → lo + d ≤ hi → (a : A) → Q a → loop f lo (lo + d) a ≡ loop g lo (lo + d) a
  alike-part zero l a q = none f lo a ∙ sym (none g lo a)
  alike-part (suc d) l a q =
      more f lo a d
      ∙ same (lo + d) (omega arith) (omega arith) (loop f lo (lo + d) a)
      (through-part Q f lo hi low kept d (omega arith) a q)
      ∙ ap (g (lo + d)) (alike-part d (omega arith) a q) ∙ sym (more g lo a d)

  pub alike : (a : A) → Q a → loop f lo hi a ≡ loop g lo hi a
  alike a q = whole (λ (e : ℕ). loop f lo e a ≡ loop g lo e a) lo hi low (λ d l. alike-part d l a q)

pub idle : {A : Type 0} (f : ℕ → A → A) (lo hi : ℕ) → lo ≤ hi
    → ((i : ℕ) (a : A) → f i a ≡ a) → (a : A) → loop f lo hi a ≡ a
idle {A} f lo hi low still a = whole (λ (e : ℕ). loop f lo e a ≡ a) lo hi low (λ d l. idle-part d)
  where
    idle-part : (d : ℕ) → loop f lo (lo + d) a ≡ a
    idle-part zero = none f lo a
    idle-part (suc d) = more f lo a d ∙ still (lo + d) (loop f lo (lo + d) a) ∙ idle-part d

module _ {A : Type 0} (c : ℕ → ℕ → A → A) (li hi lj hj : ℕ) (lowi : li ≤ hi) (lowj : lj ≤ hj)
    (swaps : (i i' j j' : ℕ) → li ≤ i → i < i' → i' < hi → lj ≤ j → j < j' → j' < hj → (a : A)
    → c i j' (c i' j a) ≡ c i' j (c i j' a)) where
  across-part : (d : ℕ) → lj + d ≤ hj → (a : A)
      → loop (λ (j : ℕ) (s : A). loop (λ (i : ℕ). c i j) li hi s) lj (lj + d) a
      ≡ loop (λ (i : ℕ) (s : A). loop (c i) lj (lj + d) s) li hi a
  across-part zero l a =
      none (λ (j : ℕ) (s : A). loop (λ (i : ℕ). c i j) li hi s) lj a
      ∙ sym (idle (λ (i : ℕ) (s : A). loop (c i) lj (lj + 0) s) li hi lowi (λ i s. none (c i) lj s) a)
  across-part (suc d) l a =
      more (λ (j : ℕ) (s : A). loop (λ (i : ℕ). c i j) li hi s) lj a d
      ∙ ap (loop (λ (i : ℕ). c i (lj + d)) li hi) (across-part d (omega arith) a)
      ∙ sym
      (split Any (λ (i : ℕ) (s : A). loop (c i) lj (lj + suc d) s) (λ (i : ℕ) (s : A). loop (c i) lj (lj + d) s)
      (λ (i : ℕ). c i (lj + d)) li hi
      lowi (λ i l₁ l₂ b p. tt) (λ i l₁ l₂ b p. more (c i) lj b d)
      (λ i i' l₁ l₂ l₃ b. sym
      (past (c i') (c i (lj + d)) lj (lj + d) (omega arith)
      (λ j l₄ l₅ e. swaps i i' j (lj + d) l₁ l₂ l₃ l₄ l₅ (omega arith) e) b))
      a tt)

  pub across : (a : A)
      → loop (λ (j : ℕ) (s : A). loop (λ (i : ℕ). c i j) li hi s) lj hj a
      ≡ loop (λ (i : ℕ) (s : A). loop (c i) lj hj s) li hi a
  across a =
      whole
      (λ (e : ℕ). loop (λ (j : ℕ) (s : A). loop (λ (i : ℕ). c i j) li hi s) lj e a
      ≡ loop (λ (i : ℕ) (s : A). loop (c i) lj e s) li hi a)
      lj hj lowj (λ d l. across-part d l a)

pub hoisted : {A : Type 0} (b : Bool) (f g : ℕ → A → A) (lo hi : ℕ) (a : A)
    → pick b (loop f lo hi a) (loop g lo hi a) ≡ loop (λ (i : ℕ) (s : A). pick b (f i s) (g i s)) lo hi a
unfolding pick
hoisted true f g lo hi a = refl
hoisted false f g lo hi a = refl
