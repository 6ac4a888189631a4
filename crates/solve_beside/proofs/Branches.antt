-- What is carried over by a function: a branch, a loop, and what is logged beside events.
use Prim.Native.Nat.{ℕ, zero, suc, ◌+◌, ◌-◌}
use mathlib.Core.Path.{◌≡◌, refl, ap, ◌∙◌}
use mathlib.Core.Bool.{Bool, true, false}
use Rattle.words.specs.Loop.{turns, loop, pick}
use Rattle.solve_blocks.specs.Events.{Logged, logged}

-- a branch whose two sides are carried over is carried over
pub pick-maps : {A B : Type 0} (g : A → B) (b : Bool) {x y : A} {x' y' : B} → x' ≡ g x → y' ≡ g y
    → pick b x' y' ≡ g (pick b x y)
unfolding pick
pick-maps g true p q = p
pick-maps g false p q = q

-- and each side only where it is taken
pub pick-maps-where : {A B : Type 0} (g : A → B) (b : Bool) {x y : A} {x' y' : B}
    → (b ≡ true → x' ≡ g x) → (b ≡ false → y' ≡ g y) → pick b x' y' ≡ g (pick b x y)
unfolding pick
pick-maps-where g true p q = p refl
pick-maps-where g false p q = q refl

-- so is a loop whose turns are, where P holds, which they keep
module _ {A B : Type 0} (P : A → Type 0) (g : A → B) (f : ℕ → A → A) (f' : ℕ → B → B)
    (kept : (i : ℕ) (a : A) → P a → P (f i a)) (same : (i : ℕ) (a : A) → P a → f' i (g a) ≡ g (f i a)) where
  turns-keep : (lo k : ℕ) (a : A) → P a → P (turns f lo k a)
  turns-keep lo zero a p = p
  turns-keep lo (suc k) a p = kept (lo + k) (turns f lo k a) (turns-keep lo k a p)

  turns-map : (lo k : ℕ) (a : A) → P a → turns f' lo k (g a) ≡ g (turns f lo k a)
  turns-map lo zero a p = refl
  turns-map lo (suc k) a p =
      ap (f' (lo + k)) (turns-map lo k a p) ∙ same (lo + k) (turns f lo k a) (turns-keep lo k a p)

  pub loop-maps : (lo hi : ℕ) (a : A) → P a → loop f' lo hi (g a) ≡ g (loop f lo hi a)
  unfolding loop
  loop-maps lo hi a p = turns-map lo (hi - lo) a p

-- the events stay
abbrev pub on_core : {A : Type 0} → (A → A) → Logged A → Logged A
on_core g l = logged (g l.core) l.log
