-- A counting loop and a branch, as the definitions write them.
--     loop f lo hi s    the state that `for i in lo..hi { s = f i s }` leaves, s being the state before it
--     pick b x y        `if b { x } else { y }`
-- Both stay shut, so that a goal shows them as they are written; a proof that computes says `unfolding loop pick`.
use Rattle.std.specs.Prelude.{ℕ, zero, suc, ◌+◌, ◌-◌, Bool, true, false}

-- k turns, the first of them at lo
abbrev pub turns : {A : Type 0} → (ℕ → A → A) → ℕ → ℕ → A → A
turns f lo zero s = s
turns f lo (suc k) s = f (lo + k) (turns f lo k s)

unfoldable pub loop : {A : Type 0} → (ℕ → A → A) → ℕ → ℕ → A → A
loop f lo hi s = turns f lo (hi - lo) s

unfoldable pub pick : {A : Type 0} → Bool → A → A → A
pick true x y = x
pick false x y = y
