-- Halving between two patterns, of which the lower passes a test and the upper does not.
use Rattle.std.specs.Prelude.{ℕ, zero, suc, ◌+◌, ◌-◌, ◌/◌, Bool, ltb}
use Rattle.words.specs.Loop.{pick}

-- Of neighbours the lower one; else the same between the middle, rounded down, and the end that the test leaves. n
-- bounds the halvings: any two patterns lie less than 2 ^ 63 apart, so 63 make neighbours of them (`halve-edge`).
unfoldable pub halve : ℕ → (ℕ → Bool) → ℕ → ℕ → ℕ
halve zero keep low high = low
halve (suc n) keep low high =
    let middle = low + (high - low) / 2 in
    let kept = keep middle in
    pick (ltb 1 (high - low)) (halve n keep (pick kept middle low) (pick kept high middle)) low
