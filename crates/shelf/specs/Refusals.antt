-- What is tested before the work, in this order: 2, the lengths of the lent parts; 13, the shelf's own state.
use Rattle.std.specs.Prelude.{ℕ, ◌*◌, ◌≤◌, ◌≡◌, Bool, ◌&&◌, eqb, leb}
use Rattle.shelf.specs.declared.answers.Shelf.{Shelf}
use Rattle.shelf.specs.Shelf.{most_kept, last_place}

-- the two parts are as long as the most steps of n amounts ask
unfoldable pub room_fits : ℕ → ℕ → ℕ → Bool
room_fits n coefficients ends = eqb coefficients (most_kept * (4 * n)) && eqb ends (most_kept * 2)

-- not too many steps, nor a place beyond the last; a place that doesn't go with the number of steps is fit
unfoldable pub shelf_fits : Shelf → Bool
shelf_fits s = leb s.steps most_kept && leb s.place last_place

-- the same as facts
pub record Room (n c e : ℕ) : Type 0 where
  pub coefficients : c ≡ most_kept * (4 * n)
  pub ends : e ≡ most_kept * 2

pub record Fit (s : Shelf) : Type 0 where
  pub steps : s.steps ≤ most_kept
  pub place : s.place ≤ last_place
