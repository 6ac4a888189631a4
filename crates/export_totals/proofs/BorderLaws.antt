-- What is left where a night is told and where totals are joined, one law for each way out.
use Rattle.std.proofs.Common.{Result, Ok, Err}
use Prim.Native.Nat.{ℕ}
use mathlib.Core.Path.{◌≡◌}
use mathlib.Core.List.{List}
use Rattle.night_totals.specs.declared.totals.Totals.{Totals}
use Rattle.night_totals.specs.declared.night.NightError.{NightError}
use Rattle.night_totals.specs.declared.night.NightError.TheVariants as night_error
use Rattle.night_join.specs.declared.joining.JoinError.{JoinError}
use Rattle.night_join.specs.declared.joining.JoinError.TheVariants as join_error
use Rattle.export_totals.specs.Record.{totals_words}
use Rattle.export_totals.specs.Border.{totals_told, told_left, totals_joined, joined_left}

module _ (o : Result Totals NightError) (totals : List ℕ) (line : ℕ) where
  pub left-totals : (t : Totals) {totals' : List ℕ} → o ≡ Ok t → totals' ≡ totals_words t
      → totals_told 0 totals' line ≡ told_left o totals line
  unfolding told_left
  left-totals t e w = rw (e, w)

  pub left-line : (k : ℕ) → o ≡ Err (night_error.Malformed k) → totals_told 20 totals k ≡ told_left o totals line
  unfolding told_left
  left-line k e = rw e

  pub left-many : o ≡ Err night_error.TooMany → totals_told 26 totals line ≡ told_left o totals line
  unfolding told_left
  left-many e = rw e

module _ (j : Result Totals JoinError) (totals : List ℕ) where
  pub joined-totals : (t : Totals) {totals' : List ℕ} → j ≡ Ok t → totals' ≡ totals_words t
      → totals_joined 0 totals' ≡ joined_left j totals
  unfolding joined_left
  joined-totals t e w = rw (e, w)

  pub joined-unfit : j ≡ Err join_error.Unfit → totals_joined 28 totals ≡ joined_left j totals
  unfolding joined_left
  joined-unfit e = rw e

  pub joined-many : j ≡ Err join_error.TooMany → totals_joined 26 totals ≡ joined_left j totals
  unfolding joined_left
  joined-many e = rw e

-- an error within, by what it is
pub night-error : {o : Result Totals NightError} {e e' : NightError} → o ≡ Err e → e ≡ e' → o ≡ Err e'
night-error p q = rw (← q) p

pub join-error : {o : Result Totals JoinError} {e e' : JoinError} → o ≡ Err e → e ≡ e' → o ≡ Err e'
join-error p q = rw (← q) p
