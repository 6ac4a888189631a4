-- An error within, by what it is.
use Rattle.std.proofs.Common.{◌≡◌, Result, Err}
use Rattle.night_totals.specs.declared.totals.Totals.{Totals}
use Rattle.night_chain.specs.declared.chain.ChainError.{ChainError}

pub error_is : {o : Result Totals ChainError} {e e' : ChainError} → o ≡ Err e → e ≡ e' → o ≡ Err e'
error_is p q = rw (← q) p
