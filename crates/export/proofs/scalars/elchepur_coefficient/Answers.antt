-- `elchepur_coefficient` meets its contract: the entry is `scalar`'s own.
use mathlib.Core.Path.{refl}
use Rattle.export.proofs.scalars.elchepur_coefficient.Goals as goal

pub returns-in-Some : goal.returns-in-Some
returns-in-Some c = rw (← c.coefficient.ensures.0, c.in-Some.is) (refl, refl)

pub returns-in-None : goal.returns-in-None
returns-in-None c = rw (← c.coefficient.ensures.0, c.in-None.is) (refl, refl)
