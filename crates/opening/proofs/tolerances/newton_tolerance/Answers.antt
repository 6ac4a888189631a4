-- `newton_tolerance` meets its contract.
use Rattle.opening.specs.Tolerances.{newton_tol_of}
use Rattle.opening.proofs.tolerances.newton_tolerance.Goals as goal

pub returns-in-Some : goal.returns-in-Some
unfolding newton_tol_of
returns-in-Some c = rw c.in-Some.is

pub returns-in-None : goal.returns-in-None
unfolding newton_tol_of
returns-in-None c = let root = c.sqrt in
    rw (c.in-None.is, c.max.ensures, c.min.ensures, root.ensures.0)
