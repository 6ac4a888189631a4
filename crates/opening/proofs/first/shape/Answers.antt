-- `shape` meets its contract.
use Rattle.opening.specs.Opening.{shape_of}
use Rattle.opening.proofs.first.shape.Goals as goal

pub returns : goal.returns
unfolding shape_of
returns c = rw (c.nind1.ensures, c.unwrap_or-three.ensures, c.unwrap_or-two.ensures)
