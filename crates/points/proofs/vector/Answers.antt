-- `vector` meets its contract.
use lib.Ieee.{of_bits}
use borrow.Author.Rules.{rules}
use Rattle.state.specs.Memory.{zeros}
use Rattle.points.proofs.vector.Goals as goal

pub returns : goal.returns
unfolding of_bits zeros
returns c = search rules
