-- `build_identity` meets its contract.
use Rattle.solve_blocks.specs.Reordered.{identity_built}
use Rattle.radau_core.proofs.matrices.build_identity.Goals as goal

pub returns : goal.returns
unfolding identity_built
returns c = rw (c.make_diagonal.ensures, c.make_plain.ensures)
