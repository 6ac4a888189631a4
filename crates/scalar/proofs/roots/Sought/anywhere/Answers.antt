-- `anywhere` meets its contract.
use Rattle.scalar.proofs.RootSteps.{all-patterns}
use Rattle.scalar.proofs.roots.Sought.anywhere.Goals as goal

pub between-requires : goal.between-requires
between-requires c = all-patterns _ _ c.args.self.has_root
