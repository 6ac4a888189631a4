-- `root` of what is sought meets its contract.
use Rattle.std.proofs.Common.{sym, subst}
use lib.Dec.{T}
use Rattle.scalar.proofs.PatternLaws.{positive-number, pattern-under}
use Rattle.scalar.proofs.roots.Sought.root.Goals as goal

pub float_to_bits-self : goal.float_to_bits-self
float_to_bits-self c = positive-number _ c.args.self.has_root.above

pub root_guess-g-requires : goal.root_guess-g-requires
root_guess-g-requires c = let s = c.args.self in
    (s.has_root.low, s.has_root.high, pattern-under _ (subst T (sym c.well_formed.0.1.1.1.0.1) tt) s.has_root.above)
