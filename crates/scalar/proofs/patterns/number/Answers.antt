-- `number` meets its contract.
use Rattle.scalar.proofs.PatternLaws.{no_nan}
use Rattle.scalar.proofs.patterns.number.Goals as goal

pub float_from_bits-result : goal.float_from_bits-result
float_from_bits-result c = no_nan _ c.requires
