-- `filling_from` meets its contract: the last sixteen words are its numbers.
use Rattle.std.proofs.Common.{arith, drop, take_all, length-drop}
use Rattle.export_totals.proofs.record.filling_from.Goals as goal

pub returns : goal.returns
returns c = rw (
  c.copy_from_slice.ensures.after,
  c.number_from.ensures,
  take_all 16 (drop 21 c.args.words.now) (omega (arith, length-drop 21 c.args.words.now)),
)
