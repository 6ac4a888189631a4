-- `words_of` meets its contract: two groups are put.
use Rattle.std.proofs.Common.{append-nil}
use Rattle.export_totals.specs.Record.{words_of}
use Rattle.export_totals.proofs.record.words_of.Goals as goal

pub returns : goal.returns
unfolding words_of
returns c = rw (
  c.copy_from_slice.ensures.after,
  c.copy_from_slice-2.ensures.after,
  c.totals_words.ensures,
  c.line_words.ensures,
  append-nil,
)
