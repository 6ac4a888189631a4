-- `elchepur_totals_printed` meets its contract.
use Rattle.export_totals.proofs.nights.elchepur_totals_printed.Goals as goal

pub returns : goal.returns
returns c = record {
  printed_after = rw (c.told.ensures, c.night_from.ensures) at c.print.ensures.out_after;
  value = rw (c.told.ensures, c.night_from.ensures) at c.print.ensures.value.0;
}
