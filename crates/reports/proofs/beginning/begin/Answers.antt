-- `begin` meets its contract: what the reader answers decides which way it goes, and what it leaves in memory stays.
use mathlib.Core.Path.{sym, ◌∙◌}
use Rattle.sheet.specs.Reader.{read_of}
use Rattle.reports.proofs.BeginLaws.{begin-read, begin-refused}
use Rattle.reports.proofs.beginning.begin.Goals as goal

pub returns-in-Ok : goal.returns-in-Ok
returns-in-Ok c = let a = c.args in
    record {
      value = begin-read (read_of a.bytes.now) _ a.amounts.now (sym c.in-Ok.is ∙ c.read.ensures.value)
          c.read.ensures.amounts_after c.opened.ensures;
      amounts_after = c.read.ensures.amounts_after;
      rates_after = c.read.ensures.rates_after;
      species_after = c.read.ensures.species_after;
    }

pub returns-in-Err : goal.returns-in-Err
returns-in-Err c = let a = c.args in
    record {
      value = begin-refused (read_of a.bytes.now) _ a.amounts.now (sym c.in-Err.is ∙ c.read.ensures.value);
      amounts_after = c.read.ensures.amounts_after;
      rates_after = c.read.ensures.rates_after;
      species_after = c.read.ensures.species_after;
    }
