-- `forecast` meets its contract: what the reader answers decides which way it goes.
use mathlib.Core.Path.{sym, ◌∙◌}
use Rattle.std.proofs.lemmas.Result.{err_from_is_err_and}
use Rattle.state.specs.Memory.{noughts}
use Rattle.sheet.specs.Reader.{read_of}
use Rattle.forecast.proofs.Solves.{forecast-solves, read-refused}
use Rattle.forecast.proofs.bytes.forecast.Goals as goal

pub returns-in_err-heading : goal.returns-in_err-heading
returns-in_err-heading c =
    let p = err_from_is_err_and c.from_residual.result c.from_residual.ensures.1 in
    rw (p.1, p.2) (read-refused (read_of c.args.bytes.now) _ (sym c.in_err-heading.was ∙ c.read.ensures.value))

pub returns : goal.returns
unfolding noughts
returns c = forecast-solves c.args.bytes.now _
    {amounts = c.read.new.amounts} {rates = c.read.new.rates} {species = c.read.new.species}
    c.modelled.result
    (sym c.in_ok-heading.was ∙ c.read.ensures.value) c.read.ensures.amounts_after
    c.read.ensures.rates_after
    c.read.ensures.species_after c.modelled.ensures
