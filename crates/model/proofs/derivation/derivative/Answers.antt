-- `derivative` meets its contract.
use Rattle.std.proofs.Common.{◌*◌, length, sym, ap, ◌∙◌, Ok, arith}
use Rattle.model.specs.Answers.{derivation}
use Rattle.model.specs.Model.{derivative_of}
use Rattle.model.proofs.TestLaws.{Fit, unknown_is, none_above}
use Rattle.model.proofs.DerivativeLaws.{accepted-proof, unknown-proof}
use Rattle.model.proofs.derivation.derivative.Goals as goal

pub returns-then-unknown_among : goal.returns-then-unknown_among
returns-then-unknown_among c = let a = c.args in
    let fits : Fit a.reactions (length a.y.now) (length a.rates.now) (length a.species.now) (length a.dy.now) =
    record { target = omega arith; enough-rates = omega arith; enough-species = omega arith } in
    sym (unknown-proof a.reactions a.y.now a.rates.now a.species.now a.dy.now fits
    (sym (unknown_is (length a.y.now) a.species.now (4 * a.reactions) fits.enough-species)
    ∙ sym c.unknown_among.ensures ∙ c.if-unknown_among.true))

pub returns : goal.returns
unfolding derivative_of
returns c = let a = c.args in
    let fits : Fit a.reactions (length a.y.now) (length a.rates.now) (length a.species.now) (length a.dy.now) =
    record { target = omega arith; enough-rates = omega arith; enough-species = omega arith } in
    ap (derivation (Ok tt)) (rw (c.react_all.ensures, c.zero.ensures, fits.target))
    ∙ sym (accepted-proof a.reactions a.y.now a.rates.now a.species.now a.dy.now fits
    (none_above (length a.y.now) a.species.now (4 * a.reactions) fits.enough-species
    (sym c.unknown_among.ensures ∙ c.if-unknown_among.false)))
