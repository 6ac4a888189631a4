-- `fits` meets its contract: what is left to test decides.
use Rattle.std.proofs.Common.{refl, sym, ◌∙◌}
use Rattle.sheet_write.proofs.KindLaws.{fit-below, fit-above, fit_on, fit_all, tested-no, tested-yes}
use Rattle.sheet_write.proofs.numbers.fits.Goals as goal
use Rattle.sheet_write.proofs.numbers.fits.Goals.{then-value-kind-via-then-value-kind}
use Rattle.sheet_write.proofs.numbers.fits.Goals.{then-value-kind-via-else-value-kind+then-kind-value}

pub loop-i-init : goal.loop-i-init
loop-i-init c = refl

pub returns-then-value-kind : goal.returns-then-value-kind
returns-then-value-kind c = tested-no (sym c.loop-i.invariant ∙ elim c.then-value-kind.branch [
  | then-value-kind-via-then-value-kind w ↦ fit-below _ c.args.values.now c.loop-i.i c.loop-i-test.true
      (rw c.kind_at-kind.ensures at w.if-value-kind.true)
  | then-value-kind-via-else-value-kind+then-kind-value w ↦
      fit-above _ c.args.values.now c.loop-i.i c.loop-i-test.true
      (rw c.kind_at-kind.ensures at w.if-value-kind.false) (rw c.kind_at-kind.ensures at w.if-kind-value.true)
])

pub loop-i-preserved : goal.loop-i-preserved
loop-i-preserved c = fit_on _ c.args.values.now c.loop-i.i c.loop-i-test.true
    (rw c.kind_at-kind.ensures at c.if-value-kind.false) (rw c.kind_at-kind.ensures at c.if-kind-value.false)
    ∙ c.loop-i.invariant

pub returns : goal.returns
returns c = tested-yes (sym c.loop-i.invariant ∙ fit_all _ _ _ c.loop-i-test.false)
