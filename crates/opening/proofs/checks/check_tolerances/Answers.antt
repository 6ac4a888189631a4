-- `check_tolerances` meets its contract.
use Rattle.state.specs.declared.talk.Refusal.TheVariants as refusal
use Rattle.state.specs.declared.talk.Value.TheVariants as value
use Rattle.opening.proofs.RowLaws.{no-test-left}
use Rattle.opening.proofs.PartLaws.{row-found, row-lacking}
use Rattle.opening.proofs.checks.check_tolerances.Goals as goal

pub returns-in-Some : goal.returns-in-Some
returns-in-Some c =
    row-found _ _ c.first.ensures (λ p. refusal.Tolerance (value.Rtol p)) _ c.in-Some.is

pub returns-in-Some-first : goal.returns-in-Some-first
returns-in-Some-first c =
    row-lacking _ _ c.first.ensures _ _ c.in_default.is
    (row-found _ _ c.first-2.ensures (λ p. refusal.Tolerance (value.Atol p)) _ c.in-Some-first.is)

pub returns : goal.returns
returns c =
    row-lacking _ _ c.first.ensures _ _ c.in_default.is
    (row-lacking _ _ c.first-2.ensures _ _ c.in_default-first.is
    (no-test-left))
