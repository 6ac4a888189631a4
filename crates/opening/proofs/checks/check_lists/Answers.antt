-- `check_lists` meets its contract.
use Rattle.state.specs.declared.talk.Refusal.TheVariants as refusal
use Rattle.state.specs.declared.talk.Value.TheVariants as value
use Rattle.opening.proofs.RowLaws.{no-test-left}
use Rattle.opening.proofs.PartLaws.{row-found, row-lacking}
use Rattle.opening.proofs.checks.check_lists.Goals as goal

pub returns-in-Some : goal.returns-in-Some
returns-in-Some c =
    row-found _ _ c.first.ensures (λ p. refusal.NotFinite (value.Amount p)) _ c.in-Some.is

pub returns-in-Some-first : goal.returns-in-Some-first
returns-in-Some-first c =
    row-lacking _ _ c.first.ensures _ _ c.in_default.is
    (row-found _ _ c.first-2.ensures (λ p. refusal.NotFinite (value.MassEntry p)) _ c.in-Some-first.is)

pub returns-in-Some-first-2 : goal.returns-in-Some-first-2
returns-in-Some-first-2 c =
    row-lacking _ _ c.first.ensures _ _ c.in_default.is
    (row-lacking _ _ c.first-2.ensures _ _ c.in_default-first.is
    (row-found _ _ c.first-3.ensures (λ p. refusal.NotFinite (value.Rtol p)) _ c.in-Some-first-2.is))

pub returns-in-Some-first-3 : goal.returns-in-Some-first-3
returns-in-Some-first-3 c =
    row-lacking _ _ c.first.ensures _ _ c.in_default.is
    (row-lacking _ _ c.first-2.ensures _ _ c.in_default-first.is
    (row-lacking _ _ c.first-3.ensures _ _ c.in_default-first-2.is
    (row-found _ _ c.first-4.ensures (λ p. refusal.NotFinite (value.Atol p)) _ c.in-Some-first-3.is)))

pub returns : goal.returns
returns c =
    row-lacking _ _ c.first.ensures _ _ c.in_default.is
    (row-lacking _ _ c.first-2.ensures _ _ c.in_default-first.is
    (row-lacking _ _ c.first-3.ensures _ _ c.in_default-first-2.is
    (row-lacking _ _ c.first-4.ensures _ _ c.in_default-first-3.is
    (no-test-left))))
