-- `admit` meets its contract.
use Rattle.opening.proofs.RowLaws.{passes, stops}
use mathlib.Core.Path.{sym, ◌∙◌}
use Rattle.opening.proofs.AdmissionLaws.{settings-bounded}
use Rattle.opening.proofs.admission.admit.Goals as goal

pub check_counts-requires : goal.check_counts-requires
check_counts-requires c = settings-bounded c.args.run.settings
    (sym c.check_settings.ensures ∙ c.in_ok-check_settings.was)

pub returns-in_err-check_settings : goal.returns-in_err-check_settings
returns-in_err-check_settings c =
    stops _ _ c.check_settings.ensures c.in_err-check_settings.was c.from_residual.ensures.1

pub returns-in_err-check_state : goal.returns-in_err-check_state
returns-in_err-check_state c =
    passes _ _ c.check_settings.ensures c.in_ok-check_settings.was
    (stops _ _ c.check_state.ensures c.in_err-check_state.was c.from_residual-in_err-check_state.ensures.1)

pub returns-in_err-check_counts : goal.returns-in_err-check_counts
returns-in_err-check_counts c =
    passes _ _ c.check_settings.ensures c.in_ok-check_settings.was
    (passes _ _ c.check_state.ensures c.in_ok-check_state.was
    (stops _ _ c.check_counts.ensures c.in_err-check_counts.was c.from_residual-in_err-check_counts.ensures.1))

pub returns : goal.returns
returns c =
    passes _ _ c.check_settings.ensures c.in_ok-check_settings.was
    (passes _ _ c.check_state.ensures c.in_ok-check_state.was
    (passes _ _ c.check_counts.ensures c.in_ok-check_counts.was
    (c.check_reply.ensures)))
