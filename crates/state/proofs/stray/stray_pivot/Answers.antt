-- `stray_pivot` meets its contract.
use native.Mathlib.Omega.{arith}
use Rattle.state.specs.Pivots.{stray}
use Rattle.state.proofs.Pivots.{past_end, no_row}
use Rattle.state.proofs.stray.stray_pivot.Goals as goal

pub returns-then-n-eq0 : goal.returns-then-n-eq0
returns-then-n-eq0 c = no_row _ _ c.if-n-eq0.true

pub returns-then-nm1-ip : goal.returns-then-nm1-ip
unfolding stray
returns-then-nm1-ip c = c.stray_among.ensures

pub returns : goal.returns
returns c = past_end _ _ (omega arith) (omega arith) c.stray_among-2.ensures
