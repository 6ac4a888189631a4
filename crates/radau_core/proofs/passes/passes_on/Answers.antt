-- `passes-on` meets its contract, by the step's four variants.
use Rattle.radau_core.proofs.PlaceLaws.{unflagged}
use Rattle.radau_core.proofs.passes.passes_on.Goals as goal

pub returns-in-Asked : goal.returns-in-Asked
returns-in-Asked c = λ d. rw c.in-Asked.is

pub returns-in-Main : goal.returns-in-Main
returns-in-Main c = λ d. rw (c.in-Main.is, unflagged)

pub returns-in-Matrices : goal.returns-in-Matrices
returns-in-Matrices c = λ d. rw c.in-Matrices.is

pub returns-in-Attempt : goal.returns-in-Attempt
returns-in-Attempt c = λ d. rw c.in-Attempt.is
