-- What a user cites: each theorem in words, its statement, and where it is proved. What lines are read is `written`
-- with `Fit` (specs/Entries.antt), their totals `totals_of` (specs/Totals.antt), and what a text comes to
-- `Reads` (specs/Reads.antt).
use Rattle.std.proofs.Common.{Result, Ok}
use Rattle.std.proofs.Common.{◌≡◌, ℕ, ◌+◌, ◌↔◌, List, [], ◌∷◌, ◌++◌}
use Rattle.state.specs.declared.talk.IntegrationResult.{IntegrationResult}
use Rattle.forecast_text.specs.Printed.{status_line}
use Rattle.night_totals.specs.Entries.{line_of}
use Rattle.night_totals.specs.Totals.{totals_of}
use Rattle.night_totals.specs.Reads.{Reads}
use Rattle.night_totals.specs.Night.{start_of, fed_of, told_of}
use Rattle.night_totals.specs.declared.totals.Totals.{Totals}
use Rattle.night_totals.specs.declared.night.Night.{Night}
use Rattle.night_totals.specs.declared.night.NightError.{NightError}
use Rattle.night_totals.proofs.FedLaws.{fed_then}
use Rattle.night_totals.proofs.TellLaws.{told-exactly-proof}
use Rattle.night_totals.proofs.ReadsLaws.{Fits, entry_of, InRange, one-outcome-proof, runs-sum-proof}
use Rattle.night_totals.proofs.ReadsLaws.{sums-fit-proof, as-printed-proof, printed-read-proof}

-- The borders of the pieces don't show: two pieces one after the other come to what both in one come to.
pub borders-hidden : (n : Night) (first second : List ℕ) → fed_of (fed_of n first) second ≡ fed_of n (first ++ second)
borders-hidden = fed_then

-- What is told of a text is what it comes to by its lines, for all bytes: the totals of its lines, the number of its
-- first wrong line, or that it goes on behind 65,535 lines.
pub told-exactly : (s : List ℕ) (a : Result Totals NightError) → (told_of (fed_of start_of s) ≡ a) ↔ Reads s a
told-exactly = told-exactly-proof

-- A text comes to one thing only.
pub one-outcome : (s : List ℕ) (a b : Result Totals NightError) → Reads s a → Reads s b → a ≡ b
one-outcome = one-outcome-proof

-- The runs per status sum to the lines.
pub runs-sum : (s : List ℕ) (t : Totals) → Reads s (Ok t)
    → t.runs.status0 + t.runs.status1 + t.runs.status2 + t.runs.status3 + t.runs.status5 + t.runs.status7 ≡ t.lines
runs-sum = runs-sum-proof

-- No sum overflows: there are at most 65,535 lines, and each sum is at most 10,000,000,000 times their number.
pub sums-fit : (s : List ℕ) (t : Totals) → Reads s (Ok t) → Fits t
sums-fit = sums-fit-proof

-- The line that is read is the one that `decay` prints.
pub as-printed : (r : IntegrationResult) → status_line r ≡ line_of (entry_of r)
as-printed = as-printed-proof

-- Each line that `decay` prints with counts in range is read.
pub printed-read : (r : IntegrationResult) → InRange r
    → Reads (status_line r) (Ok (totals_of (entry_of r ∷ [])))
printed-read = printed-read-proof
