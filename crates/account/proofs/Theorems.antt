-- The account of a run is true (00, demand 3), for both rules, both masses, both sources of the Jacobian and all
-- settings at once: what a user cites, each theorem in words, its statement, and where it is proved. The promises
-- themselves (`EndsWithin`, `Limits`, `Ends`, `Lands`, `Ledger`) are spelled out in specs/Account.antt.
use Prim.Native.Nat.{◌+◌}
use mathlib.Core.Path.{◌≡◌}
use mathlib.Core.Bool.{true, false, ◌||◌}
use mathlib.Core.Logic.{◌↔◌}
use Rattle.state.specs.declared.settings.Rule.TheVariants as rule
use Rattle.state.specs.declared.run.Status.{Status}
use Rattle.state.specs.declared.run.Status.TheVariants.{Success, NeedLargerNMax, StepSizeTooSmall}
use Rattle.state.specs.declared.talk.Request.TheVariants as request
use Rattle.opening.specs.Rows.{Opening}
use Rattle.opening.specs.Opening.{open_of}
use Rattle.history.specs.Host.{is_end}
use Rattle.account.specs.Journal.{Journal, Starts, JournalOf}
use Rattle.account.specs.Reading.{one, many, Question, questions, is_report, first_stage, says, same_status}
use Rattle.account.specs.Reading.{standing_at, counts_of}
use Rattle.account.specs.Truth.{EventsTrue}
use Rattle.account.specs.Latest.{LatestKept}
use Rattle.account.specs.Strides.{notes_of, StridesKept}
use Rattle.account.specs.Account.{Strategy, FairHost, EndsWithin, Over, Limits, Ends, Lands, Ledger}
use Rattle.account.specs.Points.{Fresh}
use Rattle.account.specs.Demand.{most, Demand3}
use Rattle.account.proofs.Flow.{ends_with}
use Rattle.account.proofs.Journals.{ends-proof, over-proof, counts-told-proof, attempts-told-proof}
use Rattle.account.proofs.Journals.{reports-told-proof, limits-proof, statuses-proof, success-exactly-proof}
use Rattle.account.proofs.Journals.{not-yet-proof, success-lands-proof, events-true-proof, ledger-proof}
use Rattle.account.proofs.Journals.{latest-kept-proof, notes-kept-proof, strides-kept-proof}
use Rattle.account.proofs.Fresh.{fresh-proof}
use Rattle.account.proofs.Demand.{demand-3-proof}
use Rattle.account.proofs.Exists.{sample, end, success-journal, success-reached}

-- Demand 3 in one record: whatever a fair host does from an accepted opening on, the run ends, its result has the
-- counts of its history, its four bounds hold, and it says Success exactly when it should.
pub demand-3 : (o : Opening) (start : Journal) → Starts (open_of o) start → (h : Strategy) → FairHost h start
    → Demand3 o start h
demand-3 = demand-3-proof

-- ---- 1. it ends

-- Every host that is fair meets the end after fewer advances than a stated bound, and none of them is refused.
pub ends : (o : Opening) (j : Journal) → Starts (open_of o) j → (h : Strategy) → FairHost h j → EndsWithin (most o) h j
ends = ends-proof

-- After the end every advance is refused with 14, never 13, and nothing changes.
pub over : (o : Opening) (j : Journal) → JournalOf o j → is_end j.point.request ≡ true → Over j
over = over-proof

-- ---- 2. the counts are those of the history

-- At every point of every journal the six counts of the run are those that are read off the journal.
pub counts-told : (o : Opening) (j : Journal) → JournalOf o j → j.point.run.counts ≡ counts_of j
counts-told = counts-told-proof

-- The attempts are the first Newton stages that were asked with no round done, and one more where the run ended with 2
-- or 3.
pub attempts-told : (o : Opening) (j : Journal) → JournalOf o j
    → many first_stage (questions j)
    + one (ends_with NeedLargerNMax j.point.request)
    + one (ends_with StepSizeTooSmall j.point.request)
    ≡ j.point.run.counts.total
attempts-told = attempts-told-proof

-- At every report and at the end, the acceptances are the reports after the first.
pub reports-told : (o : Opening) (j : Journal) → JournalOf o j
    → (is_report j.point.request || is_end j.point.request) ≡ true
    → many (λ (q : Question). one (is_report q.request)) (questions j) ≡ j.point.run.counts.accepted + 1
reports-told = reports-told-proof

-- Every event is true: what decided it is so, by the numbers of the opening and of the history before it.
pub events-true : (o : Opening) (j : Journal) → JournalOf o j → EventsTrue o j
events-true = events-true-proof

-- At every point of every journal the run keeps which matrix was singular latest and the column, or that none was; and
-- the elimination of that very matrix of its pass stops there.
pub latest-kept : (o : Opening) (j : Journal) → JournalOf o j → LatestKept o j
latest-kept = latest-kept-proof

-- At every point of every journal the run keeps the smallest and the largest |h| that its attempts were accepted with,
-- as its history says; a NaN is passed over, and both are told as +0 where there is nothing else.
pub strides-kept : (o : Opening) (j : Journal) → JournalOf o j → StridesKept j
strides-kept = strides-kept-proof

-- Both together: all that the run keeps for its result is in its history.
pub notes-kept : (o : Opening) (j : Journal) → JournalOf o j → j.point.run.notes ≡ notes_of j
notes-kept = notes-kept-proof

-- Every attempt comes to one end, unless it is open, and every error solve is judged once.
pub ledger : (o : Opening) (j : Journal) → JournalOf o j → Ledger o.settings.rule j
ledger = ledger-proof

-- ---- 3. the counts are bounded

-- Each count keeps its bound, and total is one over the limit exactly where the run ended with 2.
pub limits : (o : Opening) (j : Journal) → JournalOf o j
    → Limits o.settings j.point.run.counts j.point.request
limits = limits-proof

-- Under the book rule no Jacobian is asked twice at one point, no stage of an attempt after a failed one is asked with
-- a Jacobian of another point, and there is at most one Jacobian more than accepted points (02, [1]).
pub fresh : (o : Opening) → o.settings.rule ≡ rule.Book → (j : Journal) → JournalOf o j → Fresh j
fresh = fresh-proof

-- ---- 4. how it ended

-- Of a run that ended, the condition of its status holds, and of the five no other.
pub statuses : (o : Opening) (j : Journal) → JournalOf o j → Ends j
statuses = statuses-proof

-- It says Success exactly when it has ended and an aimed attempt was accepted whose report was not interrupted.
pub success-exactly : (o : Opening) (j : Journal) → JournalOf o j
    → (j.point.request ≡ request.Ended Success)
    ↔ ((is_end j.point.request ≡ true) × ((standing_at j.turns).landed ≡ true))
success-exactly = success-exactly-proof

-- Before the end no condition of 1, 2, 3 and 5 holds.
pub not_yet : (o : Opening) (j : Journal) → JournalOf o j → is_end j.point.request ≡ false
    → (t : Status) → same_status t Success ≡ false → says t j.turns ≡ false
not_yet = not-yet-proof

-- There is a run that says Success: the checker computes one, from its opening to its end.
pub success-exists : JournalOf sample end × (end.point.request ≡ request.Ended Success)
success-exists = (success-journal, success-reached)

-- ---- 5. where Success lands

-- The report of an aimed attempt that was accepted gives the old point plus the rounded distance to the end, rounded;
-- that this is the end is not claimed.
pub success-lands : (o : Opening) (j : Journal) → JournalOf o j → Lands o j
success-lands = success-lands-proof
