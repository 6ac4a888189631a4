-- What the contracts of `open` and `advance` settle of a whole history of calls: what a user cites, each theorem in
-- words, its statement, and where it is proved. `History` and `FairAlong` stand in specs/History.antt.
use mathlib.Core.Path.{◌≡◌}
use mathlib.Core.List.{List, []}
use Rattle.state.specs.declared.run.Run.{Run}
use Rattle.state.specs.declared.talk.Reply.{Reply}
use Rattle.state.specs.Memory.{Memory}
use Rattle.opening.specs.Rows.{Opening}
use Rattle.solve_blocks.specs.Advance.{AdvanceOutcome}
use Rattle.history.specs.Host.{Action}
use Rattle.history.specs.History.{Point}
use Rattle.history.proofs.Refuted.{Solver, Meets}
use Rattle.account.specs.Journal.{journal, after, JournalOf}
use Rattle.calls.specs.Calls.{Advances}
use Rattle.calls.specs.History.{History, behind, FairAlong}
use Rattle.calls.proofs.Defined.{contract-meets-proof}
use Rattle.calls.proofs.RequestsFixed.{history-fixed-proof}
use Rattle.calls.proofs.Journals.{calls-journal-proof}

-- Each request is fixed by the replies before it: two histories of outcomes that the contracts allow, with the same
-- opening and the same actions of the host, have the same requests, states and memory at every index.
pub history-fixed : (o : Opening) (acts : List Action) (first second : Point) (xs ys : List AdvanceOutcome)
    → History o first acts xs → History o second acts ys → (first ≡ second) × (xs ≡ ys)
history-fixed = history-fixed-proof

-- The account speaks of what the functions return: a history of calls that the contracts allow, by fair actions, is a
-- journal of its opening, and stands where the journal does.
pub calls-journal : (o : Opening) (first : Point) (acts : List Action) (xs : List AdvanceOutcome)
    → History o first acts xs → FairAlong first acts xs
    → (let j = after (journal first []) acts in JournalOf o j × (j.point ≡ behind first xs))
calls-journal = calls-journal-proof

-- A solver whose outcomes the contract of `advance` allows meets the definition, so the wrong solvers of `history` are
-- shut out by the contract.
pub contract-meets : (s : Solver)
    → ((run : Run) (reply : Reply) (m : Memory) → Advances (run, reply, m) (s run reply m)) → Meets s
contract-meets = contract-meets-proof
