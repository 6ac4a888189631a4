-- Demand 3 of 00 in one record, for an accepted opening o, the journal `start` that it begins, and a host h: 'The
-- run ends. Its counts equal those of the requests and events in its history. Accepted is at most M, total at
-- most M+1, ode at most 2+3(K+1)M, Jacobians at most 6(M+1). It says Success exactly when an attempt aimed at the
-- end point is accepted and its report isn't interrupted.' Of 01: 'A run under demand 3's premises never meets
-- 13.' And of 02, [1]: 'Demand 3's bounds are proved again for the book rule, where accepted plus rejected must
-- now come out at no more than M.'
use Rattle.std.specs.Prelude.{ℕ, ◌+◌, ◌*◌, ◌≤◌, ◌<◌, ◌≡◌, true, ◌↔◌, Some}
use Rattle.state.specs.declared.settings.Rule.TheVariants as rule
use Rattle.state.specs.declared.run.Counts.{Counts}
use Rattle.state.specs.declared.run.Run.{Run}
use Rattle.state.specs.declared.run.Notes.{Notes}
use Rattle.state.specs.declared.run.Status.{Status}
use Rattle.state.specs.declared.run.Status.TheVariants.{Success}
use Rattle.state.specs.declared.talk.IntegrationResult.{IntegrationResult}
use Rattle.state.specs.Numbers.{smallest_stride, largest_stride}
use Rattle.state.specs.Result.{blame_of, result_of}
use Rattle.opening.specs.Rows.{Opening}
use Rattle.account.specs.Journal.{Journal}
use Rattle.account.specs.Reading.{counts_of, standing_at, most_requests}
use Rattle.account.specs.Truth.{EventsTrue}
use Rattle.account.specs.Strides.{notes_of}
use Rattle.account.specs.Account.{Strategy, played, Answered, Ledger}

-- the requests that a run can come to
abbrev pub most : Opening → ℕ
most o = most_requests o.settings.source o.n o.settings.max_steps o.settings.newton_maxiter

-- what is told of a run that ended: where it stands, with this status, these counts and what these notes say: its
-- latest singular decomposition and its strides
abbrev pub tells : Run → Status → Counts → Notes → IntegrationResult
tells r s c notes =
    record {
      h = r.numbers.h;
      x = r.numbers.x;
      status = s;
      counts = c;
      blame = blame_of s notes;
      smallest = smallest_stride notes.strides;
      largest = largest_stride notes.strides;
    }

pub record Demand3 (o : Opening) (start : Journal) (h : Strategy) : Type 0 where
  -- the run ends, after so many advances; none of them is refused, by 13 or otherwise
  pub advances : ℕ
  pub few : advances < most o
  pub answered : (i : ℕ) → i < advances → Answered (played h start i) (h (played h start i))
  -- its result has a status, and the counts, the latest singular decomposition and the strides of its history
  pub end : Journal
  pub at : end ≡ played h start advances
  pub status : Status
  pub result : result_of end.point.run
      ≡ Some (tells end.point.run status (counts_of end) (notes_of end))
  -- of that history every event is true, and every attempt and every error solve is accounted for
  pub events : EventsTrue o end
  pub ledger : Ledger o.settings.rule end
  -- the four bounds
  pub accepted : (counts_of end).accepted ≤ o.settings.max_steps
  pub total : (counts_of end).total ≤ o.settings.max_steps + 1
  pub ode : (counts_of end).ode ≤ 2 + 3 * (o.settings.newton_maxiter + 1) * o.settings.max_steps
  pub jac : (counts_of end).jac ≤ 6 * (o.settings.max_steps + 1)
  -- under the book rule every attempt is judged once at most, and no point has two Jacobians
  pub judged : o.settings.rule ≡ rule.Book
      → (counts_of end).accepted + (counts_of end).rejected ≤ o.settings.max_steps
  pub fresh : o.settings.rule ≡ rule.Book → (counts_of end).jac ≤ (counts_of end).accepted + 1
  -- an attempt aimed at the end point was accepted, its report not interrupted
  pub success : (status ≡ Success) ↔ ((standing_at end.turns).landed ≡ true)
