-- What an account of a run promises (00, demand 3), for every accepted opening o and every host that alters only what a
-- reply may alter. M is max_steps, K newton_maxiter. Demand.antt has demand 3 in one record.
use Rattle.std.specs.Prelude.{ℕ, zero, suc, ◌+◌, ◌*◌, ◌≤◌, ◌<◌, ◌≡◌, Bool, true, false, ◌↔◌, Float, Ok, Err}
use Rattle.words.specs.Words.{◌⊕◌, ◌⊖◌}
use Rattle.state.specs.declared.settings.Rule.{Rule}
use Rattle.state.specs.declared.settings.Rule.TheVariants as rule
use Rattle.state.specs.declared.settings.Settings.{Settings}
use Rattle.state.specs.declared.run.Counts.{Counts}
use Rattle.state.specs.declared.run.Status.{Status}
use Rattle.state.specs.declared.run.Status.TheVariants.{NeedLargerNMax}
use Rattle.state.specs.declared.talk.Refusal.TheVariants.{HasEnded}
use Rattle.state.specs.declared.talk.Reply.{Reply}
use Rattle.state.specs.declared.talk.Request.{Request}
use Rattle.state.specs.declared.talk.Request.TheVariants as request
use Rattle.opening.specs.Rows.{Opening}
use Rattle.solve_blocks.specs.Advance.{advance_outcome, advance_of}
use Rattle.history.specs.Host.{is_end, Action, wrote}
use Rattle.account.specs.Journal.{Fair, Journal, next}
use Rattle.account.specs.Reading.{one, Means, happened, asks_at, says, same_status, standing_at}
use Rattle.state.specs.Talk.{call, refused}

-- ---- 1. it ends

-- a host as a whole: what it does may depend on all that went before
abbrev pub Strategy : Type 0
Strategy = Journal → Action

-- k advances from a journal on
unfoldable pub played : Strategy → Journal → ℕ → Journal
played h j zero = j
played h j (suc k) = next (played h j k) (h (played h j k))

-- it is fair at every point that it meets before the end
abbrev pub FairHost : Strategy → Journal → Type 0
FairHost h j =
    (k : ℕ) → is_end (played h j k).point.request ≡ false → Fair (played h j k).point (h (played h j k))

-- the advance from j by a is answered by a request, and not refused
abbrev pub Answered : Journal → Action → Type 0
Answered j a =
    (advance_of j.point.run a.reply (wrote j.point.request j.point.place a j.point.memory)
    ).core.answer
    ≡ Ok (call (next j a).point.run (next j a).point.request (next j a).point.place)

-- fewer than `most` advances lead to the end, and none of them is refused
pub record EndsWithin (most : ℕ) (h : Strategy) (j : Journal) : Type 0 where
  pub advances : ℕ
  pub few : advances < most
  pub going : (i : ℕ) → i < advances → is_end (played h j i).point.request ≡ false
  pub answered : (i : ℕ) → i < advances → Answered (played h j i) (h (played h j i))
  pub ended : is_end (played h j advances).point.request ≡ true

-- every advance of a run that has ended is 14, whatever the reply
abbrev pub Over : Journal → Type 0
Over j =
    (p : Reply)
    → (advance_of j.point.run p j.point.memory).core
    ≡ advance_outcome (Err (refused j.point.run HasEnded)) j.point.memory

-- ---- 3. the counts are bounded

pub record Limits (s : Settings) (c : Counts) (q : Request) : Type 0 where
  pub ode : c.ode ≤ 2 + 3 * (s.newton_maxiter + 1) * s.max_steps
  pub jac : c.jac ≤ 6 * (s.max_steps + 1)
  pub lu : c.lu ≤ 13 * s.max_steps + 12
  pub total : c.total ≤ s.max_steps + 1
  pub accepted : c.accepted ≤ s.max_steps
  pub rejected : c.rejected ≤ 2 * s.max_steps
  -- total is one over the limit exactly where the run ended with 2
  pub limit : (q ≡ request.Ended NeedLargerNMax) ↔ (c.total ≡ s.max_steps + 1)
  pub book : s.rule ≡ rule.Book → c.accepted + c.rejected ≤ s.max_steps

-- ---- 4. how it ended

-- of a run that ended with s, the condition of s holds and no other does
abbrev pub Ends : Journal → Type 0
Ends j = (s t : Status) → j.point.request ≡ request.Ended s → says t j.turns ≡ same_status s t

-- ---- 5. where Success lands

-- the report of an aimed attempt that was accepted: its point is the old one plus the rounded distance to the end,
-- rounded; it need not be the end
abbrev pub Lands : Opening → Journal → Type 0
Lands o j =
    (xold x : Float) (offered : Bool) → j.point.request ≡ request.Report xold x offered
    → (standing_at j.turns).awaited ≡ true → x ≡ xold ⊕ (o.xend ⊖ xold)

-- ---- 6. the ledger

-- under the book rule a slow verdict ends its attempt; under the Rust rule the attempt goes on to the error test
unfoldable pub slow_ends : Rule → ℕ → ℕ
slow_ends rule.Rust k = 0
slow_ends rule.Book k = k

-- what the attempts come to
abbrev pub attempts_ended : Rule → (Means → ℕ)
attempts_ended u e = e.accepted + e.failed + e.spent + slow_ends u e.slow + e.over + e.small

-- every first error solve is judged once, unless its refinement is open; every attempt comes to one end, unless it is
-- open: accepted, failed by its error, out of Newton rounds or diverging, slow, over the limit, or too small
pub record Ledger (u : Rule) (j : Journal) : Type 0 where
  pub solves : happened (λ (e : Means). e.solves) j.turns
      ≡ happened (λ (e : Means). e.accepted + e.failed) j.turns + one (asks_at j.point.place).refines
  pub attempts : happened (λ (e : Means). e.total) j.turns
      ≡ happened (attempts_ended u) j.turns + one (asks_at j.point.place).attempt
