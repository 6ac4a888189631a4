-- A solver that invents its counts, however it does so, is shut out by `counts-told` (01, 'How tight the contracts
-- are'): from any accepted opening, its first advance is caught.
use mathlib.Core.Path.{◌≡◌, refl, sym, ◌∙◌}
use mathlib.Core.List.{◌∷◌}
use Rattle.state.specs.declared.run.Counts.{Counts}
use Rattle.state.specs.declared.run.Run.{Run}
use Rattle.state.specs.declared.talk.Reply.{Reply}
use Rattle.state.specs.Memory.{Memory}
use Rattle.opening.specs.Rows.{Opening}
use Rattle.opening.specs.Opening.{open_of}
use Rattle.solve_blocks.specs.Setters.{in_counts}
use Rattle.solve_blocks.specs.Events.{Logged, logged}
use Rattle.solve_blocks.specs.Advance.{AdvanceOutcome, advance_outcome, advance_by, advance_of}
use Rattle.history.specs.Host.{Action, wrote}
use Rattle.history.specs.History.{next_point}
use Rattle.account.specs.Journal.{Fair, turn, Journal, journal, next, Starts}
use Rattle.account.specs.Reading.{counts_of}
use Rattle.account.proofs.Sound.{passes}
use Rattle.account.proofs.Journals.{Sound, sound-first, sound-next, sound-counts}
use Rattle.std.specs.Prelude.{Ok, Err}
use Rattle.state.specs.Talk.{Answer, call, refused}

-- what a solver does at an advance, and the journal that it leads to
abbrev pub Solver : Type 0
Solver = Run → Reply → Memory → Logged AdvanceOutcome

unfoldable pub next_by : Solver → Journal → Action → Journal
next_by s j a =
    let here = j.point in
    let l = s here.run a.reply (wrote here.request here.place a here.memory) in
    journal (next_point here l.core.answer l.core.memory) (turn here a l.log ∷ j.turns)

pub next-by : (j : Journal) (a : Action) → next_by advance_of j a ≡ next j a
unfolding next_by next
next-by j a = refl

-- the right answer, but for its counts
unfoldable pub changed : (Counts → Counts) → Answer → Answer
changed f (Ok c) = Ok (call (in_counts f c.run) c.request c.place)
changed f (Err e) = Err e

abbrev pub invents_by : (Counts → Counts) → Solver
invents_by f r p m =
    let l = advance_of r p m in
    logged (advance_outcome (changed f l.core.answer) l.core.memory) l.log

-- its counts are changed, and its journal reads as the right one does
module _ (f : Counts → Counts) (o : Opening) (j : Journal) (a : Action) (s : Sound o j) (fair : Fair j.point a) where
  invented-counts : (next_by (invents_by f) j a).point.run.counts ≡ f (next j a).point.run.counts
  unfolding next_by next next_point changed advance_by
  invented-counts = rw (passes o s.none j a s.held fair) refl

  same-reading : counts_of (next_by (invents_by f) j a) ≡ counts_of (next j a)
  unfolding next_by next next_point changed advance_by
  same-reading = rw (passes o s.none j a s.held fair) refl

pub not-invented : (f : Counts → Counts) → ((c : Counts) → f c ≡ c → ⊥) → (o : Opening) (j : Journal) (a : Action)
    → Starts (open_of o) j → Fair j.point a
    → (next_by (invents_by f) j a).point.run.counts ≡ counts_of (next_by (invents_by f) j a) → ⊥
not-invented f moves o j a starts fair claim =
    let s = sound-first o j starts in
    let told = sound-counts o (next j a) (sound-next o j a s fair) in
    moves (next j a).point.run.counts
    (sym (invented-counts f o j a s fair) ∙ claim ∙ same-reading f o j a s fair ∙ sym told)
