-- No turn of a run that was opened is refused: the host of a model is fair, so what the account holds of one point of a
-- run (crates/account/proofs/Sound.antt) it holds of the next.
use Prim.Native.Nat.{ℕ, zero, suc}
use mathlib.Core.Bool.{false}
use mathlib.Core.Path.{◌≡◌, refl, sym, subst, ◌∙◌}
use mathlib.Core.List.{List, []}
use lib.Ieee.{Float}
use Rattle.words.proofs.Branch.{pick_all}
use Rattle.state.specs.declared.run.Run.{Run}
use Rattle.state.specs.declared.talk.Place.{Place}
use Rattle.state.specs.declared.talk.Request.{Request}
use Rattle.opening.specs.Rows.{Opening, opening_rows}
use Rattle.opening.specs.Opening.{open_of}
use Rattle.opening.proofs.RowLaws.{NoneHolds}
use Rattle.history.specs.Host.{Action, is_end}
use Rattle.history.specs.History.{Point, point}
use Rattle.account.specs.Journal.{Journal, journal, next, Starts}
use Rattle.account.proofs.Advance.{next-is}
use Rattle.account.proofs.FirstPoint.{opens}
use Rattle.account.proofs.Sound.{Held, passes, held_next, held_first}
use Rattle.model_run.specs.declared.run.Task.{Task}
use Rattle.model_run.specs.Host.{answered_by}
use Rattle.model_run.specs.Budget.{Answering, turn_of, last_of, Admits, NoneRefused}
use Rattle.model_run.specs.Budget.{host_for, memory_of, opening_of}
use Rattle.model_run.proofs.HostFair.{host-fair}
use Rattle.model_run.proofs.OpeningKept.{opening-kept}
use Rattle.std.specs.Prelude.{Ok}
use Rattle.state.specs.Talk.{Opened, call}

module _ (reactions : ℕ) (rates : List Float) (species : List ℕ) (o : Opening) (none : NoneHolds (opening_rows o)) where
  abbrev host : Answering
  host = answered_by reactions rates species

  abbrev done : Point → Action
  done here = host here.request here.place here.memory

  module _ (here : Point) (h : Held o here) (going : is_end here.request ≡ false) where
    admitted-here : Admits host here
    admitted-here =
        passes o none (journal here []) (done here) h
        (host-fair reactions rates species here.run here.request here.place here.memory going)

    held-turn : Held o (turn_of host here)
    unfolding turn_of next
    held-turn =
        subst (λ (j : Journal). Held o j.point) (sym (next-is (journal here []) (done here) admitted-here))
        (held_next o none (journal here []) (done here) h
        (host-fair reactions rates species here.run here.request here.place here.memory going))

  held-last : (k : ℕ) (start : Point) → Held o start → Held o (last_of host k start)
  unfolding last_of
  held-last zero start h = h
  held-last (suc k) start h =
      held-last k _ (pick_all (Held o) (is_end start.request) _ _ (λ _. h) (λ e. held-turn start h e))

  held_none : (start : Point) → Held o start → NoneRefused host start
  held_none start h k e = admitted-here (last_of host k start) (held-last k start h) e

-- ---- a task

pub none-refused-proof : (t : Task) (rates : List Float) (species : List ℕ) {a : Opened}
    (r : Run) (q : Request) (p : Place) → a ≡ (open_of (opening_of t)).answer → a ≡ Ok (call r q p)
    → NoneRefused (host_for t rates species) (point r q p (memory_of t))
unfolding Starts
none-refused-proof t rates species r q p answered same =
    let o = opening_of t in
    let start = point r q p (memory_of t) in
    let asked = sym answered ∙ same in
    let first = opens o (journal start []) (asked, opening-kept t r q p asked, refl) in
    held_none t.reactions rates species o first.none start (held_first o start first)
