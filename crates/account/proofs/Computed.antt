-- A journal by computation: whether a host is fair at every point that it meets is a test, so a whole run can be
-- computed and is a journal then.
--     fairly, fair-true    the test at one point
--     plays, computed      and at k points that follow one another
use Prim.Native.Nat.{ℕ, zero, suc}
use mathlib.Core.Path.{◌≡◌, refl, sym}
use mathlib.Core.Bool.{Bool, true, false, true≢false, ◌&&◌}
use mathlib.Core.List.{List, [], ◌∷◌}
use lib.Dec.{eqb}
use lib.ListN.{length}
use borrow.Author.Tests.{eqb-true}
use Rattle.state.specs.declared.talk.Place.{Place}
use Rattle.state.specs.declared.talk.Request.{Request}
use Rattle.state.specs.declared.talk.Request.TheVariants as request
use Rattle.state.specs.Memory.{Memory}
use Rattle.opening.specs.Rows.{Opening}
use Rattle.opening.specs.Opening.{open_of}
use Rattle.history.specs.Host.{part_at, Action}
use Rattle.history.specs.History.{Point}
use Rattle.account.specs.Journal.{of_kind, SameLength, Fair, Journal, next, FairFrom, after, Starts, JournalOf}
use Rattle.account.specs.Account.{Strategy}

unfoldable pub same_length : Request → Place → Action → Memory → Bool
same_length (request.Derivative x) p a m = eqb (length a.part) (length (part_at p m))
same_length (request.Jacobian x) p a m = eqb (length a.part) (length m.given.jac)
same_length (request.Report xold x offered) p a m = eqb (length a.amounts) (length m.amounts.y)
same_length (request.Ended s) p a m = true

abbrev pub fairly : Point → Action → Bool
fairly here a = of_kind here.request a.reply && same_length here.request here.place a here.memory

long-true : (q : Request) (p : Place) (a : Action) (m : Memory) → same_length q p a m ≡ true → SameLength q p a m
unfolding same_length SameLength
long-true (request.Derivative x) p a m e = eqb-true _ _ e
long-true (request.Jacobian x) p a m e = eqb-true _ _ e
long-true (request.Report xold x offered) p a m e = eqb-true _ _ e
long-true (request.Ended s) p a m e = tt

both : (a b : Bool) → (a && b) ≡ true → (a ≡ true) × (b ≡ true)
both true b e = (refl, e)
both false b e = absurd (true≢false (sym e))

pub fair-true : (here : Point) (a : Action) → fairly here a ≡ true → Fair here a
fair-true here a e =
    let b = both _ _ e in
    record { kind = b.0; kept = long-true here.request here.place a here.memory b.1 }

-- what the host does in k advances, and whether it is fair in each
unfoldable pub actions : Strategy → ℕ → Journal → List Action
actions h zero j = []
actions h (suc k) j = h j ∷ actions h k (next j (h j))

unfoldable pub plays : Strategy → ℕ → Journal → Bool
plays h zero j = true
plays h (suc k) j = fairly j.point (h j) && plays h k (next j (h j))

fair-from : (h : Strategy) (k : ℕ) (j : Journal) → plays h k j ≡ true → FairFrom j (actions h k j)
unfolding plays actions FairFrom
fair-from h zero j e = tt
fair-from h (suc k) j e =
    let b = both _ _ e in (fair-true j.point (h j) b.0, fair-from h k (next j (h j)) b.1)

pub computed : (o : Opening) (start : Journal) (h : Strategy) (k : ℕ) → Starts (open_of o) start → plays h k start ≡
    true
    → JournalOf o (after start (actions h k start))
computed o start h k starts e =
    record { first = start; starts = starts; acts = actions h k start; fair = fair-from h k start e; is = refl }
