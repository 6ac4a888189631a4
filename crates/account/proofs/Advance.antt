-- One advance of a journal: what a fair host writes keeps the lengths, and an advance that is
-- admitted asks the next request.
use Prim.Native.Nat.{ℕ}
use mathlib.Core.Path.{◌≡◌, refl}
use mathlib.Core.List.{◌∷◌}
use native.Mathlib.Omega.{arith}
use lib.ListN.{length}
use Rattle.state.specs.declared.talk.Place.{Place}
use Rattle.state.specs.declared.talk.Place.TheVariants as place
use Rattle.state.specs.declared.talk.Reply.{Reply}
use Rattle.state.specs.declared.talk.Reply.TheVariants as reply
use Rattle.state.specs.declared.talk.Request.{Request}
use Rattle.state.specs.declared.talk.Request.TheVariants as request
use Rattle.state.specs.Memory.{Memory}
use Rattle.opening.specs.Rows.{verdict_of}
use Rattle.opening.specs.Admission.{admission_rows}
use Rattle.solve_blocks.specs.Advance.{advance_by}
use Rattle.solve_blocks.specs.Needs.{MemoryLong}
use Rattle.history.specs.Host.{part_at, Action, filled, modified, wrote}
use Rattle.history.specs.History.{point, next_point}
use Rattle.account.specs.Journal.{SameLength, turn, Journal, journal, next}
use Rattle.solve_blocks.proofs.AdvanceWhole.{whole_of}
use Rattle.state.specs.Talk.{passed_all}

-- ---- what the host writes

filled-long : (n : ℕ) (p : Place) (a : Action) (m : Memory) → length a.part ≡ length (part_at p m) → MemoryLong n m
    → MemoryLong n (filled p a.part m)
unfolding filled part_at
filled-long n place.Nowhere a m e l = l
filled-long n place.YToF0 a m e l = omega (arith, e, l)
filled-long n place.ContToZ1 a m e l = omega (arith, e, l)
filled-long n place.ContToZ2 a m e l = omega (arith, e, l)
filled-long n place.ContToZ3 a m e l = omega (arith, e, l)
filled-long n place.ContToF1 a m e l = omega (arith, e, l)
filled-long n place.YToFOrigin a m e l = omega (arith, e, l)
filled-long n place.YPerturbedToFPerturbed a m e l = omega (arith, e, l)

modified-long : (n : ℕ) (p : Reply) (a : Action) (m : Memory) → length a.amounts ≡ length m.amounts.y
    → MemoryLong n m → MemoryLong n (modified p a.amounts m)
unfolding modified
modified-long n reply.Filled a m e l = l
modified-long n reply.Continue a m e l = l
modified-long n reply.Interrupt a m e l = l
modified-long n (reply.Modified x) a m e l = omega (arith, e, l)
modified-long n (reply.Mark x) a m e l = l

pub wrote-long : (n : ℕ) (q : Request) (p : Place) (a : Action) (m : Memory) → SameLength q p a m → MemoryLong n m
    → MemoryLong n (wrote q p a m)
unfolding wrote SameLength
wrote-long n (request.Derivative x) p a m e l = filled-long n p a m e l
wrote-long n (request.Jacobian x) p a m e l = omega (arith, e, l)
wrote-long n (request.Report xold x offered) p a m e l = modified-long n a.reply a m e l
wrote-long n (request.Ended s) p a m e l = l

-- no host writes the factors
filled-factors : (p : Place) (a : Action) (m : Memory) → (filled p a.part m).factors ≡ m.factors
unfolding filled
filled-factors place.Nowhere a m = refl
filled-factors place.YToF0 a m = refl
filled-factors place.ContToZ1 a m = refl
filled-factors place.ContToZ2 a m = refl
filled-factors place.ContToZ3 a m = refl
filled-factors place.ContToF1 a m = refl
filled-factors place.YToFOrigin a m = refl
filled-factors place.YPerturbedToFPerturbed a m = refl

modified-factors : (p : Reply) (a : Action) (m : Memory) → (modified p a.amounts m).factors ≡ m.factors
unfolding modified
modified-factors reply.Filled a m = refl
modified-factors reply.Continue a m = refl
modified-factors reply.Interrupt a m = refl
modified-factors (reply.Modified x) a m = refl
modified-factors (reply.Mark x) a m = refl

pub wrote-factors : (q : Request) (p : Place) (a : Action) (m : Memory) → (wrote q p a m).factors ≡ m.factors
unfolding wrote
wrote-factors (request.Derivative x) p a m = filled-factors p a m
wrote-factors (request.Jacobian x) p a m = refl
wrote-factors (request.Report xold x offered) p a m = modified-factors a.reply a m
wrote-factors (request.Ended s) p a m = refl

-- ---- the next journal

-- the memory that the host hands back
abbrev pub handed : Journal → Action → Memory
handed j a = wrote j.point.request j.point.place a j.point.memory

abbrev pub advanced : Journal → Action → Journal
advanced j a =
    let here = j.point in
    let l = whole_of here.run a.reply (handed j a) in
    journal (point l.core.call.run l.core.call.request l.core.call.place l.core.memory)
    (turn here a l.log ∷ j.turns)

pub next-is : (j : Journal) (a : Action)
    → verdict_of (admission_rows j.point.run a.reply (handed j a)) ≡ passed_all → next j a ≡ advanced j a
unfolding next next_point advance_by
next-is j a e = rw e
