-- The pivots stay rows in an advance: where none of the first n - 1 is stray before it, none is after it.
use Prim.Native.Nat.{ℕ}
use mathlib.Core.Path.{◌≡◌, refl, sym, subst}
use mathlib.Core.Bool.{false}
use mathlib.Core.List.{List}
use native.Mathlib.Omega.{arith}
use lib.Ieee.{Float}
use Rattle.state.specs.declared.run.Run.{Run}
use Rattle.state.specs.declared.talk.Reply.{Reply}
use Rattle.state.specs.Memory.{Memory, Factors}
use Rattle.state.specs.Pivots.{stray}
use Rattle.state.proofs.Pivots.{row-stored}
use Rattle.solve_blocks.specs.declared.step.Step.{Step}
use Rattle.solve_blocks.specs.declared.step.Step.TheVariants as step
use Rattle.solve_blocks.specs.Advance.{received_of, passed_of, called_of}
use Rattle.solve_blocks.specs.Needs.{MemoryLong}
use Rattle.solve_blocks.proofs.AdvanceWhole.{whole_of}
use Rattle.solve_blocks.proofs.Passes.{passes_kept}
use Rattle.solve_blocks.proofs.FactorsKept.{replied-same}
use Rattle.account.proofs.Lengths.{replied-kept}

-- ---- outside the passes the factors stand

called_same : (s : Step) (m : Memory) → (called_of s m).core.memory.factors ≡ m.factors
unfolding called_of
called_same (step.Asked c) m = refl
called_same (step.Main r) m = refl
called_same (step.Matrices r) m = refl
called_same (step.Attempt r) m = refl

-- nor does an advance change what was given, past the reply
pub called-given : (s : Step) (m : Memory) → (called_of s m).core.memory.given ≡ m.given
unfolding called_of
called-given (step.Asked c) m = refl
called-given (step.Main r) m = refl
called-given (step.Matrices r) m = refl
called-given (step.Attempt r) m = refl

-- ---- the advance

abbrev NoStray : ℕ → Factors → Type 0
NoStray n f = (stray n f.ip1 ≡ false) × (stray n f.ip2 ≡ false)

pub advance-pivots : (n : ℕ) (r : Run) (p : Reply) (m : Memory) → r.shape.n ≡ n → MemoryLong n m
    → stray n m.factors.ip1 ≡ false → stray n m.factors.ip2 ≡ false
    → (stray n (whole_of r p m).core.memory.factors.ip1 ≡ false)
    × (stray n (whole_of r p m).core.memory.factors.ip2 ≡ false)
advance-pivots n r p m order l e f =
    let t = (received_of r p m).core in
    let u = (passed_of t).core in
    let a = subst (NoStray n) (sym (replied-same r.stage p r m)) (e, f) in
    let k = passes_kept (λ (x : List Float). Unit {0}) (λ x i v q. tt) r.shape (λ (ip : List ℕ). stray n ip ≡ false)
    (λ ip i j b q. row-stored n ip i j (omega arith) q)
    t.memory.given.mass t.memory.given.jac t.step t.memory.factors
    (replied-kept n r.shape order r.stage p r m refl l).0 (tt, tt, tt, a.0, a.1) in
    subst (NoStray n) (sym (called_same u.step u.memory)) (k.1.3, k.1.4)
