-- `multipliers_end` meets its contract.
use Prim.Native.Nat.{ℕ, ◌+◌, ◌-◌}
use mathlib.Core.Path.{◌≡◌, subst}
use native.Mathlib.Omega.{arith}
use Rattle.matrix.specs.Lu.{real}
use Rattle.matrix.specs.Reordered.{IdleFrom, added_of}
use Rattle.matrix.proofs.Cells.{none-idle, more-idle}
use Rattle.matrix.proofs.real_entry.multipliers_end.Goals as goal

pub loop-j-init : goal.loop-j-init
loop-j-init c = none-idle _ _ _ (omega arith)

pub returns-then-at : goal.returns-then-at
returns-then-at c = let e : c.loop-j.j ≡ c.loop-j.j - 1 + 1 = omega arith in
    subst (λ (end : ℕ). IdleFrom real added_of c.args.n c.args.k end c.args.a.now) e c.loop-j.invariant

pub loop-j-preserved : goal.loop-j-preserved
loop-j-preserved c = more-idle _ _ _ _ c.loop-j.invariant (omega arith)
    (rw (← c.at.ensures) c.if-at.false)

pub returns : goal.returns
returns c = let e : c.loop-j.j ≡ c.args.k + 1 = omega (arith, c.loop-j.invariant.low) in
    subst (λ (end : ℕ). IdleFrom real added_of c.args.n c.args.k end c.args.a.now) e c.loop-j.invariant
