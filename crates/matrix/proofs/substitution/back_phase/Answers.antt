-- `back_phase` meets its contract.
use Prim.Native.Nat.{◌+◌, ◌-◌}
use mathlib.Core.Path.{◌≡◌, refl}
use native.Mathlib.Omega.{arith}
use borrow.Author.Rules.{rules}
use Rattle.words.proofs.Loops.{begun, turned, ended}
use Rattle.matrix.proofs.Interchange.{moved}
use Rattle.matrix.proofs.substitution.back_phase.Goals as goal

pub loop-i-init : goal.loop-i-init
loop-i-init g c = record { ran = moved (omega arith) (begun (omega arith) tt refl); vector = c.requires.vector }

pub loop-i-preserved : goal.loop-i-preserved
loop-i-preserved g c = let e : c.args.n - (c.loop-i.i - 1) ≡ c.args.n + 1 - c.loop-i.i = omega arith in record {
  ran = moved (omega arith) (turned c.loop-i.invariant.ran (omega arith) tt (rw (← e) c.solve_row.ensures));
  vector = search rules;
}

pub returns : goal.returns
returns g c = ended c.loop-i.invariant.ran (omega arith)
