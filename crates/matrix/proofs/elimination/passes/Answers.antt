-- `passes` meets its contract.
use mathlib.Core.Path.{refl}
use native.Mathlib.Omega.{arith}
use borrow.Author.Rules.{rules}
use Rattle.std.proofs.lemmas.Result.{err_from_is_err_and}
use Rattle.words.proofs.Loops.{begun, turned, ended}
use Rattle.matrix.proofs.Passes.{went_on, ends-within, ends-zero, ends-done}
use Rattle.matrix.proofs.elimination.passes.Goals as goal

pub loop-k-init : goal.loop-k-init
loop-k-init g c = record {
  ran = begun (omega arith) tt refl;
  matrix = c.requires.matrix;
  pivots = c.requires.le_n.1;
}

pub loop-k-preserved : goal.loop-k-preserved
loop-k-preserved g c = record {
  ran = turned c.loop-k.invariant.ran (omega arith) tt (went_on g.E.Entry.kind _ _ _ _ c.in_ok-pass.ensures);
  matrix = search rules;
  pivots = omega arith;
}

pub returns-in_err-pass : goal.returns-in_err-pass
returns-in_err-pass g c = let p = err_from_is_err_and c.from_residual.result c.from_residual.ensures.1 in
    rw (p.1, p.2) (ends-within g.E.Entry.kind _ _ _ _ c.loop-k.invariant.ran (omega arith) c.in_err-pass.ensures)

pub returns-then-is_zero : goal.returns-then-is_zero
returns-then-is_zero g c = ends-zero g.E.Entry.kind _ _ _ (ended c.loop-k.invariant.ran c.loop-k-test.false)
    (rw (← c.at.ensures.of_kind, ← c.is_zero.ensures) c.if-is_zero.true)

pub returns : goal.returns
returns g c = ends-done g.E.Entry.kind _ _ _ (ended c.loop-k.invariant.ran c.loop-k-test.false)
    (rw (← c.at.ensures.of_kind, ← c.is_zero.ensures) c.if-is_zero.false)
