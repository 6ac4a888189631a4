-- What each loop of `back_phase` keeps.
use Prim.Native.Nat.{◌+◌, ◌-◌}
use Rattle.words.proofs.Loops.{Ran, Any}
use Rattle.matrix.specs.Lent.{IsVector}
use Rattle.matrix.specs.Reordered.{row_solved_at}
use Rattle.matrix.proofs.substitution.back_phase.Given as goal

abbrev pub invariant-loop-i : goal.invariant-loop-i
invariant-loop-i g l = let e = g.E.Entry in record {
  ran : Ran (row_solved_at e.entries (e.lent l.ar l.ai) l.n) Any 1 (l.n + 1) (l.n + 1 - l.i)
      (e.lent l.initial.br l.initial.bi) (e.lent l.br l.bi);
  vector : IsVector e.imaginary l.n l.br l.bi;
}
