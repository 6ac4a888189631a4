-- What each loop of `gain_column` keeps.
use Prim.Native.Nat.{◌+◌}
use Rattle.words.proofs.Loops.{Ran, Any}
use Rattle.matrix.specs.Lent.{IsVector}
use Rattle.matrix.specs.Reordered.{gained_at}
use Rattle.matrix.proofs.substitution.gain_column.Given as goal

abbrev pub invariant-loop-i : goal.invariant-loop-i
invariant-loop-i g l = let e = g.E.Entry in record {
  ran : Ran (gained_at e.entries (e.lent l.ar l.ai) l.n l.k l.t) Any (l.k + 1) l.n l.i
      (e.lent l.initial.br l.initial.bi) (e.lent l.br l.bi);
  vector : IsVector e.imaginary l.n l.br l.bi;
}
