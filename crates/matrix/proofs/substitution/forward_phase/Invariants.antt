-- What each loop of `forward_phase` keeps.
use Prim.Native.Nat.{◌-◌}
use Rattle.words.proofs.Loops.{Ran, Any}
use Rattle.matrix.specs.Lent.{IsVector}
use Rattle.matrix.specs.Reordered.{stepped_at}
use Rattle.matrix.proofs.substitution.forward_phase.Given as goal

abbrev pub invariant-loop-k : goal.invariant-loop-k
invariant-loop-k g l = let e = g.E.Entry in record {
  ran : Ran (stepped_at e.entries (e.lent l.ar l.ai) l.n l.ip) Any 0 (l.n - 1) l.k
      (e.lent l.initial.br l.initial.bi) (e.lent l.br l.bi);
  vector : IsVector e.imaginary l.n l.br l.bi;
}
