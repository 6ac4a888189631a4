-- What each loop of `scale` keeps.
use Prim.Native.Nat.{◌+◌}
use Rattle.words.proofs.Loops.{Ran, Any}
use Rattle.matrix.specs.Elimination.{scaled_at}
use Rattle.matrix.specs.Lent.{IsMatrix}
use Rattle.matrix.proofs.elimination.scale.Given as goal

abbrev pub invariant-loop-i : goal.invariant-loop-i
invariant-loop-i g l = let e = g.E.Entry in record {
  ran : Ran (scaled_at e.kind l.n l.k l.t) Any (l.k + 1) l.n l.i (e.lent l.initial.re l.initial.im) (e.lent l.re l.im);
  matrix : IsMatrix e.imaginary l.n l.re l.im;
}
