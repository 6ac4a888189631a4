-- What each loop of `swap_rows` keeps.
use Prim.Native.Nat.{◌+◌}
use Rattle.words.proofs.Loops.{Ran, Any}
use Rattle.matrix.specs.Elimination.{swapped}
use Rattle.matrix.specs.Lent.{IsMatrix}
use Rattle.matrix.proofs.elimination.swap_rows.Given as goal

abbrev pub invariant-loop-j : goal.invariant-loop-j
invariant-loop-j g l = let e = g.E.Entry in record {
  ran : Ran (swapped e.kind l.n l.k l.m) Any (l.k + 1) l.n l.j (e.lent l.initial.re l.initial.im) (e.lent l.re l.im);
  matrix : IsMatrix e.imaginary l.n l.re l.im;
}
