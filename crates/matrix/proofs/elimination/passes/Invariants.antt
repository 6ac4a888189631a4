-- What each loop of `passes` keeps.
use mathlib.Core.Path.{◌≡◌}
use lib.ListN.{length}
use Rattle.words.proofs.Loops.{Ran, Any}
use Rattle.matrix.specs.Answers.{nowhere}
use Rattle.matrix.specs.Elimination.{work, pass_at}
use Rattle.matrix.specs.Lent.{IsMatrix}
use Rattle.matrix.proofs.elimination.passes.Given as goal

abbrev pub invariant-loop-k : goal.invariant-loop-k
invariant-loop-k g l = let e = g.E.Entry in record {
  ran : Ran (pass_at e.kind l.n) Any 0 l.last l.k (work (e.lent l.initial.re l.initial.im) l.initial.ip nowhere)
      (work (e.lent l.re l.im) l.ip nowhere);
  matrix : IsMatrix e.imaginary l.n l.re l.im;
  pivots : length l.ip ≡ l.n;
}
