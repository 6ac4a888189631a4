-- What each loop of `find_pivot` keeps.
use Prim.Native.Nat.{◌+◌, ◌<◌}
use Rattle.words.proofs.Loops.{Ran}
use Rattle.matrix.specs.Elimination.{Best, best, better_at}
use Rattle.matrix.proofs.elimination.find_pivot.Given as goal

abbrev pub invariant-loop-i : goal.invariant-loop-i
invariant-loop-i g l = let e = g.E.Entry in
    Ran (better_at e.kind l.n (e.lent l.re l.im) l.k) (λ (b : Best). b.row < l.n) (l.k + 1) l.n l.i
    (best l.k (e.kind.size (e.kind.at (e.lent l.re l.im) l.n l.k l.k))) (best l.m l.max_val)
