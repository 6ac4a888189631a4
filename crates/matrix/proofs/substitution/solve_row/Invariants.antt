-- What each loop of `solve_row` keeps.
use Prim.Native.Nat.{◌+◌, ◌-◌}
use Rattle.words.proofs.Loops.{Ran, Any}
use Rattle.matrix.specs.Reordered.{sum_at}
use Rattle.matrix.proofs.substitution.solve_row.Given as goal

abbrev pub invariant-loop-k : goal.invariant-loop-k
invariant-loop-k g l = let e = g.E.Entry in
    Ran (sum_at e.entries (e.lent l.ar l.ai) l.n l.i (e.lent l.br l.bi)) Any 1 (l.n - l.i) (l.n + 1 - l.k)
    (e.entries.at (e.lent l.br l.bi) l.i) l.sum
