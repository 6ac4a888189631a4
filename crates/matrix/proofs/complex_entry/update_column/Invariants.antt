-- What each loop of `update_column` keeps.
use Prim.Native.Nat.{◌+◌}
use Rattle.words.proofs.Loops.{Ran}
use Rattle.matrix.specs.Complex.{Parts, parts}
use Rattle.matrix.specs.Lent.{IsMatrix}
use Rattle.matrix.specs.Reordered.{multiplied_at}
use Rattle.matrix.proofs.complex_entry.update_column.Given as goal

abbrev pub invariant-loop-i : goal.invariant-loop-i
invariant-loop-i l = Ran (multiplied_at l.n l.k l.j l.t) (λ (a : Parts). IsMatrix 1 l.n a.re a.im) (l.k + 1) l.n l.i
    (parts l.initial.ar l.initial.ai) (parts l.ar l.ai)
