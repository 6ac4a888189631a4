-- What each loop of `update` keeps.
use Prim.Native.Nat.{◌+◌}
use Rattle.words.proofs.Loops.{Ran}
use Rattle.matrix.specs.Complex.{Parts, parts}
use Rattle.matrix.specs.Elimination.{column_at}
use Rattle.matrix.specs.Lent.{IsMatrix}
use Rattle.matrix.specs.LuComplex.{complex_kind}
use Rattle.matrix.proofs.complex_entry.ComplexUpdate.update.Given as goal

abbrev pub invariant-loop-j : goal.invariant-loop-j
invariant-loop-j l = Ran (column_at complex_kind l.n l.k l.m) (λ (a : Parts). IsMatrix 1 l.n a.re a.im) (l.k + 1) l.n
    l.j (parts l.initial.re l.initial.im) (parts l.re l.im)
