-- `store` meets its contract.
use mathlib.Core.Path.{refl}
use native.Mathlib.Omega.{arith}
use Rattle.words.proofs.Grid.{cell}
use Rattle.words.specs.Grid.{put}
use Rattle.radau_core.proofs.entries.store.Goals as goal

pub overflow_mul-a : goal.overflow_mul-a
overflow_mul-a c = let x = c.args in omega (arith, cell x.n x.r x.c (omega arith) (omega arith) (omega arith))

pub overflow_add-a : goal.overflow_add-a
overflow_add-a c = let x = c.args in omega (arith, cell x.n x.r x.c (omega arith) (omega arith) (omega arith))

pub offset_bounds-a-r : goal.offset_bounds-a-r
offset_bounds-a-r c = let x = c.args in omega (arith, cell x.n x.r x.c (omega arith) (omega arith) (omega arith))

pub bounds-a-r : goal.bounds-a-r
bounds-a-r c = let x = c.args in omega (arith, cell x.n x.r x.c (omega arith) (omega arith) (omega arith))

pub returns : goal.returns
unfolding put
returns c = refl
