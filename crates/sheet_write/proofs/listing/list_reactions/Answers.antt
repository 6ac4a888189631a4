-- `list_reactions` meets its contract: the numbers of the reactions passed are listed.
use mathlib.Core.Path.{refl}
use native.Mathlib.Nat.{le_antisymm}
use native.Mathlib.Omega.{arith}
use lib.ListN.{length-set}
use Rattle.sheet_write.specs.Memory.{listed_in}
use Rattle.sheet_write.proofs.MemoryLaws.{listed_more}
use Rattle.sheet_write.proofs.listing.list_reactions.Goals as goal

pub loop-i-init : goal.loop-i-init
unfolding listed_in
loop-i-init c = (omega arith, c.requires.1, refl)

pub loop-i-preserved : goal.loop-i-preserved
loop-i-preserved c = let args = c.args in (
  omega arith,
  simp length-set c.loop-i.invariant.1,
  listed_more c.loop-i.listed args.rates.now args.species.now c.loop-i.i
      (omega arith) c.loop-i.invariant.2,
)

pub returns : goal.returns
returns c = let e = le_antisymm c.loop-i.invariant.0 c.loop-i-test.false in
    rw e at c.loop-i.invariant.2
