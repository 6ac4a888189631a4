-- `copy` meets its contract: the values passed stand over those of the room.
use Prim.Native.Nat.{◌+◌}
use mathlib.Core.Path.{refl, ap, ◌∙◌}
use native.Mathlib.Nat.{le_antisymm}
use native.Mathlib.Numerals.{add-one}
use native.Mathlib.Omega.{arith}
use lib.ListN.{get_or, set, length-set}
use lib.Seq.{paste, paste-zero, paste-suc}
use lib.Ieee.{nan}
use Rattle.shelf.proofs.Over.{over-paste}
use Rattle.shelf.proofs.placing.copy.Goals as goal

pub loop-i-init : goal.loop-i-init
loop-i-init c = (omega arith, refl, paste-zero c.args.coefficients.now c.args.start c.args.cont.now)

pub loop-i-preserved : goal.loop-i-preserved
loop-i-preserved c = let args = c.args in
    let i = c.loop-i.i in (
      omega arith,
      simp length-set c.loop-i.invariant.1,
      rw (add-one i) (ap (λ m. set m (args.start + i) (get_or args.cont.now i nan)) c.loop-i.invariant.2
          ∙ paste-suc args.coefficients.now args.start args.cont.now i nan (omega arith) (omega arith)),
    )

pub shape_of-coefficients : goal.shape_of-coefficients
shape_of-coefficients c = c.loop-i.invariant.1

pub returns : goal.returns
returns c = let args = c.args in
    c.loop-i.invariant.2
    ∙ ap (paste args.coefficients.now args.start args.cont.now)
    (le_antisymm c.loop-i.invariant.0 c.loop-i-test.false)
    ∙ over-paste args.start args.cont.now args.coefficients.now
