-- `react_all` meets its contract. After i turns the first i reactions have had their share.
use Prim.Native.Nat.{ℕ, ◌+◌, ◌*◌}
use mathlib.Core.Path.{refl, ap, ◌∙◌}
use native.Mathlib.Nat.{le_antisymm}
use native.Mathlib.Omega.{arith}
use Rattle.model.specs.Model.{all_reacted}
use Rattle.model.specs.Derivative.{reaction_at, reactions_of}
use Rattle.model.proofs.ReactionLaws.{turn, turn-length}
use Rattle.model.proofs.reactions.react_all.Goals as goal

pub loop-i-init : goal.loop-i-init
loop-i-init c = (omega arith, omega arith, refl)

pub react-requires : goal.react-requires
react-requires c = let known =
    c.requires.by_index in
    let i = c.loop-i.i in (
      c.loop-i.invariant.1,
      known (4 * i) (omega arith),
      known (4 * i + 1) (omega arith),
      known (4 * i + 2) (omega arith),
      known (4 * i + 3) (omega arith),
    )

pub loop-i-preserved : goal.loop-i-preserved
loop-i-preserved c = let given = c.args in
    let held = c.loop-i.invariant in
    let now = c.react.ensures in (
      omega arith,
      turn-length given.y.now (reaction_at given.rates.now given.species.now
          c.loop-i.i)
          c.loop-i.dy held.1 now,
      turn given.y.now given.rates.now given.species.now
          c.loop-i.i
          given.dy.now held.2 now,
    )

pub returns : goal.returns
returns c = let given = c.args in
    c.loop-i.invariant.2
    ∙ ap
    (λ (k : ℕ). all_reacted given.y.now (reactions_of given.rates.now given.species.now k) given.dy.now)
    (le_antisymm c.loop-i.invariant.0 c.loop-i-test.false)
