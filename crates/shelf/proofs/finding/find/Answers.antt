-- `find` meets its contract: what is left to look at decides.
use Prim.Native.Nat.{ℕ, ◌+◌, ◌-◌, ◌*◌, ◌≤◌}
use mathlib.Core.Path.{◌≡◌, sym, ap, ◌∙◌}
use native.Mathlib.Omega.{arith}
use Rattle.std.specs.Prelude.{Some}
use Rattle.words.specs.Words.{◌!◌}
use Rattle.shelf.specs.Shelf.{holds, place_before}
use Rattle.shelf.specs.Finding.{found_from}
use Rattle.shelf.proofs.Ring.{before-low}
use Rattle.shelf.proofs.FindLaws.{found_none, found_here, found-on}
use Rattle.shelf.proofs.finding.find.Goals as goal

-- the place that is looked at is one of the 48
low : (at looked : ℕ) → at ≤ 47 → looked ≡ place_before at → looked ≤ 47
low at looked h e = omega (arith, before-low at h, e)

pub overflow_mul-at : goal.overflow_mul-at
overflow_mul-at c = omega (arith, low _ _ c.loop.invariant.0 c.place_before-at.ensures)

pub offset_bounds-ends-at : goal.offset_bounds-ends-at
offset_bounds-ends-at c = omega (arith, low _ _ c.loop.invariant.0 c.place_before-at.ensures)

pub bounds-ends-at : goal.bounds-ends-at
bounds-ends-at c = omega (arith, low _ _ c.loop.invariant.0 c.place_before-at.ensures)

pub overflow_mul-at-in-loop : goal.overflow_mul-at-in-loop
overflow_mul-at-in-loop c = omega (arith, low _ _ c.loop.invariant.0 c.place_before-at.ensures)

pub overflow_add-at : goal.overflow_add-at
overflow_add-at c = omega (arith, low _ _ c.loop.invariant.0 c.place_before-at.ensures)

pub offset_bounds-ends-at-in-loop : goal.offset_bounds-ends-at-in-loop
offset_bounds-ends-at-in-loop c = omega (arith, low _ _ c.loop.invariant.0 c.place_before-at.ensures)

pub bounds-ends-at-in-loop : goal.bounds-ends-at-in-loop
bounds-ends-at-in-loop c = omega (arith, low _ _ c.loop.invariant.0 c.place_before-at.ensures)

pub returns-then-within : goal.returns-then-within
returns-then-within c = let args = c.args in
    ap Some c.place_before-at.ensures
    ∙ found_here args.x args.ends.now c.loop.at (args.steps - c.loop.counter) (omega arith)
    (ap (λ p. holds args.x (args.ends.now ! (2 * p)) (args.ends.now ! (2 * p + 1)))
    (sym c.place_before-at.ensures) ∙ sym c.within.ensures ∙ c.if-within.true)
    ∙ c.loop.invariant.1

pub loop-preserved : goal.loop-preserved
loop-preserved c =
    let args = c.args in
    let next : args.steps - (c.loop.counter + 1) ≡ args.steps - c.loop.counter - 1 = omega arith in (
      low _ _ c.loop.invariant.0 c.place_before-at.ensures,
      ap (found_from args.x args.ends.now c.place_before-at.result) next
          ∙ ap (λ p. found_from args.x args.ends.now p (args.steps - c.loop.counter - 1)) c.place_before-at.ensures
          ∙ found-on args.x args.ends.now c.loop.at (args.steps - c.loop.counter) (omega arith)
          (ap (λ p. holds args.x (args.ends.now ! (2 * p)) (args.ends.now ! (2 * p + 1)))
          (sym c.place_before-at.ensures) ∙ sym c.within.ensures ∙ c.if-within.false)
          ∙ c.loop.invariant.1,
    )

pub returns : goal.returns
returns c = let args = c.args in
    found_none args.x args.ends.now c.loop.at (args.steps - c.loop.counter) (omega arith) ∙ c.loop.invariant.1
