-- `root_pattern` meets its contract: the digits, their place and the remainder compose the nearest pattern.
use Prim.Native.Nat.{◌^◌, ◌<◌}
use native.Mathlib.Omega.{arith}
use Rattle.words.specs.Patterns.{units}
use Rattle.scalar.specs.Steps.{EvenPlace}
use Rattle.scalar.proofs.RoundingLaws.{near_fits, near-two, near-one, near_none}
use Rattle.scalar.proofs.square_root.root_pattern.Goals as goal

pub overflow_add-r : goal.overflow_add-r
overflow_add-r c =
    let place : EvenPlace (units c.args.b) c.even_place-s.result.m c.even_place-s.result.w = c.even_place-s.ensures in
    let digits-fit : c.wide_root-d.result.q < 2 ^ 53 = near_fits _ _ _ place _ _ c.wide_root-d.ensures in
    let d = c.before.before in omega (arith, place.most, digits-fit)

pub overflow_mul-d : goal.overflow_mul-d
overflow_mul-d c =
    let place : EvenPlace (units c.args.b) c.even_place-s.result.m c.even_place-s.result.w = c.even_place-s.ensures in
    let digits-fit : c.wide_root-d.result.q < 2 ^ 53 = near_fits _ _ _ place _ _ c.wide_root-d.ensures in
    omega (arith, digits-fit)

pub overflow_add-d : goal.overflow_add-d
overflow_add-d c =
    let place : EvenPlace (units c.args.b) c.even_place-s.result.m c.even_place-s.result.w = c.even_place-s.ensures in
    let digits-fit : c.wide_root-d.result.q < 2 ^ 53 = near_fits _ _ _ place _ _ c.wide_root-d.ensures in
    omega (arith, digits-fit)

pub returns-then-d : goal.returns-then-d
returns-then-d c =
    let place : EvenPlace (units c.args.b) c.even_place-s.result.m c.even_place-s.result.w = c.even_place-s.ensures in
    let digits-fit : c.wide_root-d.result.q < 2 ^ 53 = near_fits _ _ _ place _ _ c.wide_root-d.ensures in
    let d = c.before.before.before.before.before in
    (near-two _ _ _ place _ _ d.wide_root-d.ensures c.if-d.true, omega (arith, place.most, digits-fit))

pub overflow_add-result-then-d-2 : goal.overflow_add-result-then-d-2
overflow_add-result-then-d-2 c =
    let place : EvenPlace (units c.args.b) c.even_place-s.result.m c.even_place-s.result.w = c.even_place-s.ensures in
    let digits-fit : c.wide_root-d.result.q < 2 ^ 53 = near_fits _ _ _ place _ _ c.wide_root-d.ensures in
    let d = c.before.before.before.before.before.before.before in omega (arith, place.most, digits-fit)

pub returns-then-d-2 : goal.returns-then-d-2
returns-then-d-2 c =
    let place : EvenPlace (units c.args.b) c.even_place-s.result.m c.even_place-s.result.w = c.even_place-s.ensures in
    let digits-fit : c.wide_root-d.result.q < 2 ^ 53 = near_fits _ _ _ place _ _ c.wide_root-d.ensures in
    let d = c.before.before.before.before.before.before.before in (
      near-one _ _ _ place _ _ d.wide_root-d.ensures c.if-d.false c.if-d-2.true,
      omega (arith, place.most, digits-fit),
    )

pub returns : goal.returns
returns c =
    let place : EvenPlace (units c.args.b) c.even_place-s.result.m c.even_place-s.result.w = c.even_place-s.ensures in
    let digits-fit : c.wide_root-d.result.q < 2 ^ 53 = near_fits _ _ _ place _ _ c.wide_root-d.ensures in
    let d = c.before.before.before.before.before.before.before in
    (near_none _ _ _ place _ _ d.wide_root-d.ensures c.if-d-2.false, omega (arith, place.most, digits-fit))
