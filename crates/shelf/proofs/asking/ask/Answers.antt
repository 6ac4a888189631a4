-- `ask` meets its contract, way by way.
use Prim.Native.Nat.{ℕ, ◌+◌, ◌-◌, ◌*◌, ◌/◌, ◌≤◌, ◌<◌}
use mathlib.Core.Path.{◌≡◌, refl, sym, ap, subst, ◌∙◌}
use mathlib.Core.Bool.{true}
use mathlib.Core.List.{List}
use native.Mathlib.Omega.{arith}
use lib.ListN.{length, take, drop}
use lib.Ieee.{Float}
use Rattle.std.specs.Prelude.{Some, None, Ok}
use Rattle.words.specs.Words.{◌!◌}
use Rattle.std.specs.Result.{is_ok}
use Rattle.std.proofs.lemmas.List.{length-take}
use Rattle.dense.specs.Answers.{Interpolation}
use Rattle.dense.proofs.Theorems.{done}
use Rattle.dense.specs.Interpolate.{interpolate_of}
use Rattle.shelf.specs.declared.answers.Shelf.{Shelf}
use Rattle.shelf.specs.Answers.{asked}
use Rattle.shelf.specs.Finding.{found_from}
use Rattle.shelf.specs.Refusals.{room_fits, shelf_fits}
use Rattle.shelf.proofs.TestLaws.{room-fit, shelf-fit, within-room}
use Rattle.shelf.proofs.FindLaws.{Low, found-low}
use Rattle.shelf.proofs.AskLaws.{ask-narrow, ask-unfit, ask-found}
use Rattle.shelf.proofs.asking.ask.Goals as goal
use Rattle.shelf.proofs.asking.ask.Goals.{In-Some}

-- what is known of the place that was found, among the parts of 48 steps of n amounts
record Inside (n c e place : ℕ) : Type 0 where
  room : place * (4 * n) + 4 * n ≤ c
  end : 2 * place + 1 < e

inside : (n c : ℕ) (s : Shelf) (x : Float) (ends : List Float) (place : ℕ) → room_fits n c (length ends) ≡ true
    → shelf_fits s ≡ true → Some place ≡ found_from x ends s.place s.steps → Inside n c (length ends) place
inside n c s x ends place wide fits e =
    let room = room-fit n c (length ends) wide in
    let low : place ≤ 47 = subst Low (sym e) (found-low x ends s.steps s.place (shelf-fit s fits).place) in
    record { room = within-room n (4 * n) c place refl room.coefficients low; end = omega (arith, low, room.ends) }

known : (c : In-Some)
    → Inside (length c.args.target.now) (length c.args.coefficients.now) (length c.args.ends.now) c.in-Some.place
known c =
    inside _ _ c.args.shelf c.args.x c.args.ends.now _ (sym c.room_fits.ensures ∙ c.if-not-room_fits.false)
    (sym c.shelf_fits.ensures ∙ c.if-not-shelf_fits.false) c.in-Some.ensures

pub returns-then-not-room_fits : goal.returns-then-not-room_fits
returns-then-not-room_fits c = let a = c.args in
    ask-narrow a.shelf a.x a.target.now a.coefficients.now a.ends.now
    (sym c.room_fits.ensures ∙ c.if-not-room_fits.true)

pub returns-then-not-shelf_fits : goal.returns-then-not-shelf_fits
returns-then-not-shelf_fits c = let a = c.args in
    ask-unfit a.shelf a.x a.target.now a.coefficients.now a.ends.now
    (sym c.room_fits.ensures ∙ c.if-not-room_fits.false)
    (sym c.shelf_fits.ensures ∙ c.if-not-shelf_fits.true)

pub find-requires : goal.find-requires
find-requires c = (
  (room-fit _ _ _ (sym c.room_fits.ensures ∙ c.if-not-room_fits.false)).ends,
  (shelf-fit _ (sym c.shelf_fits.ensures ∙ c.if-not-shelf_fits.false)).place,
)

pub overflow_mul-start-2 : goal.overflow_mul-start-2
overflow_mul-start-2 c = omega (arith, (known (goal.at.overflow_mul-start-2 c).In-Some).room)

pub overflow_add-part : goal.overflow_add-part
overflow_add-part c = omega (arith, (known (goal.at.overflow_add-part c).In-Some).room)

pub offset_bounds-coefficients-start : goal.offset_bounds-coefficients-start
offset_bounds-coefficients-start c = omega (arith, (known (goal.at.offset_bounds-coefficients-start c).In-Some).room)

pub slice_bounds-part-end : goal.slice_bounds-part-end
slice_bounds-part-end c = omega (arith, (known (goal.at.slice_bounds-part-end c).In-Some).room)

pub overflow_mul-place : goal.overflow_mul-place
overflow_mul-place c = omega (arith, (known (goal.at.overflow_mul-place c).In-Some).end)

pub offset_bounds-ends-place : goal.offset_bounds-ends-place
offset_bounds-ends-place c = omega (arith, (known (goal.at.offset_bounds-ends-place c).In-Some).end)

pub bounds-ends-place : goal.bounds-ends-place
bounds-ends-place c = omega (arith, (known (goal.at.bounds-ends-place c).In-Some).end)

pub overflow_mul-place-2 : goal.overflow_mul-place-2
overflow_mul-place-2 c = omega (arith, (known (goal.at.overflow_mul-place-2 c).In-Some).end)

pub overflow_add-place : goal.overflow_add-place
overflow_add-place c = omega (arith, (known (goal.at.overflow_add-place c).In-Some).end)

pub offset_bounds-ends-place-2 : goal.offset_bounds-ends-place-2
offset_bounds-ends-place-2 c = omega (arith, (known (goal.at.offset_bounds-ends-place-2 c).In-Some).end)

pub bounds-ends-place-2 : goal.bounds-ends-place-2
bounds-ends-place-2 c = omega (arith, (known (goal.at.bounds-ends-place-2 c).In-Some).end)

pub returns-in_default : goal.returns-in_default
returns-in_default c = let a = c.args in
    ask-found a.shelf a.x a.target.now a.coefficients.now a.ends.now
    (sym c.room_fits.ensures ∙ c.if-not-room_fits.false) (sym c.shelf_fits.ensures ∙ c.if-not-shelf_fits.false)
    None c.in_default.ensures refl

pub unwrap-requires : goal.unwrap-requires
unwrap-requires c = let a = c.args in
    let n = length a.target.now in
    let start = c.in-Some.place * (4 * n) in
    let part = take (start + 4 * n - start) (drop start a.coefficients.now) in
    let enough : length part / 4 ≤ n = simp length-take (omega arith) in
    ap (λ (o : Interpolation). is_ok o.answer) c.interpolate.ensures
    ∙ ap is_ok (done a.x a.target.now part (a.ends.now ! (2 * c.in-Some.place))
    (a.ends.now ! (2 * c.in-Some.place + 1)) enough)

pub returns : goal.returns
returns c = let a = c.args in
    let place = c.in-Some.place in
    let n = length a.target.now in
    let size : place * (4 * n) + 4 * n - place * (4 * n) ≡ 4 * n = omega arith in
    ask-found a.shelf a.x a.target.now a.coefficients.now a.ends.now
    (sym c.room_fits.ensures ∙ c.if-not-room_fits.false) (sym c.shelf_fits.ensures ∙ c.if-not-shelf_fits.false)
    (Some place) c.in-Some.ensures
    (ap (λ (o : Interpolation). asked (Ok tt) o.yi) c.interpolate.ensures
    ∙ ap (λ k. asked (Ok tt) (interpolate_of a.x a.target.now
    (take k (drop (place * (4 * n)) a.coefficients.now)) (a.ends.now ! (2 * place))
    (a.ends.now ! (2 * place + 1))).yi) size)
