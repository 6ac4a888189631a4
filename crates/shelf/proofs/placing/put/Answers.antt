-- `put` meets its contract, way by way.
use Prim.Native.Nat.{ℕ, ◌+◌, ◌*◌, ◌/◌, ◌%◌, ◌≤◌}
use mathlib.Core.Path.{◌≡◌, sym, ◌∙◌}
use mathlib.Core.Bool.{true}
use native.Mathlib.Omega.{arith}
use mathlib.Core.List.{[], ◌∷◌}
use lib.ListN.{length}
use Rattle.std.specs.Prelude.{Ok}
use Rattle.shelf.specs.declared.answers.Shelf.{Shelf}
use Rattle.shelf.specs.Shelf.{shelf}
use Rattle.shelf.specs.Answers.{placed}
use Rattle.shelf.specs.Refusals.{room_fits, shelf_fits}
use Rattle.shelf.proofs.Over.{put-over}
use Rattle.shelf.proofs.TestLaws.{room-fit, shelf-fit, within-room}
use Rattle.shelf.proofs.PutLaws.{put-uneven, put-narrow, put-unfit, put-done}
use Rattle.shelf.proofs.placing.put.Goals as goal

-- what the three tests say, of a step with so many coefficients
record Tested (long c e : ℕ) (s : Shelf) : Type 0 where
  room : s.place * long + long ≤ c
  ends : 2 * s.place + 2 ≤ e
  steps : s.steps ≤ 48
  place : s.place ≤ 47

tested : (long c e : ℕ) (s : Shelf) → long % 4 ≡ 0 → room_fits (long / 4) c e ≡ true → shelf_fits s ≡ true
    → Tested long c e s
tested long c e s even wide fits =
    let room = room-fit (long / 4) c e wide in
    let fit = shelf-fit s fits in
    let place = fit.place in
    record {
      room = within-room (long / 4) long c s.place (omega arith) room.coefficients place;
      ends = omega (arith, room.ends, place);
      steps = fit.steps;
      place = place;
    }

pub returns-then-cont-ne0 : goal.returns-then-cont-ne0
returns-then-cont-ne0 c = let a = c.args in
    put-uneven a.shelf a.cont.now a.xold a.h a.coefficients.now a.ends.now c.if-cont-ne0.true

pub returns-then-not-room_fits : goal.returns-then-not-room_fits
returns-then-not-room_fits c = let a = c.args in
    put-narrow a.shelf a.cont.now a.xold a.h a.coefficients.now a.ends.now
    c.if-cont-ne0.false (sym c.room_fits.ensures ∙ c.if-not-room_fits.true)

pub returns-then-not-shelf_fits : goal.returns-then-not-shelf_fits
returns-then-not-shelf_fits c = let a = c.args in
    put-unfit a.shelf a.cont.now a.xold a.h a.coefficients.now a.ends.now
    c.if-cont-ne0.false (sym c.room_fits.ensures ∙ c.if-not-room_fits.false)
    (sym c.shelf_fits.ensures ∙ c.if-not-shelf_fits.true)

pub overflow_mul-place : goal.overflow_mul-place
overflow_mul-place c = let a = c.args in
    let known = tested (length a.cont.now) (length a.coefficients.now) (length a.ends.now) a.shelf c.if-cont-ne0.false
    (sym c.room_fits.ensures ∙ c.if-not-room_fits.false) (sym c.shelf_fits.ensures ∙ c.if-not-shelf_fits.false) in
    omega (arith, known.room)

pub copy-requires : goal.copy-requires
copy-requires c = let a = c.args in
    let known = tested (length a.cont.now) (length a.coefficients.now) (length a.ends.now) a.shelf c.if-cont-ne0.false
    (sym c.room_fits.ensures ∙ c.if-not-room_fits.false) (sym c.shelf_fits.ensures ∙ c.if-not-shelf_fits.false) in
    known.room

pub steps_after-requires : goal.steps_after-requires
steps_after-requires c = let a = c.args in
    let known = tested (length a.cont.now) (length a.coefficients.now) (length a.ends.now) a.shelf c.if-cont-ne0.false
    (sym c.room_fits.ensures ∙ c.if-not-room_fits.false) (sym c.shelf_fits.ensures ∙ c.if-not-shelf_fits.false) in
    known.steps

pub place_after-requires : goal.place_after-requires
place_after-requires c = let a = c.args in
    let known = tested (length a.cont.now) (length a.coefficients.now) (length a.ends.now) a.shelf c.if-cont-ne0.false
    (sym c.room_fits.ensures ∙ c.if-not-room_fits.false) (sym c.shelf_fits.ensures ∙ c.if-not-shelf_fits.false) in
    known.place

pub overflow_mul-end : goal.overflow_mul-end
overflow_mul-end c = let a = c.args in
    let known = tested (length a.cont.now) (length a.coefficients.now) (length a.ends.now) a.shelf c.if-cont-ne0.false
    (sym c.room_fits.ensures ∙ c.if-not-room_fits.false) (sym c.shelf_fits.ensures ∙ c.if-not-shelf_fits.false) in
    omega (arith, known.ends)

pub overflow_add-end : goal.overflow_add-end
overflow_add-end c = let a = c.args in
    let known = tested (length a.cont.now) (length a.coefficients.now) (length a.ends.now) a.shelf c.if-cont-ne0.false
    (sym c.room_fits.ensures ∙ c.if-not-room_fits.false) (sym c.shelf_fits.ensures ∙ c.if-not-shelf_fits.false) in
    omega (arith, known.ends)

pub offset_bounds-ends-end : goal.offset_bounds-ends-end
offset_bounds-ends-end c = let a = c.args in
    let known = tested (length a.cont.now) (length a.coefficients.now) (length a.ends.now) a.shelf c.if-cont-ne0.false
    (sym c.room_fits.ensures ∙ c.if-not-room_fits.false) (sym c.shelf_fits.ensures ∙ c.if-not-shelf_fits.false) in
    omega (arith, known.ends)

pub slice_bounds-copy_from_slice-end : goal.slice_bounds-copy_from_slice-end
slice_bounds-copy_from_slice-end c = let a = c.args in
    let known = tested (length a.cont.now) (length a.coefficients.now) (length a.ends.now) a.shelf c.if-cont-ne0.false
    (sym c.room_fits.ensures ∙ c.if-not-room_fits.false) (sym c.shelf_fits.ensures ∙ c.if-not-shelf_fits.false) in
    omega (arith, known.ends)

pub returns : goal.returns
returns c = let a = c.args in
    let wide = sym c.room_fits.ensures ∙ c.if-not-room_fits.false in
    let fits = sym c.shelf_fits.ensures ∙ c.if-not-shelf_fits.false in
    put-done a.shelf a.cont.now a.xold a.h a.coefficients.now a.ends.now
    c.if-cont-ne0.false wide fits
    (λ i. placed (Ok (shelf (c.steps_after.ensures i) (c.place_after.ensures i)))
    (c.copy.ensures i)
    (put-over (2 * a.shelf.place) (a.xold ∷ a.h ∷ []) a.ends.now c.copy_from_slice.ensures.after i))
