-- `numbers` meets its contract.
use Rattle.std.proofs.Common.{◌≡◌, refl, ◌∙◌, sym, ap}
use native.Mathlib.Omega.{arith}
use Rattle.std.specs.Result.{result_ok}
use Rattle.std.specs.Option.{ok_or}
use Rattle.std.proofs.lemmas.Result.{err_from_is_err_and}
use Rattle.sheet.specs.Numbers.{piece_of, piece_at, passage_at, ends_of}
use Rattle.sheet.proofs.NumbersLaws.{left-begun, left-done, left-stuck, left-more, ends-few, same-error}
use Rattle.sheet.proofs.numbers.numbers.Goals as goal

pub loop-i-init : goal.loop-i-init
loop-i-init c = left-begun refl

pub overflow_add-lines : goal.overflow_add-lines
overflow_add-lines c = omega (
  arith,
  c.requires,
  c.loop-i.invariant.few,
  c.ends-lines.ensures,
  ends-few c.kind_at-kind.result.mark,
)

pub loop-i-preserved : goal.loop-i-preserved
unfolding piece_at
loop-i-preserved c =
    let token = c.ok_or.ensures.ok_part ∙ ap result_ok c.in_ok-next.was in
    left-more c.loop-i.invariant c.in_ok-next.next.value c.in_ok-next.next.rest.now c.loop-i-test.true
    (sym (ap piece_at token) ∙ c.first_token.ensures ∙ ap (λ k. piece_of k c.loop-i.rest.now) c.kind_at-kind.ensures)
    (c.ends-lines.ensures ∙ ap (λ k. ends_of k.mark) c.kind_at-kind.ensures)

pub returns-in_err-next : goal.returns-in_err-next
unfolding piece_at passage_at
returns-in_err-next c =
    let p = err_from_is_err_and c.from_residual.result c.from_residual.ensures.1 in
    let token = c.ok_or.ensures.ok_part ∙ ap result_ok c.in_err-next.was in
    let same : c.in_err-next.field-0.0 ≡ c.loop-i.lines =
    same-error (sym c.in_err-next.was ∙ c.ok_or.ensures.value ∙ ap (λ t. ok_or t c.loop-i.lines) token) in
    rw (p.1, p.2, same) (record {
      result_after = left-stuck c.loop-i.invariant c.loop-i-test.true
          (sym (ap piece_at token) ∙ c.first_token.ensures
          ∙ ap (λ k. piece_of k c.loop-i.rest.now) c.kind_at-kind.ensures);
      few = omega (arith, c.loop-i.invariant.few);
    })

pub returns : goal.returns
unfolding passage_at
returns c = record {
  result_after = left-done c.loop-i.invariant c.loop-i-test.false;
  few = omega (arith, c.loop-i.invariant.few);
}
