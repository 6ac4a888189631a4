-- `print_refusal` meets its contract: case by case the text is that of the refusal, and it finds room.
use Rattle.std.proofs.Common.{◌≡◌, refl, ◌∙◌, arith, Err}
use Rattle.forecast_text.specs.Printed.{text, refusal_text, printed_of}
use Rattle.forecast_text.proofs.Lengths.{refused}
use Rattle.forecast_text.proofs.printed.print_refusal.Goals as goal
use Rattle.forecast_text.proofs.printed.print_refusal.Goals.{in-Opening, in-Malformed, in-TooLong}

pub returns : goal.returns
unfolding printed_of refusal_text text
returns c =
    let x = c.args.error in
    let fresh = c.new-text.ensures in
    let is : c.match-error.text ≡ refusal_text x =
    elim c.match-error.branch [
      | in-Opening w ↦ refused 32 (Err x) x _ (omega arith) refl w.in-Opening.is fresh
          (w.text-is ∙ rw w.refusal_number.ensures at w.put_line.ensures)
      | in-Malformed w ↦ refused 32 (Err x) x _ (omega arith) refl w.in-Malformed.is fresh
          (w.text-is ∙ w.put_line-in-Malformed.ensures)
      | in-TooLong w ↦ refused 32 (Err x) x _ (omega arith) refl w.in-TooLong.is fresh (w.text-is ∙ w.put.ensures)
    ] in
    record {
      out_after = rw is at c.copy_over.ensures;
      value = (rw is at c.len.ensures.value, c.len.ensures.upper_bound);
    }
