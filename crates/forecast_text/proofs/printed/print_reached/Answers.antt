-- `print_reached` meets its contract: the text finds room.
use Rattle.std.proofs.Common.{◌≡◌, refl, rules, Ok}
use Rattle.forecast_text.specs.Printed.{reached_text, printed_of}
use Rattle.forecast_text.proofs.Lengths.{answered}
use Rattle.forecast_text.proofs.printed.print_reached.Goals as goal

pub returns : goal.returns
unfolding printed_of
returns c =
    let e = c.args.reached in
    let is : c.put_reached.new.text ≡ reached_text e =
    answered (Ok e) (Ok e) refl (search rules) c.new-text.ensures c.put_reached.ensures in
    record {
      out_after = rw is at c.copy_over.ensures;
      value = (rw is at c.len.ensures.value, c.len.ensures.upper_bound);
    }
