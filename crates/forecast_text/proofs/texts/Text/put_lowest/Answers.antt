-- `put_lowest` meets its contract: what fits is put whole.
use Rattle.std.proofs.Common.{◌≤◌, ◌-◌, ◌++◌, length, length-append, arith}
use Rattle.forecast_text.specs.Numerals.{lowest}
use Rattle.forecast_text.proofs.DigitLaws.{length-lowest}
use Rattle.forecast_text.proofs.PutLaws.{put_then, put-fits}
use Rattle.forecast_text.proofs.texts.Text.put_lowest.Goals as goal

pub invariant_of-self : goal.invariant_of-self
invariant_of-self g c =
    omega (
      arith,
      c.put_text-behind.ensures.ends,
      c.put_digits-self-inside.ensures.ends,
      length-lowest c.args.base c.args.width c.args.value,
    )

pub returns-then-name-width : goal.returns-then-name-width
returns-then-name-width g c =
    let digits = lowest c.args.base c.args.width c.args.value in
    let few : length (c.args.name.now ++ digits) ≤ g.row.ROOM - c.self.inside.count =
    omega (
      arith,
      length-append c.args.name.now digits,
      length-lowest c.args.base c.args.width c.args.value,
    ) in
    put-fits (c.args.name.now ++ digits) (omega arith) (omega arith) c.self.view_is few
    (put_then c.put_text-behind.ensures c.put_digits-self-inside.ensures)
