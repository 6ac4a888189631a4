-- `put_lowest_cut` meets its contract.
use Rattle.std.proofs.Common.{◌≡◌, ◌-◌, arith}
use Rattle.forecast_text.proofs.DigitLaws.{lowest-first}
use Rattle.forecast_text.proofs.PutLaws.{put-then}
use Rattle.forecast_text.proofs.texts.Text.put_lowest_cut.Goals as goal

pub returns : goal.returns
returns g c =
    let all : c.args.width - 0 ≡ c.args.width = omega arith in
    let digits = lowest-first c.args.base c.args.width c.args.value c.requires.base.0 c.requires.base.1
    c.requires.width in
    put-then _ _ _ _ c.put_cut.ensures (rw (all, c.digits_of-digits.ensures, digits) at c.put_cut-2.ensures)
