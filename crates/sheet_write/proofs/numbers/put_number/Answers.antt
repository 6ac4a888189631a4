-- `put_number` meets its contract: however it is spelled, the mark is put behind it.
use Rattle.std.proofs.Common.{ap, ◌∙◌}
use Rattle.forecast_text.specs.Put.{put}
use Rattle.forecast_text.proofs.PutLaws.{put-then}
use Rattle.sheet_write.proofs.KindLaws.{decimal-spelled, hexadecimal-spelled}
use Rattle.sheet_write.proofs.numbers.put_number.Goals as goal
use Rattle.sheet_write.proofs.numbers.put_number.Goals.{in-Decimal, in-Hexadecimal}

pub returns : goal.returns
returns c = put-then 4096 c.args.sheet.now _ _
    (elim c.match-kind.branch [
      | in-Decimal w ↦ w.sheet-is ∙ w.put_number.ensures
          ∙ ap (put 4096 c.args.sheet.now) (decimal-spelled c.args.kind c.args.value w.in-Decimal.is c.requires)
      | in-Hexadecimal w ↦ w.sheet-is ∙ w.put_hex.ensures
          ∙ ap (put 4096 c.args.sheet.now) (hexadecimal-spelled c.args.kind c.args.value w.in-Hexadecimal.is)
    ])
    c.put.ensures
