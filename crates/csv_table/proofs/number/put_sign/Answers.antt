-- `put_sign` meets its contract.
use Rattle.std.proofs.Common.{sym}
use borrow.Author.Tests.{le-leb, lt-leb}
use Rattle.words.proofs.Branch.{pick_yes, pick_no}
use Rattle.forecast_text.specs.Printed.{text}
use Rattle.forecast_text.proofs.PutLaws.{put-nothing}
use Rattle.csv_table.specs.NumberText.{sign_text}
use Rattle.csv_table.proofs.number.put_sign.Goals as goal

pub returns-then-bits-ge-SIGN : goal.returns-then-bits-ge-SIGN
unfolding sign_text text
returns-then-bits-ge-SIGN c = rw (pick_yes _ _ (le-leb _ _ c.if-bits-ge-SIGN.true)) c.put.ensures

pub returns-else-bits-ge-SIGN : goal.returns-else-bits-ge-SIGN
unfolding sign_text
returns-else-bits-ge-SIGN c = rw (pick_no _ _ (lt-leb _ _ c.if-bits-ge-SIGN.false)) (sym (put-nothing 1024 _))
