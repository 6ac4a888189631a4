-- `put_status` meets its contract.
use Rattle.forecast_text.specs.Printed.{text, numeral_of}
use Rattle.forecast_text.proofs.PutLaws.{put-then}
use Rattle.forecast_text.proofs.LineLaws.{put-named}
use Rattle.forecast_text.proofs.lines.put_status.Goals as goal

pub returns : goal.returns
unfolding text
returns c = let k = c.args.res.counts in
    let p1 = rw c.status_number.ensures at c.put_named.ensures in
    let p2 = put-named _ _ _ (text " accepted ") (numeral_of k.accepted) p1 c.put_named-2.ensures in
    let p3 = put-named _ _ _ (text " rejected ") (numeral_of k.rejected) p2 c.put_named-3.ensures in
    let p4 = put-named _ _ _ (text " total ") (numeral_of k.total) p3 c.put_named-4.ensures in
    let p5 = put-named _ _ _ (text " ode ") (numeral_of k.ode) p4 c.put_named-5.ensures in
    let p6 = put-named _ _ _ (text " jac ") (numeral_of k.jac) p5 c.put_named-6.ensures in
    let p7 = put-named _ _ _ (text " lu ") (numeral_of k.lu) p6 c.put_named-7.ensures in
    put-then _ _ _ _ p7 c.put.ensures
