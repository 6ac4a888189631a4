-- `put_fraction` meets its contract.
use Rattle.std.proofs.Common.{sym, arith, lit≤}
use Rattle.forecast_text.specs.Printed.{text}
use Rattle.forecast_text.proofs.DigitLaws.{last-spelt}
use Rattle.forecast_text.proofs.PutLaws.{put-nothing, put-then}
use Rattle.csv_table.proofs.LineLaws.{no_fraction, pointed-some}
use Rattle.csv_table.proofs.number.put_fraction.Goals as goal

pub returns-then-fraction-eq0 : goal.returns-then-fraction-eq0
returns-then-fraction-eq0 c = rw (c.if-fraction-eq0.true, no_fraction) (sym (put-nothing 1024 _))

pub returns : goal.returns
unfolding text
returns c =
    let t = c.trim-kept.ensures in
    let r = c.trim-kept.result in
    let digits = last-spelt 16 r.width r.value (lit≤ tt) (lit≤ tt) (omega (arith, t.3)) t.1 in
    rw (t.0, pointed-some r.width r.value t.2) (put-then _ _ _ _ c.put.ensures (rw digits at c.put_digits.ensures))
