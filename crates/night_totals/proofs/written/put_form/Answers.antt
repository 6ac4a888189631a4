-- `put_form` meets its contract: the numbers passed are put, with what stands in front of each, and then the rest.
use Rattle.std.proofs.Common.{sym, arith, eq-eqb, ne_eqb}
use Rattle.night_totals.proofs.WrittenLaws.{passed-none, passed-byte, passed-text, passed-number, passed-all}
use Rattle.night_totals.specs.Form.{spelt}
use Rattle.forecast_text.proofs.PutLaws.{put-nothing, put-then}
use Rattle.night_totals.proofs.written.put_form.Goals.{then-byte-eq-SLOT, else-byte-eq-SLOT}
use Rattle.night_totals.proofs.written.put_form.Goals as goal

pub loop-at-init : goal.loop-at-init
unfolding spelt
loop-at-init c = (omega arith, omega arith, omega arith, passed-none _ _, sym (put-nothing 423 _))

pub loop-at-preserved : goal.loop-at-preserved
loop-at-preserved c =
    let l = c.loop-at in
    let form = c.args.form.now in
    let vs = c.args.values in
    let p = l.invariant.3 in
    let more = c.loop-at-test.true in
    elim c.if-byte-eq-SLOT.branch [
      | then-byte-eq-SLOT w ↦
          let e = eq-eqb _ _ w.if-byte-eq-SLOT.true in
          rw (w.from-is, w.numbers-is, w.text-is) (
            omega arith,
            omega arith,
            omega arith,
            passed-number form vs l.at l.from l.numbers more p e,
            rw (passed-text form vs l.at l.from l.numbers more p e)
                (put-then _ _ _ _ l.invariant.4 (rw w.value_at.ensures at w.put_named.ensures)),
          )
      | else-byte-eq-SLOT w ↦
          let e = ne_eqb _ _ w.if-byte-eq-SLOT.false in
          rw (w.from-is, w.numbers-is, w.text-is) (
            omega arith,
            omega arith,
            omega arith,
            passed-byte form vs l.at l.from l.numbers more p e,
            l.invariant.4,
          )
    ]

pub returns : goal.returns
returns c =
    let l = c.loop-at in
    rw (passed-all c.args.form.now c.args.values l.at l.from l.numbers l.invariant.0 c.loop-at-test.false l.invariant.3)
    (put-then _ _ _ _ l.invariant.4 c.put.ensures)
