-- `put_text` meets its contract: with the bytes that are left to put, memory is what it is to be.
use Rattle.std.proofs.Common.{refl, ◌∙◌}
use Rattle.forecast_text.proofs.PutLaws.{text-first, text-more, text-all}
use Rattle.forecast_text.proofs.texts.put_text.Goals as goal

pub loop-i-init : goal.loop-i-init
loop-i-init c = text-first c.args.at c.args.bytes.now c.args.out.now

pub loop-i-preserved : goal.loop-i-preserved
loop-i-preserved c =
    text-more c.args.at c.loop-i.i c.args.bytes.now c.loop-i.out c.loop-i-test.true ∙ c.loop-i.invariant

pub returns : goal.returns
returns c = record {
  ends = refl;
  is = text-all c.args.at c.loop-i.i c.args.bytes.now c.loop-i.out c.loop-i-test.false ∙ c.loop-i.invariant;
}
