-- `put_numbers` meets its contract: the numbers passed are put.
use Rattle.std.proofs.Common.{sym, ap, ◌∙◌}
use lib.Seq.{take_all}
use Rattle.sheet.specs.Kinds.{kind_of}
use Rattle.sheet.specs.Writes.{writes}
use Rattle.forecast_text.specs.Put.{put}
use Rattle.forecast_text.proofs.PutLaws.{put-nothing, put-then}
use Rattle.sheet_write.proofs.KindLaws.{fit_at, writes_more, kind-spells}
use Rattle.sheet_write.proofs.numbers.put_numbers.Goals as goal

pub loop-i-init : goal.loop-i-init
unfolding writes
loop-i-init c = sym (put-nothing 4096 _)

pub put_number-requires : goal.put_number-requires
put_number-requires c =
    rw c.kind_at.ensures (kind-spells c.args.phase c.args.species c.loop-i.i _ c.requires.species
    (fit_at _ c.args.values.now c.loop-i.i c.requires.fit c.loop-i-test.true))

pub loop-i-preserved : goal.loop-i-preserved
loop-i-preserved c =
    rw (writes_more _ c.args.values.now c.loop-i.i c.loop-i-test.true)
    (put-then 4096 _ _ _ c.loop-i.invariant (rw c.kind_at.ensures at c.put_number.ensures))

pub returns : goal.returns
returns c = c.loop-i.invariant
    ∙ ap (λ us. put 4096 c.args.sheet.now (writes (kind_of c.args.phase c.args.species) 0 us))
    (take_all c.loop-i.i c.args.values.now c.loop-i-test.false)
