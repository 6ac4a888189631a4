-- `fed` meets its contract: with the bytes that are left, the record comes to what it is to be.
use Rattle.std.proofs.Common.{sym, refl, ◌∙◌, arith}
use Rattle.night_chain.proofs.FedLaws.{fed-more, fed-all}
use Rattle.night_chain.proofs.chain.fed.Goals as goal

pub loop-byte-init : goal.loop-byte-init
loop-byte-init c = (omega arith, refl)

pub loop-byte-preserved : goal.loop-byte-preserved
loop-byte-preserved c = (
  omega arith,
  rw c.step-next.ensures (sym (fed-more c.loop-byte.next c.args.piece.now c.loop-byte.byte-index c.loop-byte-test.true)
      ∙ c.loop-byte.invariant.1),
)

pub returns : goal.returns
returns c = fed-all c.loop-byte.next c.args.piece.now c.loop-byte.byte-index c.loop-byte-test.false
    ∙ c.loop-byte.invariant.1
