-- `amounts_from` meets its contract.
use Rattle.words.specs.Words.{double}
use Rattle.forecast.proofs.DoubleLaws.{doubles}
use Rattle.forecast.proofs.task.amounts_from.Goals as goal

pub returns : goal.returns
returns c =
    let made = c.map.ensures.items in
    doubles c.args.bits.now c.map.result _ c.told-bits made.long (λ i below. (made.at i 0 (double 0) below).2.met)
