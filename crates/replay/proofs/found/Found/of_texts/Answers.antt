-- `of_texts` meets its contract.
use Rattle.std.proofs.lemmas.Slice.Zip.{Zip-more, either_empty_from_Zip}
use Rattle.replay.proofs.FoundLaws.{bytes_on, bytes_done}
use Rattle.replay.proofs.found.Found.of_texts.Goals as goal

pub loop-gave-preserved : goal.loop-gave-preserved
loop-gave-preserved c =
    let more = Zip-more c.loop-gave.gave-iterator c.next.new.self _ _ c.in-Some.is c.next.ensures.steps in
    bytes_on _ _ _ more.0 more.1
    (rw (c.compared-found-in-loop-gave.ensures, c.from.ensures, c.from-in-loop-gave.ensures)) c.loop-gave.invariant

pub returns : goal.returns
returns c =
    let ended = either_empty_from_Zip c.loop-gave.gave-iterator c.next.new.self _ c.in-None.is c.next.ensures.steps in
    bytes_done _ _ ended c.loop-gave.invariant
