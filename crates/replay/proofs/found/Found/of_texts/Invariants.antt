-- What the loop of `of_texts` keeps: what is still to be found behind what was found.
use Rattle.std.proofs.Common.{◌≡◌}
use Rattle.std.specs.Slice.Iter.{iter_rest}
use Rattle.std.specs.Iterator.Adapters.{zip_first, zip_second}
use Rattle.replay.specs.Found.{bytes_behind, of_texts}
use Rattle.replay.proofs.found.Found.of_texts.Given as goal

abbrev pub invariant-loop-gave : goal.invariant-loop-gave
invariant-loop-gave l =
    bytes_behind l.found (iter_rest (zip_first l.gave-iterator)) (iter_rest (zip_second l.gave-iterator))
    ≡ of_texts l.gave l.wanted
