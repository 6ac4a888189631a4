-- `slow_round` meets its contract.
use mathlib.Core.Path.{refl}
use lib.ListN.{length-set}
use Rattle.solve_blocks.specs.Newton.{slow_round}
use Rattle.radau_core.proofs.PlaceLaws.{words-at, resized}
use Rattle.radau_core.proofs.round.slow_round.Goals as goal

pub returns-in-Rust : goal.returns-in-Rust
unfolding slow_round
returns-in-Rust c = record {
  sized = resized c.requires (simp length-set) refl;
  doubles_after = rw (
    c.in-Rust.is,
    words-at c.requires,
  );
}

pub returns-in-Book : goal.returns-in-Book
unfolding slow_round
returns-in-Book c = record {
  sized = c.missed.ensures.sized;
  doubles_after = rw (c.in-Book.is, c.missed.ensures.doubles_after);
}
