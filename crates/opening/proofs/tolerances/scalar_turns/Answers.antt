-- `scalar_turns` meets its contract.
use Rattle.opening.specs.Tolerances.{scalar_turns}
use Rattle.opening.proofs.tolerances.scalar_turns.Goals as goal

pub returns-in-Rust : goal.returns-in-Rust
unfolding scalar_turns
returns-in-Rust c = rw c.in-Rust.is

pub returns-in-Book : goal.returns-in-Book
unfolding scalar_turns
returns-in-Book c = rw c.in-Book.is
