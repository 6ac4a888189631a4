-- `wished` meets its contract, by the two rules.
use Rattle.solve_blocks.specs.Matrices.{wished_of}
use Rattle.radau_core.proofs.PlaceLaws.{unflagged}
use Rattle.radau_core.proofs.passes.wished.Goals as goal

pub returns-in-Rust : goal.returns-in-Rust
unfolding wished_of
returns-in-Rust c = λ d. rw (← c.rule_mode-rule.ensures, c.in-Rust.is)

pub returns-in-Book : goal.returns-in-Book
unfolding wished_of
returns-in-Book c = λ d. rw (← c.rule_mode-rule.ensures, c.in-Book.is, unflagged)
