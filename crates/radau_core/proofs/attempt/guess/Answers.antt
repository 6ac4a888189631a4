-- `guess` meets its contract: zeros, or the loop's guess.
use Rattle.words.proofs.Branch.{no}
use Rattle.state.specs.Memory.{newton}
use Rattle.solve_blocks.specs.Attempt.{guess_of}
use Rattle.solve_blocks.proofs.AttemptLaws.{guess-zeros}
use Rattle.radau_core.proofs.attempt.guess.Goals as goal

pub returns-then-first : goal.returns-then-first
returns-then-first c = let a = c.args in
    guess-zeros _ _ _ _ _ (newton a.z1.now a.z2.now a.z3.now a.f1.now a.f2.now a.f3.now)
    c.if-first.true c.requires.2 _ _ _ _ _ _
    c.zero.ensures c.zero-then-first.ensures c.zero-then-first-2.ensures c.zero-then-first-3.ensures
    c.zero-then-first-4.ensures c.zero-then-first-5.ensures

pub returns : goal.returns
unfolding guess_of
returns c = no _ _ _ c.if-first.false c.guess_from.ensures
