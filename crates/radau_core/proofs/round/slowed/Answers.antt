-- `slowed` meets its contract.
use native.Mathlib.Omega.{arith}
use lib.ListN.{length-set}
use Rattle.solve_blocks.proofs.RoundLaws.{slowed-by}
use Rattle.radau_core.specs.Places.{run_at}
use Rattle.radau_core.proofs.PlaceLaws.{words-at, doubles-at, resized}
use Rattle.radau_core.proofs.round.slowed.Goals as goal

pub overflow_sub-remaining : goal.overflow_sub-remaining
overflow_sub-remaining c = omega (arith, c.requires.fit)

pub overflow_sub-remaining-2 : goal.overflow_sub-remaining-2
overflow_sub-remaining-2 c = omega (arith, c.requires.fit)

pub overflow_add-order : goal.overflow_add-order
overflow_add-order c = omega (arith, c.requires.fit.0.limit)

pub overflow_add-words : goal.overflow_add-words
overflow_add-words c = omega (arith, c.requires.fit.0.rejected)

pub slow_round-requires : goal.slow_round-requires
slow_round-requires c = resized c.requires.sized (simp length-set) (simp length-set)

pub returns : goal.returns
returns c = record {
  sized_2 = c.slow_round.ensures.sized;
  doubles_after = slowed-by (run_at c.args.words.now c.args.doubles.now) c.args.dyth _ _ _
      c.min.ensures c.max-qnewt.ensures c.inverse_root-hhfac.ensures _
      (rw (c.rule_mode-rule.ensures, words-at c.requires.sized, doubles-at c.requires.sized) at
      c.slow_round.ensures.doubles_after);
}
