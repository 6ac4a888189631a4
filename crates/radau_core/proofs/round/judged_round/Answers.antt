-- `judged_round` meets its contract.
use Rattle.words.specs.Loop.{pick}
use Rattle.solve_blocks.specs.Newton.{judged_round}
use Rattle.solve_blocks.proofs.LogLaws.{core-yes, core-no}
use Rattle.solve_blocks.proofs.RoundLaws.{below-limit}
use Rattle.radau_core.specs.Places.{◌#◌}
use Rattle.radau_core.proofs.round.judged_round.Goals as goal

pub paced-requires : goal.paced-requires
paced-requires c = record {
  sized = c.requires.sized;
  fit = (c.requires.fit, below-limit (c.args.words.now # 14) _ c.if-newt_iter-most.true);
}

pub returns-then-newt_iter-most : goal.returns-then-newt_iter-most
unfolding judged_round
returns-then-newt_iter-most c = record {
  sized_2 = c.paced.ensures.sized_2;
  m_after = λ m. core-yes _ _ c.if-newt_iter-most.true (c.paced.ensures.m_after m);
}

pub returns : goal.returns
unfolding judged_round pick
returns c = record {
  sized_2 = c.concluded.ensures.sized;
  m_after = λ m. core-no _ _ c.if-newt_iter-most.false (c.concluded.ensures.m_after m);
}
