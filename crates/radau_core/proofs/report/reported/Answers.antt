-- `reported` meets its contract: each reply has its own answer.
use lib.ListN.{length-set}
use Rattle.words.specs.Loop.{pick}
use Rattle.solve_blocks.specs.Report.{reported_of}
use Rattle.radau_core.specs.Choices.{option_at}
use Rattle.radau_core.proofs.PlaceLaws.{words-at, doubles-at, resized}
use Rattle.radau_core.proofs.report.reported.Goals as goal

pub ask_derivative-requires : goal.ask_derivative-requires
ask_derivative-requires c = record {
  sized = resized c.requires.sized (simp length-set) (simp length-set);
  doubles_bound = rw (words-at c.requires.sized) c.requires.doubles_bound;
}

pub returns-in-Filled : goal.returns-in-Filled
unfolding reported_of
returns-in-Filled c = record {
  sized_2 = c.requires.sized;
  doubles_after = rw c.in-Filled.is;
}

pub returns-in-Continue : goal.returns-in-Continue
unfolding reported_of
returns-in-Continue c = record {
  sized_2 = c.requires.sized;
  doubles_after = rw c.in-Continue.is;
}

pub returns-in-Interrupt : goal.returns-in-Interrupt
unfolding reported_of
returns-in-Interrupt c = record {
  sized_2 = c.ended.ensures.sized;
  doubles_after = rw (c.in-Interrupt.is, c.ended.ensures.doubles_after);
}

pub returns-in-Modified : goal.returns-in-Modified
unfolding reported_of
returns-in-Modified c = record {
  sized_2 = c.ask_derivative.ensures.sized_2;
  doubles_after = rw (
    c.in-Modified.is,
    c.ask_derivative.ensures.doubles_after,
    words-at c.requires.sized,
    doubles-at c.requires.sized,
  );
}

pub returns-in-Mark : goal.returns-in-Mark
unfolding reported_of option_at pick
returns-in-Mark c = record {
  sized_2 = resized c.requires.sized (simp length-set) (simp length-set);
  doubles_after = rw (c.in-Mark.is, words-at c.requires.sized, doubles-at c.requires.sized);
}
