-- `judge` meets its contract: the ways out are those of solve_blocks/proofs/JudgeLaws.antt.
use mathlib.Core.Path.{refl}
use lib.ListN.{length-set}
use Rattle.solve_blocks.specs.Entries.{three}
use Rattle.solve_blocks.proofs.JudgeLaws.{accepted-room, judge-accepted, judge-rejected}
use Rattle.radau_core.specs.Places.{run_at}
use Rattle.radau_core.proofs.PlaceLaws.{doubles-at, resized}
use Rattle.radau_core.proofs.judge.judge.Goals as goal

pub ask_derivative-requires : goal.ask_derivative-requires
ask_derivative-requires c = record {
  sized = c.accepted.ensures.sized_2;
  doubles_bound = accepted-room (run_at c.args.words.now c.args.doubles.now) c.args.err _ _
      c.accepted.ensures.doubles_after c.requires.fit;
}

pub rejected-requires : goal.rejected-requires
rejected-requires c = record {
  sized = resized c.requires.sized refl (simp length-set);
  doubles_bound = c.requires.fit.rejected;
}

pub returns-then-err : goal.returns-then-err
returns-then-err c = let a = c.args in record {
  sized_2 = c.ask_derivative.ensures.sized_2;
  cont_after = judge-accepted (run_at a.words.now a.doubles.now) a.err
      (three a.z1.now a.z2.now a.z3.now) a.y.now a.cont.now _ _ _ _ _ c.if-err.true
      c.quot-q.ensures c.moved.ensures c.accepted.ensures.doubles_after c.ask_derivative.ensures.doubles_after;
}

pub returns : goal.returns
returns c = let a = c.args in record {
  sized_2 = c.rejected.ensures.sized_2;
  cont_after = judge-rejected (run_at a.words.now a.doubles.now) a.err
      (three a.z1.now a.z2.now a.z3.now) a.y.now a.cont.now _ _ c.if-err.false
      c.quot-q.ensures (rw (doubles-at c.requires.sized) at c.rejected.ensures.doubles_after);
}
