-- `tested` meets its contract: the ways out are those of solve_blocks/proofs/JudgeLaws.antt.
use mathlib.Core.Path.{◌∙◌}
use Rattle.solve_blocks.specs.Entries.{three}
use Rattle.solve_blocks.proofs.JudgeLaws.{tested-asked, tested-judged}
use Rattle.radau_core.specs.Places.{run_at}
use Rattle.radau_core.proofs.judge.tested.Goals as goal

pub returns-then-err-words : goal.returns-then-err-words
returns-then-err-words c = let a = c.args in record {
  sized_2 = c.ask_derivative.ensures.sized_2;
  cont_after = tested-asked (run_at a.words.now a.doubles.now) a.err
      (three a.z1.now a.z2.now a.z3.now) a.y.now a.cont.now _ _ c.if-err-words.true
      c.plus.ensures c.ask_derivative.ensures.doubles_after;
}

pub returns : goal.returns
returns c = let a = c.args in record {
  sized_2 = c.judge.ensures.sized_2;
  cont_after = c.judge.ensures.cont_after
      ∙ tested-judged (run_at a.words.now a.doubles.now) a.err
      (three a.z1.now a.z2.now a.z3.now) a.y.now a.cont.now c.if-err-words.false;
}
