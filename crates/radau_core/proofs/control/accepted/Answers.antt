-- `accepted` meets its contract: the way is that of solve_blocks/proofs/JudgeLaws.antt.
use mathlib.Core.Path.{refl, ap}
use lib.ListN.{length-set}
use native.Mathlib.Omega.{arith}
use Rattle.state.specs.declared.run.Counts.{Counts}
use Rattle.solve_blocks.proofs.JudgeLaws.{accepted-by, remembered-counts}
use Rattle.radau_core.specs.Places.{run_at}
use Rattle.radau_core.proofs.PlaceLaws.{doubles-at, resized}
use Rattle.radau_core.proofs.control.accepted.Goals as goal

pub remembered-requires : goal.remembered-requires
remembered-requires c = resized c.requires.sized refl (simp length-set)

pub accepted_point-requires : goal.accepted_point-requires
accepted_point-requires c = record {
  sized = c.remembered.ensures.sized;
  doubles_bound = omega (
    arith,
    ap (λ (k : Counts). k.accepted) (remembered-counts _ _ _ c.remembered.ensures.doubles_after),
    c.requires.doubles_bound,
  );
}

pub returns : goal.returns
returns c = record {
  sized_2 = c.accepted_point.ensures.sized_2;
  doubles_after = accepted-by (run_at c.args.words.now c.args.doubles.now) c.args.err c.args.quot
      _ _ _ c.predictive_quot.ensures
      (rw (doubles-at c.requires.sized) at c.remembered.ensures.doubles_after)
      c.accepted_point.ensures.doubles_after;
}
