-- `stopping` meets its contract.
use Prim.Native.Nat.{◌≤◌}
use mathlib.Core.Path.{sym, subst, ap, ◌∙◌}
use Rattle.state.specs.declared.run.Run.{Run}
use Rattle.solve_blocks.specs.Matrices.{failed_of}
use Rattle.radau_core.proofs.passes.stopping.Goals as goal

pub failed-requires : goal.failed-requires
failed-requires c = record {
  sized = c.noted.ensures.sized;
  singular_count_bound = subst (λ (r : Run). r.control.singular_count ≤ 5) (sym c.noted.ensures.doubles_after)
      c.requires.singular_count_bound;
}

pub returns : goal.returns
returns c = record {
  sized_2 = c.failed.ensures.sized_2;
  doubles_after = c.failed.ensures.doubles_after ∙ ap failed_of c.noted.ensures.doubles_after;
}
