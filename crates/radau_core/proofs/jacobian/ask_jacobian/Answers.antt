-- `ask_jacobian` meets its contract.
use mathlib.Core.Path.{◌≡◌, ap, sym, ◌∙◌}
use Rattle.state.specs.declared.run.Run.{Run}
use Rattle.state.specs.declared.run.Stage.TheVariants as stage
use Rattle.state.specs.declared.talk.Place.{Place}
use Rattle.state.specs.declared.talk.Request.{Request}
use Rattle.state.specs.Memory.{Differences, differences}
use Rattle.solve_blocks.specs.Setters.{at_stage}
use Rattle.state.specs.Talk.{call}
use Rattle.solve_blocks.specs.Jacobian.{asking, ask_jacobian_by}
use Rattle.solve_blocks.proofs.JacobianLaws.{asked_by}
use Rattle.radau_core.specs.Places.{run_at}
use Rattle.radau_core.proofs.jacobian.ask_jacobian.Goals as goal

same-but-run : {q : Request} {p : Place} {d : Differences} {r s : Run} → r ≡ s
    → asking (call r q p) d ≡ asking (call s q p) d
same-but-run {q} {p} {d} e = ap (λ (r : Run). asking (call r q p) d) e

pub at_stage-requires : goal.at_stage-requires
at_stage-requires c = c.wanted.ensures.sized_2

pub at_stage-requires-in-Differences : goal.at_stage-requires-in-Differences
at_stage-requires-in-Differences c = c.wanted.ensures.sized_2

pub returns-in-Host : goal.returns-in-Host
unfolding ask_jacobian_by
returns-in-Host c = let a = c.args in record {
  sized_2 = c.at_stage.ensures.sized;
  f_origin_after = asked_by (run_at a.words.now a.doubles.now) a.y.now
      (differences a.y_perturbed.now a.f_perturbed.now a.f_origin.now)
      (sym c.source_mode-source.ensures ∙ c.in-Host.is)
      (same-but-run (c.at_stage.ensures.doubles_after ∙ ap (at_stage stage.Jacobian) c.wanted.ensures.doubles_after));
}

pub returns-in-Differences : goal.returns-in-Differences
unfolding ask_jacobian_by
returns-in-Differences c = record {
  sized_2 = c.at_stage-in-Differences.ensures.sized;
  f_origin_after = asked_by _ _ _ (sym c.source_mode-source.ensures ∙ c.in-Differences.is)
      (rw (
        c.zero-in-Differences.ensures,
        c.zero.ensures,
        c.copy.ensures,
        c.requires.words_bound.3,
        c.requires.words_bound.4,
      )
      (same-but-run (c.at_stage-in-Differences.ensures.doubles_after ∙ ap (at_stage (stage.Column 0))
      c.wanted.ensures.doubles_after)));
}
