-- What each block hands on, with the changes made in it, and what is asked of a change of the rule.
use mathlib.Core.Path.{◌≡◌}
use Rattle.state.specs.declared.run.Run.{Run}
use Rattle.solve_blocks.specs.declared.step.Heard.{Heard}
use Rattle.solve_blocks.specs.declared.step.Heard.TheVariants as heard
use Rattle.solve_blocks.specs.declared.step.Round.{Round}
use Rattle.solve_blocks.specs.declared.step.Round.TheVariants as round
use Rattle.solve_blocks.specs.declared.step.Step.{Step}
use Rattle.solve_blocks.specs.declared.step.Step.TheVariants as step
use Rattle.solve_blocks.specs.Matrices.{missed_of, Tried, tried}
use Rattle.solve_blocks.specs.Attempt.{Begun, begun_as}
use Rattle.solve_blocks.specs.Newton.{slow_round, RoundDone, round_done, Resumed, resumed}
use Rattle.solve_blocks.specs.Judge.{Judged, judged, Estimated, estimated}
use Rattle.solve_blocks.specs.Jacobian.{Asking, asking, Columned, columned}
use Rattle.solve_blocks.specs.Advance.{Stepped, stepped}
use Rattle.solve_beside.specs.Changes.{Changes, run_by, memory_by, call_by}

module _ (c : Changes) where
  abbrev pub on_step : Step → Step
  on_step (step.Asked a) = step.Asked (call_by c a)
  on_step (step.Main r) = step.Main (run_by c r)
  on_step (step.Matrices r) = step.Matrices (run_by c r)
  on_step (step.Attempt r) = step.Attempt (run_by c r)

  abbrev pub on_round : Round → Round
  on_round (round.Newton r) = round.Newton (run_by c r)
  on_round (round.Estimate r) = round.Estimate (run_by c r)
  on_round (round.Over s) = round.Over (on_step s)

  abbrev pub on_heard : Heard → Heard
  on_heard (heard.Asked a) = heard.Asked (call_by c a)
  on_heard (heard.Reported r) = heard.Reported (run_by c r)

  abbrev pub on_tried : Tried → Tried
  on_tried t = tried (on_step t.step) t.factors

  abbrev pub on_begun : Begun → Begun
  on_begun b = begun_as (call_by c b.call) b.scal b.cont b.newton

  abbrev pub on_round_done : RoundDone → RoundDone
  on_round_done v = round_done (on_round v.round) v.newton

  abbrev pub on_resumed : Resumed → Resumed
  on_resumed a = resumed (on_step a.step) a.cont

  abbrev pub on_judged : Judged → Judged
  on_judged j = judged (on_step j.step) j.y j.cont

  abbrev pub on_estimated : Estimated → Estimated
  on_estimated j = estimated (on_step j.step) j.y j.cont j.f1 j.f2

  abbrev pub on_columned : Columned → Columned
  on_columned d = columned (on_step d.step) d.y_perturbed (c.jac d.jac)

  abbrev pub on_asking : Asking → Asking
  on_asking a = asking (call_by c a.call) a.differences

  abbrev pub on_stepped : Stepped → Stepped
  on_stepped t = stepped (on_step t.step) (memory_by c t.memory)

  -- each definition that looks at the rule goes the same way under both
  pub record RuleSame : Type 0 where
    -- an attempt that failed
    pub missed : (r : Run) → missed_of (run_by c r) ≡ run_by c (missed_of r)
    -- a slow round
    pub slow : (r : Run)
        → slow_round (c.rule r.settings.rule) (run_by c r) ≡ on_round (slow_round r.settings.rule r)
