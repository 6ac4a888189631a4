-- `solve` past its checks, in direct style, to be held beside radau.rs:330-798: the pieces stand in the order of
-- the text, and main_of and solve_of put them together. A piece is given the run, the world, and what follows: `next`
-- is the text below it, `main` is `continue 'main`; `break 'main` is `finished`. Rust's calls of `derivative`,
-- `jac` and `solout` are `ask`; what is computed between two of them are the definitions of `solve_blocks`, which
-- hold the floating-point text.
use Rattle.std.specs.Prelude.{ℕ, zero, suc, ◌+◌, ◌<◌, ◌&&◌, ◌||◌, ◌≡◌, List, [], ltb, length, set, Float, Some}
use Rattle.std.specs.Float.Ieee.{le}
use Rattle.words.specs.Words.{◌⊕◌, ◌⊗◌, ◌⊘◌, ◌!◌}
use Rattle.words.specs.Constants.{«1·0», «0·1»}
use Rattle.words.specs.Loop.{loop, pick}
use Rattle.scalar.specs.Order.{abs_of}
use Rattle.scalar.specs.Coefficients.{C1, C2}
use Rattle.state.specs.declared.settings.Source.{Source}
use Rattle.state.specs.declared.settings.Source.TheVariants as source
use Rattle.state.specs.declared.run.Run.{Run}
use Rattle.state.specs.declared.run.Stage.{Stage}
use Rattle.state.specs.declared.run.Stage.TheVariants as stage
use Rattle.state.specs.declared.run.Status.{Status}
use Rattle.state.specs.declared.run.Status.TheVariants as status
use Rattle.state.specs.declared.talk.Place.{Place}
use Rattle.state.specs.declared.talk.Place.TheVariants as place
use Rattle.state.specs.declared.talk.Reply.{Reply}
use Rattle.state.specs.declared.talk.Reply.TheVariants as reply
use Rattle.state.specs.declared.talk.Request.TheVariants as request
use Rattle.state.specs.Memory.{Memory}
use Rattle.state.specs.MemorySetters.{set_scal, set_cont, set_y_cont, set_f12, set_newton, set_factors, set_differences}
use Rattle.state.specs.MemorySetters.{set_column}
use Rattle.state.specs.declared.talk.Call.{Call}
use Rattle.solve_blocks.specs.declared.step.Round.{Round}
use Rattle.solve_blocks.specs.declared.step.Round.TheVariants as round
use Rattle.solve_blocks.specs.declared.step.Step.{Step}
use Rattle.solve_blocks.specs.declared.step.Step.TheVariants as step
use Rattle.solve_blocks.specs.Setters.{◌▸◌, in_counts, in_numbers, at_stage}
use Rattle.solve_blocks.specs.Setters.{one_lu, one_total, set_hnew, set_xout}
use Rattle.solve_blocks.specs.Entries.{three}
use Rattle.solve_blocks.specs.Scale.{weighted_of}
use Rattle.solve_blocks.specs.Matrices.{ended_of, failed_of, tried_of}
use Rattle.state.specs.Talk.{call}
use Rattle.solve_blocks.specs.Jacobian.{ask_jacobian_of, perturbation, column_at}
use Rattle.solve_blocks.specs.Attempt.{ask_stage_of, guess_of, started}
use Rattle.solve_blocks.specs.Newton.{round_of}
use Rattle.solve_blocks.specs.Estimate.{defect_of, sides, sides_of, solved_first, error_of, plus_at, sum_at}
use Rattle.solve_blocks.specs.Judge.{moved, moved_of, quot_of, accepted_of, ask_accepted, rejected_of, ask_refinement}
use Rattle.solve_blocks.specs.Report.{ask_first_report, ask_report, ask_modified, arrived_of}
use Rattle.solve_blocks.specs.Advance.{rescaled}
use Rattle.solve_whole.specs.Talk.{Host, World, world, on_memory, ask, reply_of}

-- `solve` has returned (radau.rs:342-347, 798): the run, with its status, step and counts, and the world; or 'main was
-- begun as often as was allowed
pub data Result : Type 0 where
  finished : Run → World → Result
  unfinished : Result

-- what follows a piece
abbrev pub Next : Type 0
Next = Run → World → Result

-- `break 'main` with a status
abbrev pub broken : Status → Next
broken s r w = finished (ended_of s r).run w

-- out of a block that may break 'main, and then stands at the end, or continue it
unfoldable pub onward : Step → World → Next → Next → Result
onward (step.Asked c) w main next = finished c.run w
onward (step.Main r) w main next = main r w
onward (step.Matrices r) w main next = next r w
onward (step.Attempt r) w main next = next r w

-- past a round of the Newton iteration
unfoldable pub past_round : Round → World → Next → Next → Next → Result
past_round (round.Newton r) w main again next = again r w
past_round (round.Estimate r) w main again next = next r w
past_round (round.Over s) w main again next = onward s w main main

module _ (host : Host) where
  -- ---- a report

  -- its reply: Rust's ControlFlag (radau.rs:340-357, 729-742); `again` is the stage of the derivative that
  -- a modified point asks for
  unfoldable pub replied : Stage → Reply → Run → World → Next → Result
  replied again reply.Filled r w next = next r w
  replied again reply.Continue r w next = next r w
  replied again reply.Interrupt r w next = broken status.UserInterrupt r w
  replied again (reply.Modified x) r w next =
      let c = ask_modified again x r in
      next c.run (ask host c w)
  replied again (reply.Mark xo) r w next = next (r ▸ in_numbers (set_xout (Some xo))) w

  -- a call of `solout`
  abbrev pub report : Stage → Call → World → Next → Result
  report again c w next = replied again (reply_of host c w) c.run (ask host c w) next

  -- ---- the Jacobian

  -- the columns of a difference Jacobian from col on, k of them (ivp.rs:85-106)
  unfoldable pub columns : ℕ → ℕ → Run → World → Next → Result
  columns zero col r w next = next r w
  columns (suc k) col r w next =
      let n = r.shape.n in
      let y = w.memory.amounts.y in
      let p = perturbation (y ! col) in
      let c =
      call (r ▸ at_stage (stage.Column (col + 1))) (request.Derivative r.numbers.x) place.YPerturbedToFPerturbed in
      let v = ask host c (w
      ▸ on_memory (set_column (set w.memory.differences.y_perturbed col (y ! col ⊕ p)) w.memory.given.jac)) in
      let d = v.memory.differences in
      let jac = loop (column_at n col p d.f_perturbed d.f_origin) 0 n v.memory.given.jac in
      columns k (col + 1) c.run (v ▸ on_memory (set_column (set d.y_perturbed col (y ! col)) jac)) next

  -- `jac`: the host's own, or the default's differences (ivp.rs:73-107)
  unfoldable pub jacobian_by : Source → Run → World → Next → Result
  jacobian_by source.Host r w next = next r w
  jacobian_by source.Differences r w next = columns r.shape.n 0 r w next

  -- where one is wanted (radau.rs:370-374); the first call is the host's Jacobian, or the
  -- derivative at the point itself
  unfoldable pub jacobian : Run → World → Next → Result
  jacobian r w next =
      let a = ask_jacobian_of r w.memory.amounts.y w.memory.differences in
      pick r.control.call_jac
      (jacobian_by r.settings.source a.call.run
      (ask host a.call (w ▸ on_memory (set_differences a.differences))) next)
      (next r w)

  -- ---- the matrices

  -- where they are wanted, and their decompositions (radau.rs:376-419)
  unfoldable pub matrices : Run → World → Next → Next → Result
  matrices r w main next =
      let m = w.memory in
      let t = (tried_of r m.given.mass m.given.jac m.factors).core in
      onward t.step (w ▸ on_memory (set_factors t.factors)) main next

  -- ---- the attempt

  -- its guards, the scale, and the first guess of the stages (radau.rs:421-482)
  unfoldable pub attempt : Run → World → Next → Result
  attempt r w next =
      let s = r ▸ in_counts one_total in
      let m = w.memory in
      let scal = weighted_of s.shape s.numbers.hhfac m.amounts.scal in
      let guess =
      guess_of s.control.first s.shape.n s.numbers.h s.numbers.hold m.amounts.cont m.newton in
      pick (ltb r.settings.max_steps (r.counts.total + 1)) (broken status.NeedLargerNMax s w)
      (pick (le («0·1» ⊗ abs_of r.numbers.h) (abs_of r.numbers.x ⊗ r.settings.uround))
      (broken status.StepSizeTooSmall s w)
      (next (started s) (w ▸ on_memory (set_scal scal) ▸ on_memory (set_newton guess))))

  -- ---- the Newton iteration

  -- the derivative of a stage: at x, of the amounts y + z (radau.rs:499-510)
  abbrev pub staged : Stage → Float → Place → List Float → Run → World → Next → Result
  staged s x p z r w next =
      let a = ask_stage_of r s x p w.memory.amounts.y z w.memory.amounts.cont in
      next a.call.run (ask host a.call (w ▸ on_memory (set_cont a.cont)))

  -- 'newton, k rounds being left of max_newton (radau.rs:483-620); with none left the attempt has
  -- failed (radau.rs:484-497)
  unfoldable pub newton : ℕ → Run → World → Next → Next → Result
  newton zero r w main next = onward (failed_of r) w main main
  newton (suc k) r w main next =
      staged stage.Newton1 (r.numbers.x ⊕ C1 ⊗ r.numbers.h) place.ContToZ1 w.memory.newton.z1 r w (λ r w.
      staged stage.Newton2 (r.numbers.x ⊕ C2 ⊗ r.numbers.h) place.ContToZ2 w.memory.newton.z2 r w (λ r w.
      staged stage.Newton3 r.numbers.xph place.ContToZ3 w.memory.newton.z3 r w (λ r w.
      let m = w.memory in
      let v = (round_of r m.given.mass m.amounts.scal m.factors m.newton).core in
      past_round v.round (w ▸ on_memory (set_newton v.newton)) main (λ r w. newton k r w main next) next)))

  -- ---- the error

  -- the estimate (radau.rs:622-646)
  unfoldable pub estimate : Run → World → (Float → Next) → Result
  estimate r w next =
      let n = r.shape.n in
      let m = w.memory in
      let f1 = defect_of n r.numbers.h (three m.newton.z1 m.newton.z2 m.newton.z3) m.newton.f1 in
      let s =
      sides_of r.settings.mass n m.given.mass m.amounts.f0 f1 (sides m.newton.f2 m.amounts.cont) in
      let cont = solved_first n m.factors.e1 m.factors.ip1 s.cont in
      next (error_of n m.amounts.scal cont) (r ▸ in_counts one_lu)
      (w ▸ on_memory (set_cont cont) ▸ on_memory (set_f12 f1 s.f2))

  -- one derivative more where it is too large, before the first acceptance and after a rejection (radau.rs:648-669)
  unfoldable pub refine : Float → Run → World → (Float → Next) → Result
  refine err r w next =
      let n = r.shape.n in
      let c = ask_refinement r in
      let v =
      ask host c (w ▸ on_memory (set_cont (loop (plus_at w.memory.amounts.y) 0 n w.memory.amounts.cont))) in
      let m = v.memory in
      let cont = solved_first n m.factors.e1 m.factors.ip1
      (loop (sum_at m.newton.f1 m.newton.f2) 0 n m.amounts.cont) in
      pick (le «1·0» err && (r.control.first || r.control.reject))
      (next (error_of n m.amounts.scal cont) c.run (v ▸ on_memory (set_cont cont)))
      (next err r w)

  -- ---- the judgement

  -- the new step, and an acceptance (radau.rs:671-708) or a rejection (radau.rs:671-673, 780-795)
  unfoldable pub judge : Float → Run → World → Next → Next → Result
  judge err r w main next =
      let m = w.memory in
      let quot = quot_of r.settings r.control.newt_iter err in
      let v = moved_of r.shape.n (three m.newton.z1 m.newton.z2 m.newton.z3)
      (moved m.amounts.y m.amounts.cont) in
      let hnew = r.numbers.h ⊘ quot in
      pick (le err «1·0»)
      (next (accepted_of r err quot) (w ▸ on_memory (set_y_cont v.y v.cont)))
      (main (rejected_of (r ▸ in_numbers (set_hnew hnew)) hnew) w)

  -- the derivative at the new point, the scale, and the report (radau.rs:710-743)
  unfoldable pub arrive : Run → World → Next → Result
  arrive r w next =
      let c = ask_accepted r in
      report stage.DerivativeAgain (ask_report c.run) (ask host c w ▸ on_memory (rescaled c.run)) next

  -- ---- the whole

  -- 'main (radau.rs:369-796), begun at most so often; the last line is the end or the next step (radau.rs:745-779)
  unfoldable pub main_of : ℕ → Next
  main_of zero r w = unfinished
  main_of (suc fuel) r w =
      let main = main_of fuel in
      jacobian r w (λ r w.
      matrices r w main (λ r w.
      attempt r w (λ r w.
      newton r.settings.newton_maxiter r w main (λ r w.
      estimate r w (λ err r w.
      refine err r w (λ err r w.
      judge err r w main (λ r w.
      arrive r w (λ r w.
      onward (arrived_of r).core w main main))))))))

  -- the first derivative (radau.rs:331-332), the first report (radau.rs:338-358), the error scale
  -- (radau.rs:363-366), and 'main
  unfoldable pub solve_of : ℕ → Run → Memory → Result
  solve_of fuel r m =
      let w = ask host (call r (request.Derivative r.numbers.x) place.YToF0) (world m []) in
      report stage.FirstDerivativeAgain (ask_first_report r) w (λ r w. main_of fuel r (w ▸ on_memory (rescaled r)))

-- `solve` returns, with the run e and the world w: so it finishes, given passes enough
pub record Returns (host : Host) (r : Run) (m : Memory) (e : Run) (w : World) : Type 0 where
  pub passes : ℕ
  pub is : solve_of host passes r m ≡ finished e w

-- it returns, with fewer than `most` calls of the host
pub record ReturnsWithin (most : ℕ) (host : Host) (r : Run) (m : Memory) : Type 0 where
  pub run : Run
  pub world : World
  pub returns : Returns host r m run world
  pub few : length world.exchanges < most
