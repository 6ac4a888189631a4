-- The attempt is judged by its error: the next step, an acceptance or a rejection (radau.rs:649-712, 780-795).
use Rattle.std.specs.Prelude.{ℕ, ◌+◌, ◌*◌, false, ◌&&◌, ◌||◌, List, [], ◌∷◌, ltb, set, Float, None, Some, Option}
use Rattle.std.specs.Float.Ieee.{le, is_nan}
use Rattle.words.specs.Words.{◌⊕◌, ◌⊖◌, ◌⊗◌, ◌⊘◌, ◌!◌}
use Rattle.words.specs.Constants.{«1·0», «2·0», «0·1», «1e-2»}
use Rattle.words.specs.Loop.{loop, pick}
use Rattle.scalar.specs.Order.{abs_of, max_of, min_of}
use Rattle.scalar.specs.Powers.{quarter_of}
use Rattle.scalar.specs.Coefficients.{C1, C2, C1M1, C2M1, C1MC2}
use Rattle.state.specs.declared.settings.Settings.{Settings}
use Rattle.state.specs.declared.run.Run.{Run}
use Rattle.state.specs.declared.run.Stage.TheVariants as stage
use Rattle.state.specs.declared.talk.Place.TheVariants.{YToF0, ContToF1}
use Rattle.state.specs.Memory.{Newton}
use Rattle.state.specs.declared.talk.Call.{Call}
use Rattle.solve_blocks.specs.declared.step.Step.{Step}
use Rattle.solve_blocks.specs.declared.step.Step.TheVariants as step
use Rattle.solve_blocks.specs.Setters.{◌▸◌, in_counts, in_control, in_numbers, in_notes}
use Rattle.solve_blocks.specs.Setters.{one_lu, one_accepted, one_rejected, set_first, set_here, set_x, set_xold}
use Rattle.solve_blocks.specs.Setters.{set_h, set_hold, set_hnew, set_hhfac, set_h_acc, set_err_acc, set_strides}
use Rattle.solve_blocks.specs.Events.{error-solve, failed, accepted, Logged, logged, quiet, noted}
use Rattle.solve_blocks.specs.Entries.{as_float, Three, three}
use Rattle.solve_blocks.specs.Matrices.{ask_derivative, missed_of}
use Rattle.solve_blocks.specs.Estimate.{defect_of, sides, sides_of, solved_first, error_of, plus_at, sum_at}
use Rattle.state.specs.declared.run.Strides.{Strides}
use Rattle.state.specs.Talk.{stride_pair}

-- ---- the step that the error asks for

-- [radau.rs:167]
abbrev pub facl : Settings → Float
facl s = «1·0» ⊘ s.scale_min

-- [radau.rs:168]
abbrev pub facr : Settings → Float
facr s = «1·0» ⊘ s.scale_max

-- [radau.rs:308]
abbrev pub cfac : Settings → Float
cfac s = s.safety_factor ⊗ («1·0» ⊕ «2·0» ⊗ as_float s.newton_maxiter)

-- [radau.rs:671-672]
unfoldable pub fac_of : Settings → ℕ → Float
fac_of s newt = min_of s.safety_factor (cfac s ⊘ (as_float newt ⊕ «2·0» ⊗ as_float s.newton_maxiter))

-- between facr and facl (radau.rs:673, 686)
unfoldable pub between : Settings → Float → Float
between s q = max_of (facr s) (min_of (facl s) q)

-- [radau.rs:673]
unfoldable pub quot_of : Settings → ℕ → Float → Float
quot_of s newt err = between s (quarter_of err ⊘ fac_of s newt)

-- the predictive controller, from the second acceptance on; `accepted` counts this one too [radau.rs:681-689]
unfoldable pub predictive_quot : Run → Float → Float → Float
predictive_quot r err quot =
    let s = r.settings in
    let facgus = (r.numbers.h_acc ⊘ r.numbers.h)
    ⊗ quarter_of (err ⊗ err ⊘ r.numbers.err_acc) ⊘ s.safety_factor in
    pick (s.predictive && ltb 1 (r.counts.accepted + 1)) (max_of quot (between s facgus)) quot

-- ---- an acceptance

pub record Moved : Type 0 where
  pub y : List Float
  pub cont : List Float

abbrev pub moved : List Float → List Float → Moved
moved y cont = record { y = y; cont = cont }

-- [radau.rs:701-708]
unfoldable pub move_at : ℕ → Three → ℕ → Moved → Moved
move_at n z i m =
    let y = m.y ! i ⊕ z.three ! i in
    let ak = (z.one ! i ⊖ z.two ! i) ⊘ C1MC2 in
    let acont3 = (ak ⊖ z.one ! i ⊘ C1) ⊘ C2 in
    let c1 = (z.two ! i ⊖ z.three ! i) ⊘ C2M1 in
    let c2 = (ak ⊖ c1) ⊘ C1M1 in
    moved (set m.y i y) (set (set (set (set m.cont i y) (n + i) c1) (2 * n + i) c2) (3 * n + i) (c2 ⊖ acont3))

-- the new amounts and the coefficients of the dense output [radau.rs:699-700]
unfoldable pub moved_of : ℕ → Three → Moved → Moved
moved_of n z m = loop (move_at n z) 0 n m

-- what the predictive controller remembers [radau.rs:690-692]
abbrev pub remembered : Float → Run → Run
remembered err r =
    pick r.settings.predictive
    (r ▸ in_numbers (set_h_acc r.numbers.h) ▸ in_numbers (set_err_acc (max_of err «1e-2»)))
    r

-- the smallest and the largest with one stride more (02, [7]): 'a NaN is passed over', which min_of and max_of do too
unfoldable pub with_stride : Float → Option Strides → Option Strides
with_stride a None = pick (is_nan a) None (Some (stride_pair a a))
with_stride a (Some s) = Some (stride_pair (min_of s.smallest a) (max_of s.largest a))

-- 'h is the one held when the attempt is accepted'
abbrev pub strode : Run → Run
strode r = r ▸ in_notes (set_strides (with_stride (abs_of r.numbers.h) r.notes.strides))

-- what every acceptance leaves in the run, whatever its error was
abbrev pub accepted_point : Run → Run
accepted_point r =
    -- [radau.rs:677-679]
    r ▸ in_counts one_accepted
    ▸ in_control (set_first false)
    -- the Jacobian in hand is now one of another point
    ▸ in_control (set_here false)
    -- [radau.rs:694-697]
    ▸ in_numbers (set_xold r.numbers.x)
    ▸ in_numbers (set_hold r.numbers.h)
    ▸ in_numbers (set_x r.numbers.xph)
    ▸ strode

unfoldable pub accepted_of : Run → Float → Float → Run
accepted_of r err quot =
    r ▸ in_numbers (set_hnew (r.numbers.h ⊘ predictive_quot r err quot)) ▸ remembered err ▸ accepted_point

-- the derivative at the new point is asked [radau.rs:710-712]
abbrev pub ask_accepted : Run → Call
ask_accepted r = ask_derivative r stage.Accepted r.numbers.x YToF0

-- ---- a rejection

-- [radau.rs:780-795]
unfoldable pub rejected_of : Run → Float → Run
rejected_of r hnew =
    pick r.control.first
    (r ▸ in_numbers (set_h (r.numbers.h ⊗ «0·1»)) ▸ in_numbers (set_hhfac «0·1») ▸ missed_of)
    (r ▸ in_numbers (set_hhfac (hnew ⊘ r.numbers.h)) ▸ in_numbers (set_h hnew) ▸ in_counts one_rejected ▸ missed_of)

-- ---- the judgement

pub record Judged : Type 0 where
  pub step : Step
  pub y : List Float
  pub cont : List Float

abbrev pub judged : Step → List Float → List Float → Judged
judged s y cont = record { step = s; y = y; cont = cont }

-- [radau.rs:674-676]
unfoldable pub judged_of : Run → Float → Three → List Float → List Float → Logged Judged
judged_of r err z y cont =
    let quot = quot_of r.settings r.control.newt_iter err in
    let m = moved_of r.shape.n z (moved y cont) in
    let hnew = r.numbers.h ⊘ quot in
    pick (le err «1·0»)
    (logged (judged (step.Asked (ask_accepted (accepted_of r err quot))) m.y m.cont)
    (accepted err r.numbers.h ∷ []))
    (logged (judged (step.Main (rejected_of (r ▸ in_numbers (set_hnew hnew)) hnew)) y cont) (failed err ∷ []))

-- ---- the estimate

pub record Estimated : Type 0 where
  pub step : Step
  pub y : List Float
  pub cont : List Float
  pub f1 : List Float
  pub f2 : List Float

abbrev pub estimated : Step → List Float → List Float → List Float → List Float → Estimated
estimated s y cont f1 f2 = record { step = s; y = y; cont = cont; f1 = f1; f2 = f2 }

abbrev pub with_judged : List Float → List Float → Logged Judged → Logged Estimated
with_judged f1 f2 l = logged (estimated l.core.step l.core.y l.core.cont f1 f2) l.log

-- the derivative that refines an error, at the old x [radau.rs:653-654]
abbrev pub ask_refinement : Run → Call
ask_refinement r = ask_derivative r stage.Refinement r.numbers.x ContToF1

-- before the first acceptance and after a rejection an error that is too large is refined [radau.rs:648-649]
unfoldable pub tested_of : Run → Float → Three → List Float → List Float → Logged Judged
tested_of r err z y cont =
    pick (le «1·0» err && (r.control.first || r.control.reject))
    (quiet (judged (step.Asked (ask_refinement r)) y (loop (plus_at y) 0 r.shape.n cont)))
    (judged_of r err z y cont)

-- the first estimate (radau.rs:622-646); its solve counts as a decomposition [radau.rs:638]
unfoldable pub estimate_of : Run → List Float → List Float → List ℕ → List Float
    → List Float → List Float → List Float → Newton → Logged Estimated
estimate_of r mass e1 ip1 f0 scal y cont m =
    let n = r.shape.n in
    let z = three m.z1 m.z2 m.z3 in
    let f1 = defect_of n r.numbers.h z m.f1 in
    let s = sides_of r.settings.mass n mass f0 f1 (sides m.f2 cont) in
    let c = solved_first n e1 ip1 s.cont in
    noted error-solve (with_judged f1 s.f2 (tested_of (r ▸ in_counts one_lu) (error_of n scal c) z y c))

-- the second, from the derivative that was asked (radau.rs:656-668); not counted
unfoldable pub refined_of : Run → List Float → List ℕ → List Float → List Float → List Float → Newton → Logged Judged
refined_of r e1 ip1 scal y cont m =
    let n = r.shape.n in
    let c = solved_first n e1 ip1 (loop (sum_at m.f1 m.f2) 0 n cont) in
    judged_of r (error_of n scal c) (three m.z1 m.z2 m.z3) y c
