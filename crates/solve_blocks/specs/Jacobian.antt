-- The Jacobian: asked of the host, or made by differences of derivatives, one request for each column and one at the
-- point itself (radau.rs:370-374; ivp.rs:67-107).
use Rattle.std.specs.Prelude.{ℕ, suc, zero, ◌+◌, true, List, ltb, set, Float}
use Rattle.words.specs.Words.{◌⊕◌, ◌⊖◌, ◌⊗◌, ◌⊘◌, ◌!◌}
use Rattle.words.specs.Constants.{«1·0», «2^-26»}
use Rattle.words.specs.Loop.{loop, pick}
use Rattle.words.specs.Grid.{put}
use Rattle.scalar.specs.Order.{abs_of, max_of}
use Rattle.state.specs.declared.settings.Source.{Source}
use Rattle.state.specs.declared.settings.Source.TheVariants as source
use Rattle.state.specs.declared.run.Run.{Run}
use Rattle.state.specs.declared.run.Stage.TheVariants as stage
use Rattle.state.specs.declared.talk.Request.TheVariants as request
use Rattle.state.specs.declared.talk.Place.TheVariants.{Nowhere, YToFOrigin, YPerturbedToFPerturbed}
use Rattle.state.specs.Memory.{Differences, differences, zeros}
use Rattle.state.specs.declared.talk.Call.{Call}
use Rattle.solve_blocks.specs.declared.step.Step.{Step}
use Rattle.solve_blocks.specs.declared.step.Step.TheVariants as step
use Rattle.solve_blocks.specs.Setters.{◌▸◌, in_counts, in_control, at_stage, one_jac, set_here}
use Rattle.state.specs.Talk.{call}

pub record Asking : Type 0 where
  pub call : Call
  pub differences : Differences

abbrev pub asking : Call → Differences → Asking
asking c d = record { call = c; differences = d }

-- a Jacobian is counted with its first request, and is one of the present point from there on
abbrev pub asked_here : Run → Run
asked_here r = r ▸ in_counts one_jac ▸ in_control (set_here true)

-- a copy of y, and zeros, are made anew for each Jacobian [ivp.rs:73-80]
unfoldable pub ask_jacobian_by : Source → Run → List Float → Differences → Asking
ask_jacobian_by source.Host r y d =
    asking (call (r ▸ asked_here ▸ at_stage stage.Jacobian) (request.Jacobian r.numbers.x) Nowhere) d
ask_jacobian_by source.Differences r y d =
    asking (call (r ▸ asked_here ▸ at_stage (stage.Column 0)) (request.Derivative r.numbers.x) YToFOrigin)
    (differences y (zeros r.shape.n) (zeros r.shape.n))

abbrev pub ask_jacobian_of : Run → List Float → Differences → Asking
ask_jacobian_of r y d = ask_jacobian_by r.settings.source r y d

-- [ivp.rs:87-91]
unfoldable pub perturbation : Float → Float
-- the root of 2^-52 is 2^-26 [ivp.rs:82-83]
perturbation y = «2^-26» ⊗ max_of (abs_of y) «1·0»

pub record Columned : Type 0 where
  pub step : Step
  pub y_perturbed : List Float
  pub jac : List Float

abbrev pub columned : Step → List Float → List Float → Columned
columned s yp jac = record { step = s; y_perturbed = yp; jac = jac }

-- amount col is moved, and the derivative there asked [ivp.rs:93-97]
unfoldable pub ask_column_of : Run → ℕ → List Float → List Float → List Float → Columned
ask_column_of r col y yp jac =
    columned (step.Asked
    (call (r ▸ at_stage (stage.Column (col + 1))) (request.Derivative r.numbers.x) YPerturbedToFPerturbed))
    (set yp col (y ! col ⊕ perturbation (y ! col))) jac

-- [ivp.rs:104-107]
unfoldable pub column_at : ℕ → ℕ → Float → List Float → List Float → ℕ → List Float → List Float
column_at n col p fp fo row jac = put jac n row col ((fp ! row ⊖ fo ! row) ⊘ p)

-- the derivative at the point (column 0) or of a column is there; the next is asked, or the Jacobian is made
unfoldable pub column_of : ℕ → Run → List Float → List Float → List Float → List Float → List Float → Columned
-- [ivp.rs:85-86]
column_of zero r y yp fp fo jac = ask_column_of r 0 y yp jac
-- [ivp.rs:99-103]
column_of (suc col) r y yp fp fo jac =
    let n = r.shape.n in
    let restored = set yp col (y ! col) in
    let filled = loop (column_at n col (perturbation (y ! col)) fp fo) 0 n jac in
    pick (ltb (col + 1) n) (ask_column_of r (col + 1) y restored filled) (columned (step.Matrices r) restored filled)
