-- An opening: refused by the first row that holds, and then nothing is written; else the run stands before its first
-- request. Follows radau.rs:131-329 past its tests, which are specs/Rows.antt.
use Rattle.std.specs.Prelude.{ℕ, ◌-◌, ◌*◌, true, false, List, Float, None, Some, Option, Ok, Err}
use Rattle.std.specs.Float.Ieee.{neg}
use Rattle.words.specs.Words.{◌⊖◌, ◌⊗◌}
use Rattle.words.specs.Constants.{«0·0», «1·0», «1·0e-6»}
use Rattle.scalar.specs.Order.{abs_of, clamp_of, signum_of}
use Rattle.state.specs.declared.settings.Settings.{Settings}
use Rattle.state.specs.declared.settings.Mass.{Mass}
use Rattle.state.specs.declared.settings.Mass.TheVariants as mass
use Rattle.state.specs.declared.run.Shape.{Shape}
use Rattle.state.specs.declared.run.Fixed.{Fixed}
use Rattle.state.specs.declared.run.Counts.{Counts}
use Rattle.state.specs.declared.run.Control.{Control}
use Rattle.state.specs.declared.run.Numbers.{Numbers}
use Rattle.state.specs.declared.run.Notes.{Notes}
use Rattle.state.specs.declared.run.Run.{Run}
use Rattle.state.specs.declared.run.Stage.TheVariants.{FirstDerivative}
use Rattle.state.specs.declared.talk.Request.TheVariants.{Derivative}
use Rattle.state.specs.declared.talk.Place.TheVariants.{YToF0}
use Rattle.state.specs.Settings.{or_none}
use Rattle.state.specs.Memory.{Memory, memory, amounts, newton, given, factors, differences, zeros, noughts}
use Rattle.opening.specs.declared.tolerances.Conversion.{Conversion}
use Rattle.opening.specs.Tolerances.{Converted, converted_of, newton_tol_of}
use Rattle.opening.specs.Rows.{Opening, opening_rows, verdict_of, ceiling_of, floor_of}
use Rattle.state.specs.Talk.{Verdict, Opened, call}

-- ---- the partition (radau.rs:214-248): a count left out is 0, but nind1 is what the others leave

-- with none given n - 0 - 0 is n [radau.rs:235-237] [alike radau.rs:221-225]
unfoldable pub nind1_of : ℕ → Option ℕ → ℕ → ℕ → ℕ
nind1_of n None two three = n - two - three
nind1_of n (Some one) two three = one

-- [radau.rs:212-219]
unfoldable pub shape_of : ℕ → Settings → Shape
shape_of n s =
    let two = or_none s.nind2 in
    let three = or_none s.nind3 in
    record { n = n; nind1 = nind1_of n s.nind1 two three; nind2 = two; nind3 = three }

-- ---- the first step (radau.rs:250-264)

-- |first_step|, else 1e-6, with the direction's sign [radau.rs:252-257]
unfoldable pub wished_step : Option Float → Float → Float
wished_step (Some h0) posneg = abs_of h0 ⊗ posneg
wished_step None posneg = «1·0e-6» ⊗ posneg

-- [radau.rs:264]
unfoldable pub first_step_of : Settings → Float → Float → Float
first_step_of s posneg hmax = clamp_of (wished_step s.first_step posneg) (neg hmax) hmax

-- ---- the run before its first request (radau.rs:287-330)

-- its own line is the direction [radau.rs:250-251]
unfoldable pub fixed_of : Settings → Float → Float → Conversion → Fixed
fixed_of s x0 xend c =
    record {
      tolerances = c.tolerances;
      newton_tol = newton_tol_of s.newton_tol s.uround c.tolst;
      xend = xend;
      posneg = signum_of (xend ⊖ x0);
      hmax = ceiling_of s x0 xend;
      hmin = floor_of s;
    }

-- the first derivative is counted with its request (radau.rs:332) [radau.rs:287-289]
abbrev pub first_counts : Counts
first_counts = record { ode = 1; jac = 0; lu = 0; total = 0; accepted = 0; rejected = 0 }

-- the flags [radau.rs:323-326], with what was set before them (radau.rs:293, 299-300); rounds are counted anew in
-- each attempt (radau.rs:482), and no Jacobian is made yet
abbrev pub first_control : Control
first_control = record {
  first = true;
  last = false;
  reject = false;
  call_jac = true;
  call_decomp = true;
  singular_count = 0;
  newt_iter = 0;
  made_here = false;
}

-- what the Rust leaves unset is +0
abbrev pub first_numbers : Float → Float → Numbers
first_numbers x h =
    record {
      x = x;
      -- [radau.rs:318-321]
      xold = x;
      xph = «0·0»;
      h = h;
      -- [radau.rs:295-302]
      hold = h;
      hnew = «0·0»;
      hhfac = h;
      h_acc = «0·0»;
      err_acc = «0·0»;
      -- [radau.rs:310-312]
      faccon = «1·0»;
      theta = «0·0»;
      -- [radau.rs:314-316]
      dynold = «0·0»;
      thqold = «0·0»;
      -- [radau.rs:334-335]
      xout = None;
    }

-- nothing is decomposed yet (02, [3]), and nothing accepted (02, [7])
abbrev pub first_notes : Notes
first_notes = record { singular = None; strides = None }

-- [radau.rs:291-293]
unfoldable pub first_run : Settings → ℕ → Float → Float → Conversion → Run
first_run s n x0 xend c =
    record {
      settings = s;
      shape = shape_of n s;
      fixed = fixed_of s x0 xend c;
      counts = first_counts;
      control = first_control;
      numbers = first_numbers x0 (first_step_of s (signum_of (xend ⊖ x0)) (ceiling_of s x0 xend));
      stage = FirstDerivative;
      notes = first_notes;
    }

-- ---- the memory: what was given stays or is converted, all else is +0

-- parts of two groups that are cleared together
pub record Working : Type 0 where
  pub f0 : List Float
  pub scal : List Float
  pub cont : List Float
  pub jac : List Float

abbrev pub working : List Float → List Float → List Float → List Float → Working
working f0 scal cont jac = record { f0 = f0; scal = scal; cont = cont; jac = jac }

-- the host is not asked: it gave its mass at opening [radau.rs:360-361]
unfoldable pub mass_kept : Mass → ℕ → List Float → List Float
mass_kept mass.Identity size m = zeros size
mass_kept mass.Full size m = m

-- [radau.rs:268-285]
unfoldable pub cleared_of : Mass → ℕ → Converted → Memory → Memory
cleared_of s n c m =
    memory
    (amounts m.amounts.y (zeros n) (zeros n) (zeros (4 * n)))
    (newton (zeros n) (zeros n) (zeros n) (zeros n) (zeros n) (zeros n))
    (given c.rtols c.atols (mass_kept s (n * n) m.given.mass) (zeros (n * n)))
    (factors (zeros (n * n)) (zeros (n * n)) (zeros (n * n)) (noughts n) (noughts n))
    (differences (zeros n) (zeros n) (zeros n))

-- ---- the whole call

pub record OpeningOutcome : Type 0 where
  pub answer : Opened
  pub memory : Memory

abbrev pub opening_outcome : Opened → Memory → OpeningOutcome
opening_outcome answer memory = record { answer = answer; memory = memory }

-- the first derivative is asked [radau.rs:330-332]
unfoldable pub accepted_of : Opening → OpeningOutcome
accepted_of o =
    let c = converted_of o.settings.rule o.n o.tolerances o.memory.given.rtol o.memory.given.atol in
    opening_outcome
    (Ok (call (first_run o.settings o.n o.x0 o.xend c.conversion) (Derivative o.x0) YToF0))
    (cleared_of o.settings.mass o.n c o.memory)

unfoldable pub by_verdict : Verdict → Opening → OpeningOutcome
by_verdict (Ok tt) o = accepted_of o
by_verdict (Err r) o = opening_outcome (Err r) o.memory

unfoldable pub open_of : Opening → OpeningOutcome
open_of o = by_verdict (verdict_of (opening_rows o)) o
