-- The run that two arrays hold: w its whole numbers, d its doubles; and the call, step, round and heard of
-- `solve_blocks` that the code's stand for where the run is r.
use Rattle.std.specs.Prelude.{ℕ, ◌≡◌, List, [], ◌∷◌, Float, get_or, length}
use Rattle.words.specs.Words.{◌!◌}
use Rattle.state.specs.declared.run.Run.{Run}
use Rattle.state.specs.declared.settings.Settings.{Settings}
use Rattle.state.specs.declared.run.Shape.{Shape}
use Rattle.state.specs.declared.run.Fixed.{Fixed}
use Rattle.state.specs.declared.run.Counts.{Counts}
use Rattle.state.specs.declared.run.Control.{Control}
use Rattle.state.specs.declared.run.Numbers.{Numbers}
use Rattle.state.specs.declared.run.Stage.{Stage}
use Rattle.state.specs.declared.run.Notes.{Notes}
use Rattle.state.specs.Numbers.{singular_kind, singular_column, smallest_stride, largest_stride}
use Rattle.state.specs.Settings.{or_none}
use Rattle.state.specs.declared.talk.Call as the_call
use Rattle.solve_blocks.specs.declared.step.Step as the_step
use Rattle.solve_blocks.specs.declared.step.Step.TheVariants as step
use Rattle.solve_blocks.specs.declared.step.Round as the_round
use Rattle.solve_blocks.specs.declared.step.Round.TheVariants as round
use Rattle.solve_blocks.specs.declared.step.Heard as the_heard
use Rattle.solve_blocks.specs.declared.step.Heard.TheVariants as heard
use Rattle.radau_core.specs.declared.step.Call.{Call}
use Rattle.radau_core.specs.declared.step.Step.{Step}
use Rattle.radau_core.specs.declared.step.Step.TheVariants.{Asked, Main, Matrices, Attempt}
use Rattle.radau_core.specs.declared.step.Round.{Round}
use Rattle.radau_core.specs.declared.step.Round.TheVariants.{Newton, Estimate, Over}
use Rattle.radau_core.specs.declared.step.Heard.{Heard}
use Rattle.radau_core.specs.declared.step.Heard.TheVariants as held
use Rattle.radau_core.specs.Choices.{flag_of, option_at, mass_of, source_of, rule_of, tolerances_of, stage_of}
use Rattle.radau_core.specs.Choices.{stage_tag, stage_part, flag_word, option_tag, number_value}
use Rattle.radau_core.specs.Choices.{mass_word, source_word, rule_word, tolerances_tag, rtol_value, atol_value}
use Rattle.radau_core.specs.Choices.{singular_of, strides_of}

infixl 90 ◌#◌
abbrev pub ◌#◌ : List ℕ → ℕ → ℕ
w # i = get_or w i 0

-- ---- the run

abbrev pub counts_at : List ℕ → Counts
counts_at w = record {
  ode = w # 2;
  jac = w # 3;
  lu = w # 4;
  total = w # 5;
  accepted = w # 6;
  rejected = w # 7;
}

abbrev pub control_at : List ℕ → Control
control_at w = record {
  first = flag_of (w # 8);
  last = flag_of (w # 9);
  reject = flag_of (w # 10);
  call_jac = flag_of (w # 11);
  call_decomp = flag_of (w # 12);
  singular_count = w # 13;
  newt_iter = w # 14;
  made_here = flag_of (w # 38);
}

abbrev pub numbers_at : List ℕ → List Float → Numbers
numbers_at w d = record {
  x = d ! 0;
  xold = d ! 1;
  xph = d ! 2;
  h = d ! 3;
  hold = d ! 4;
  hnew = d ! 5;
  hhfac = d ! 6;
  h_acc = d ! 7;
  err_acc = d ! 8;
  faccon = d ! 9;
  theta = d ! 10;
  dynold = d ! 11;
  thqold = d ! 12;
  xout = option_at (w # 15) (d ! 13);
}

abbrev pub shape_at : List ℕ → Shape
shape_at w = record { n = w # 16; nind1 = w # 17; nind2 = w # 18; nind3 = w # 19 }

abbrev pub fixed_at : List ℕ → List Float → Fixed
fixed_at w d = record {
  tolerances = tolerances_of (w # 20) (d ! 19) (d ! 20);
  newton_tol = d ! 14;
  xend = d ! 15;
  posneg = d ! 16;
  hmax = d ! 17;
  hmin = d ! 18;
}

abbrev pub settings_at : List ℕ → List Float → Settings
settings_at w d = record {
  max_steps = w # 21;
  uround = d ! 21;
  safety_factor = d ! 22;
  scale_min = d ! 23;
  scale_max = d ! 24;
  max_step = option_at (w # 28) (d ! 25);
  min_step = option_at (w # 29) (d ! 26);
  newton_maxiter = w # 22;
  newton_tol = option_at (w # 30) (d ! 27);
  predictive = flag_of (w # 23);
  nind1 = option_at (w # 32) (w # 33);
  nind2 = option_at (w # 34) (w # 35);
  nind3 = option_at (w # 36) (w # 37);
  mass = mass_of (w # 24);
  source = source_of (w # 25);
  first_step = option_at (w # 31) (d ! 28);
  dense_output = flag_of (w # 26);
  rule = rule_of (w # 27);
}

abbrev pub stage_at : List ℕ → Stage
stage_at w = stage_of (w # 0) (w # 1)

abbrev pub notes_at : List ℕ → List Float → Notes
notes_at w d = record { singular = singular_of (w # 39) (w # 40); strides = strides_of (w # 41) (d ! 29) (d ! 30) }

abbrev pub run_at : List ℕ → List Float → Run
run_at w d = record {
  settings = settings_at w d;
  shape = shape_at w;
  fixed = fixed_at w d;
  counts = counts_at w;
  control = control_at w;
  numbers = numbers_at w d;
  stage = stage_at w;
  notes = notes_at w d;
}

pub record Sized (w : List ℕ) (d : List Float) : Type 0 where
  pub words : length w ≡ 42
  pub doubles : length d ≡ 31

-- ---- where `solve` stands

abbrev pub call_at : Call → Run → the_call.Call
call_at c r = record { run = r; request = c.request; place = c.place }

abbrev pub step_at : Step → Run → the_step.Step
step_at (Asked c) r = step.Asked (call_at c r)
step_at Main r = step.Main r
step_at Matrices r = step.Matrices r
step_at Attempt r = step.Attempt r

abbrev pub round_at : Round → Run → the_round.Round
round_at Newton r = round.Newton r
round_at Estimate r = round.Estimate r
round_at (Over s) r = round.Over (step_at s r)

abbrev pub heard_at : Heard → Run → the_heard.Heard
heard_at (held.Asked c) r = heard.Asked (call_at c r)
heard_at held.Reported r = heard.Reported r

-- ---- a run put into its places

abbrev pub words_of : Run → List ℕ
words_of r =
    stage_tag r.stage
    ∷ stage_part r.stage
    ∷ r.counts.ode
    ∷ r.counts.jac
    ∷ r.counts.lu
    ∷ r.counts.total
    ∷ r.counts.accepted
    ∷ r.counts.rejected
    ∷ flag_word r.control.first
    ∷ flag_word r.control.last
    ∷ flag_word r.control.reject
    ∷ flag_word r.control.call_jac
    ∷ flag_word r.control.call_decomp
    ∷ r.control.singular_count
    ∷ r.control.newt_iter
    ∷ option_tag r.numbers.xout
    ∷ r.shape.n
    ∷ r.shape.nind1
    ∷ r.shape.nind2
    ∷ r.shape.nind3
    ∷ tolerances_tag r.fixed.tolerances
    ∷ r.settings.max_steps
    ∷ r.settings.newton_maxiter
    ∷ flag_word r.settings.predictive
    ∷ mass_word r.settings.mass
    ∷ source_word r.settings.source
    ∷ flag_word r.settings.dense_output
    ∷ rule_word r.settings.rule
    ∷ option_tag r.settings.max_step
    ∷ option_tag r.settings.min_step
    ∷ option_tag r.settings.newton_tol
    ∷ option_tag r.settings.first_step
    ∷ option_tag r.settings.nind1
    ∷ or_none r.settings.nind1
    ∷ option_tag r.settings.nind2
    ∷ or_none r.settings.nind2
    ∷ option_tag r.settings.nind3
    ∷ or_none r.settings.nind3
    ∷ flag_word r.control.made_here
    ∷ singular_kind r.notes.singular
    ∷ singular_column r.notes.singular
    ∷ option_tag r.notes.strides
    ∷ []

abbrev pub doubles_of : Run → List Float
doubles_of r =
    r.numbers.x
    ∷ r.numbers.xold
    ∷ r.numbers.xph
    ∷ r.numbers.h
    ∷ r.numbers.hold
    ∷ r.numbers.hnew
    ∷ r.numbers.hhfac
    ∷ r.numbers.h_acc
    ∷ r.numbers.err_acc
    ∷ r.numbers.faccon
    ∷ r.numbers.theta
    ∷ r.numbers.dynold
    ∷ r.numbers.thqold
    ∷ number_value r.numbers.xout
    ∷ r.fixed.newton_tol
    ∷ r.fixed.xend
    ∷ r.fixed.posneg
    ∷ r.fixed.hmax
    ∷ r.fixed.hmin
    ∷ rtol_value r.fixed.tolerances
    ∷ atol_value r.fixed.tolerances
    ∷ r.settings.uround
    ∷ r.settings.safety_factor
    ∷ r.settings.scale_min
    ∷ r.settings.scale_max
    ∷ number_value r.settings.max_step
    ∷ number_value r.settings.min_step
    ∷ number_value r.settings.newton_tol
    ∷ number_value r.settings.first_step
    ∷ smallest_stride r.notes.strides
    ∷ largest_stride r.notes.strides
    ∷ []
