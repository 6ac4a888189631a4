-- The sheet of a model whose two ends are 1, to the end of its run, by computation (01: 'Both ends 1: status 3, total
-- 1, ode 1, jac 1, lu 2'); so the contract can be met.
use Prim.Native.Nat.{ℕ, zero, suc, ◌<◌}
use mathlib.Core.Bool.{false}
use mathlib.Core.Path.{◌≡◌, refl, sym, ap, ◌∙◌, subst}
use mathlib.Core.List.{[], ◌∷◌, ◌++◌}
use native.Mathlib.Omega.{arith}
use lib.ListN.{length}
use lib.Ieee.{add, sub, mul, div, neg, le, lt, eq, is_nan, of_bits}
use Rattle.words.specs.Words.{double}
use Rattle.words.specs.Loop.{loop, pick}
use Rattle.words.specs.Grid.{at, put}
use Rattle.scalar.specs.Order.{abs_of, max_of, clamp_of, signum_of}
use Rattle.state.specs.declared.settings.Rule.TheVariants.{Rust}
use Rattle.state.specs.declared.run.Run.{Run}
use Rattle.state.specs.declared.run.Stage.TheVariants as stage
use Rattle.state.specs.declared.run.Status.TheVariants.{StepSizeTooSmall}
use Rattle.state.specs.declared.talk.Blame.TheVariants.{Untold}
use Rattle.state.specs.declared.talk.Place.TheVariants as place
use Rattle.state.specs.declared.talk.Request.TheVariants as request
use Rattle.state.specs.Memory.{Memory, amounts_fit, newton_fit, given_fit, factors_fit, differences_fit, zeros, noughts}
use Rattle.state.specs.Pivots.{stray_at, stray}
use Rattle.matrix.specs.Complex.{at_complex, size_complex}
use Rattle.matrix.specs.Elimination.{single, worked, answered}
use Rattle.matrix.specs.Lu.{is_zero, lu_decomp_of}
use Rattle.matrix.specs.LuComplex.{is_zero_complex, lu_decomp_complex_of}
use Rattle.opening.specs.Rows.{verdict_of, Opening, bad_number, place_of, mass_given, rtol_given}
use Rattle.opening.specs.Rows.{atol_given, partition_fails, given_zero, given_below, opening_rows}
use Rattle.opening.specs.Tolerances.{scalar_turns, Converted, converted_of}
use Rattle.opening.specs.Opening.{nind1_of, shape_of, wished_step, first_step_of, fixed_of, first_run, mass_kept}
use Rattle.opening.specs.Opening.{cleared_of, OpeningOutcome, opening_outcome, accepted_of, by_verdict, open_of}
use Rattle.opening.specs.Admission.{asking_at, answers_report}
use Rattle.solve_blocks.specs.Entries.{mass_at, jac_at}
use Rattle.solve_blocks.specs.Scale.{scale_at, scaled_of}
use Rattle.solve_blocks.specs.Jacobian.{ask_jacobian_by, perturbation, ask_column_of, column_at, column_of}
use Rattle.solve_blocks.specs.Matrices.{build_at, build_row, built_of, complex_tried_of}
use Rattle.solve_blocks.specs.Matrices.{real_tried_of, tried_of, pass_at, passes_of}
use Rattle.solve_blocks.specs.Attempt.{attempt_of}
use Rattle.solve_blocks.specs.Report.{reported_of}
use Rattle.solve_blocks.specs.Setters.{counts}
use Rattle.solve_blocks.specs.Advance.{started_of, replied_of, called_of, advance_by}
use Rattle.history.specs.Host.{is_end, filled, modified, wrote}
use Rattle.history.specs.History.{Point, point, next_point}
use Rattle.solve_whole.specs.Talk.{World, world, Talk, talk, offered, talk_by, TalksTo}
use Rattle.model.specs.Model.{derivative_of}
use Rattle.sheet.specs.Sheet.{Model, Valid, written}
use Rattle.sheet.specs.Reader.{Read, read_of}
use Rattle.sheet.proofs.Accepted.{accepted-complete}
use Rattle.std.specs.Prelude.{Ok}
use Rattle.forecast_text.specs.Printed.{Forecast}
use Rattle.model_run.specs.Host.{source_at, reply_to}
use Rattle.forecast.specs.Forecast.{opening_for, done, host_of, ended_at, FromOpened, Forecasts}
use Rattle.state.specs.Talk.{Verdict, call, passed_all}

-- ---- the sheet

abbrev one : ℕ
one = 0x3ff0_0000_0000_0000

-- one species, no reaction, both ends 1
abbrev pub still : Model
still =
    record {
      x0 = one;
      xend = one;
      rtol = 0x3f50_0000_0000_0000;
      atol = 0x3eb0_0000_0000_0000;
      max_steps = 100000;
      rule = Rust;
      amounts = one ∷ [];
      reactions = [];
    }

valid : Valid still
valid =
    record {
      x0 = omega arith;
      xend = omega arith;
      rtol = omega arith;
      atol = omega arith;
      max_steps = omega arith;
      some = omega arith;
      few = omega arith;
      amounts = (omega arith, tt);
      reactions = omega arith;
      known = tt;
    }

-- ---- it opens

abbrev o : Opening
o = opening_for still

passed : verdict_of (opening_rows o) ≡ passed_all
unfolding verdict_of pick amounts_fit newton_fit given_fit factors_fit differences_fit zeros noughts bad_number place_of
    mass_given rtol_given atol_given partition_fails given_zero given_below abs_of sub le lt eq of_bits
passed = refl

abbrev converted : Converted
converted = converted_of o.settings.rule o.n o.tolerances o.memory.given.rtol o.memory.given.atol

abbrev first : Run
first = first_run o.settings o.n o.x0 o.xend converted.conversion

abbrev lent : Memory
lent = cleared_of o.settings.mass o.n converted o.memory

abbrev start : Point
start = point first (request.Derivative o.x0) place.YToF0 lent

opens : open_of o ≡ opening_outcome (Ok (call first (request.Derivative o.x0) place.YToF0)) lent
unfolding open_of by_verdict accepted_of
opens = ap (λ (v : Verdict). by_verdict v o) passed

-- ---- it ends

-- the step is 0, so the first attempt finds it too small
abbrev pub still_forecast : Forecast
still_forecast =
    Ok (record {
      result = record {
        h = double 0;
        x = double one;
        status = StepSizeTooSmall;
        counts = counts 1 1 2 1 0 0;
        blame = Untold;
        smallest = double 0;
        largest = double 0;
      };
      species = 1;
      amounts = (double one ∷ []) ++ zeros 31;
    })

abbrev after : ℕ → Talk
after k = talk_by offered (host_of still) k (talk start [])

-- none of the first four requests is the end: a derivative, a report, and the two derivatives of a Jacobian
abbrev Goes : ℕ → Type 0
Goes k = is_end (after k).point.request ≡ false

record Course : Type 0 where
  first : Goes 0
  second : Goes 1
  third : Goes 2
  fourth : Goes 3
  asked : length (after 4).exchanges ≡ 4
  stage : (after 4).point.run.stage ≡ stage.Ended StepSizeTooSmall
  ended : (after 4).point
      ≡ point (after 4).point.run (request.Ended StepSizeTooSmall) place.Nowhere (after 4).point.memory
  told : still_forecast ≡ ended_at (after 4).point.run StepSizeTooSmall (after 4).point.memory.amounts.y

course : Course
unfolding is_end talk_by done derivative_of source_at reply_to filled modified wrote next_point advance_by verdict_of
    pick loop amounts_fit newton_fit given_fit factors_fit differences_fit zeros noughts asking_at answers_report
    stray_at stray replied_of called_of pass_at passes_of started_of reported_of first_run shape_of nind1_of
    fixed_of cleared_of mass_kept converted_of scalar_turns scale_at scaled_of ask_jacobian_by ask_column_of column_of
    perturbation column_at at put mass_at jac_at build_at build_row built_of lu_decomp_of lu_decomp_complex_of single
    worked answered is_zero is_zero_complex at_complex size_complex real_tried_of complex_tried_of tried_of attempt_of
    first_step_of wished_step abs_of max_of clamp_of signum_of is_nan add sub mul div neg eq le lt of_bits
course = record {
  first = refl;
  second = refl;
  third = refl;
  fourth = refl;
  asked = refl;
  stage = refl;
  ended = refl;
  told = refl;
}

before : (j : ℕ) → j < 4 → Goes j
before zero l = course.first
before (suc zero) l = course.second
before (suc (suc zero)) l = course.third
before (suc (suc (suc zero))) l = course.fourth
before (suc (suc (suc (suc j)))) l = absurd (let no : ⊥ = omega arith in no)

abbrev end : Run
end = (after 4).point.run

abbrev left : World
left = world (after 4).point.memory (after 4).exchanges

talks : TalksTo offered (host_of still) start end left
talks =
    record {
      status = StepSizeTooSmall;
      stage = course.stage;
      talks = ap after course.asked ∙ ap (λ (here : Point). talk here (after 4).exchanges) course.ended;
      before = λ j l. before j (omega (arith, course.asked));
    }

pub still-forecast-proof : Forecasts (read_of (written still)) still_forecast
unfolding Forecasts FromOpened talks
still-forecast-proof =
    subst (λ (x : Read). Forecasts x still_forecast) (sym (accepted-complete still valid))
    (subst (λ (x : OpeningOutcome). FromOpened still x.answer x.memory still_forecast) (sym opens)
    (record { run = end; world = left; talks = talks; told = course.told }))
