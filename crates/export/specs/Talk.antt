-- What the exported calls of a run answer and leave: document 01's number, or 0, with the state, the request and its
-- points, and the lent memory. A refusal leaves all of them as they were.
use Rattle.std.specs.Prelude.{ℕ, Bool, List, [], ◌∷◌, eqb, Float, None, Some, Option, Ok, Err}
use Rattle.words.specs.Words.{◌!◌}
use Rattle.words.specs.Constants.{«0·0»}
use Rattle.words.specs.Loop.{pick}
use Rattle.state.specs.declared.settings.Settings.{Settings}
use Rattle.state.specs.declared.run.Run.{Run}
use Rattle.state.specs.declared.run.Stage.{Stage}
use Rattle.state.specs.declared.talk.Request.{Request}
use Rattle.state.specs.declared.talk.Request.TheVariants as request
use Rattle.state.specs.declared.talk.Place.{Place}
use Rattle.state.specs.declared.talk.Place.TheVariants as place
use Rattle.state.specs.declared.talk.Reply.{Reply}
use Rattle.state.specs.declared.talk.Reply.TheVariants as reply
use Rattle.state.specs.declared.talk.IntegrationResult.{IntegrationResult}
use Rattle.state.specs.Numbers.{refusal_number, status_number, blame_kind, blame_column}
use Rattle.state.specs.Memory.{Memory}
use Rattle.state.specs.Result.{result_of}
use Rattle.opening.specs.Rows.{Opening}
use Rattle.opening.specs.Opening.{open_of}
use Rattle.opening.specs.Admission.{asking_at}
use Rattle.solve_blocks.specs.Advance.{advance_of}
use Rattle.radau_core.specs.Choices.{flag_of, flag_word, option_at, mass_of, source_of, rule_of}
use Rattle.radau_core.specs.Places.{◌#◌, run_at, words_of, doubles_of}
use Rattle.state.specs.Talk.{Opened, Answer, call, refused}

-- ---- the settings, as 17 numbers and 8 floats

abbrev pub settings_given : List ℕ → List Float → Settings
settings_given w x =
    record {
      max_steps = w # 0;
      uround = x ! 0;
      safety_factor = x ! 1;
      scale_min = x ! 2;
      scale_max = x ! 3;
      max_step = option_at (w # 7) (x ! 4);
      min_step = option_at (w # 8) (x ! 5);
      newton_maxiter = w # 1;
      newton_tol = option_at (w # 9) (x ! 6);
      predictive = flag_of (w # 2);
      nind1 = option_at (w # 11) (w # 12);
      nind2 = option_at (w # 13) (w # 14);
      nind3 = option_at (w # 15) (w # 16);
      mass = mass_of (w # 4);
      source = source_of (w # 5);
      first_step = option_at (w # 10) (x ! 7);
      dense_output = flag_of (w # 3);
      rule = rule_of (w # 6);
    }

-- ---- a request

abbrev pub kind_number : Request → ℕ
kind_number (request.Derivative x) = 1
kind_number (request.Jacobian x) = 2
kind_number (request.Report xold x offered) = 3
kind_number (request.Ended s) = 4

abbrev pub place_number : Place → ℕ
place_number place.Nowhere = 0
place_number place.YToF0 = 1
place_number place.ContToZ1 = 2
place_number place.ContToZ2 = 3
place_number place.ContToZ3 = 4
place_number place.ContToF1 = 5
place_number place.YToFOrigin = 6
place_number place.YPerturbedToFPerturbed = 7

-- of a report whether coefficients are offered, of an end the number of its status
abbrev pub request_flag : Request → ℕ
request_flag (request.Derivative x) = 0
request_flag (request.Jacobian x) = 0
request_flag (request.Report xold x offered) = flag_word offered
request_flag (request.Ended s) = status_number s

abbrev pub told_of : Request → Place → List ℕ
told_of q p = kind_number q ∷ place_number p ∷ request_flag q ∷ []

abbrev pub at_of : Request → List Float
at_of (request.Derivative x) = x ∷ x ∷ []
at_of (request.Jacobian x) = x ∷ x ∷ []
at_of (request.Report xold x offered) = xold ∷ x ∷ []
at_of (request.Ended s) = «0·0» ∷ «0·0» ∷ []

-- ---- a reply

-- a number that is no reply's counts as a reply of the kind that is not asked for, so it is 15, after 13 and 14
unfoldable pub stray_reply : Bool → Reply
stray_reply report = pick report reply.Filled reply.Continue

unfoldable pub reply_of : Stage → ℕ → Float → Reply
reply_of s k value =
    pick (eqb k 1) reply.Filled
    (pick (eqb k 2) reply.Continue
    (pick (eqb k 3) reply.Interrupt
    (pick (eqb k 4) (reply.Modified value) (pick (eqb k 5) (reply.Mark value) (stray_reply (asking_at s).report)))))

-- ---- what a call answers, and what stands behind it

-- the number, the two arrays of the state, and the request with its points
pub record Crossed : Type 0 where
  pub number : ℕ
  pub words : List ℕ
  pub doubles : List Float
  pub told : List ℕ
  pub at : List Float

abbrev pub crossed : ℕ → List ℕ → List Float → List ℕ → List Float → Crossed
crossed number words doubles told at =
    record { number = number; words = words; doubles = doubles; told = told; at = at }

-- the run stands in its places
abbrev pub asked_of : Run → Request → Place → Crossed
asked_of r q p = crossed 0 (words_of r) (doubles_of r) (told_of q p) (at_of q)

unfoldable pub of_opened : Opened → List ℕ → List Float → List ℕ → List Float → Crossed
of_opened (Ok c) words doubles told at = asked_of c.run c.request c.place
of_opened (Err x) words doubles told at = crossed (refusal_number x) words doubles told at

unfoldable pub of_answer : Answer → List ℕ → List Float → List ℕ → List Float → Crossed
of_answer (Ok c) words doubles told at = asked_of c.run c.request c.place
of_answer (Err e) words doubles told at = crossed (refusal_number e.refusal) words doubles told at

-- all that, with the lent memory
pub record Left : Type 0 where
  pub crossed : Crossed
  pub memory : Memory

abbrev pub left : Crossed → Memory → Left
left c m = record { crossed = c; memory = m }

-- ---- the calls

unfoldable pub open_left : Opening → List ℕ → List Float → List ℕ → List Float → Left
open_left o words doubles told at = left (of_opened (open_of o).answer words doubles told at) (open_of o).memory

-- any two arrays hold a run; whether it is fit is 13's matter
unfoldable pub advance_left : ℕ → Float → List ℕ → List Float → List ℕ → List Float → Memory → Left
advance_left k value words doubles told at m =
    let r = run_at words doubles in
    let o = (advance_of r (reply_of r.stage k value) m).core in
    left (of_answer o.answer words doubles told at) o.memory

-- ---- the result

-- the number, and nine numbers and four floats
pub record Ended : Type 0 where
  pub number : ℕ
  pub numbers : List ℕ
  pub floats : List Float

abbrev pub ended : ℕ → List ℕ → List Float → Ended
ended number numbers floats = record { number = number; numbers = numbers; floats = floats }

abbrev pub end_numbers : IntegrationResult → List ℕ
end_numbers e =
    status_number e.status
    ∷ e.counts.ode
    ∷ e.counts.jac
    ∷ e.counts.lu
    ∷ e.counts.total
    ∷ e.counts.accepted
    ∷ e.counts.rejected
    ∷ blame_kind e.blame
    ∷ blame_column e.blame
    ∷ []

abbrev pub end_floats : IntegrationResult → List Float
end_floats e = e.h ∷ e.x ∷ e.smallest ∷ e.largest ∷ []

-- 29, which document 01 does not use, where the run has not ended
unfoldable pub of_result : Option IntegrationResult → List ℕ → List Float → Ended
of_result (Some e) numbers floats = ended 0 (end_numbers e) (end_floats e)
of_result None numbers floats = ended 29 numbers floats

abbrev pub result_left : List ℕ → List Float → List ℕ → List Float → Ended
result_left words doubles numbers floats = of_result (result_of (run_at words doubles)) numbers floats
