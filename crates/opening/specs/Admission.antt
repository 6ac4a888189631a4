-- Which advances are refused: 13 for an unfit state, then 14 for a run that has ended, then 15 for a reply of another
-- kind than was asked for (01, 'Numbers that refuse'). One list of tests, each clause of 'Unfit means one of' as it is
-- written there; M is max_steps, K newton_maxiter. Settings are tested as they were given, floats that are not finite
-- aside (row 3 is opening's), so a NaN that passes rows 4 to 8 is fit and the arithmetic goes on.
use Rattle.std.specs.Prelude.{ℕ, ◌+◌, ◌*◌, Bool, true, false, not, ◌&&◌, ◌||◌, List, [], ◌∷◌, ◌++◌, ltb, eqb, None}
use Rattle.std.specs.Prelude.{Some, Option, Ok, Err}
use Rattle.std.specs.Bool.{beq}
use Rattle.std.specs.Float.Ieee.{lt}
use Rattle.words.specs.Constants.{«0·0»}
use Rattle.opening.specs.declared.admission.Asking.{Asking}
use Rattle.state.specs.declared.run.Run.{Run}
use Rattle.state.specs.declared.run.Stage.{Stage}
use Rattle.state.specs.declared.run.Stage.TheVariants as stage
use Rattle.state.specs.declared.talk.Reply.{Reply}
use Rattle.state.specs.declared.talk.Reply.TheVariants as reply
use Rattle.state.specs.declared.talk.Refusal.TheVariants.{Unfit, HasEnded, WrongReply}
use Rattle.state.specs.Memory.{Memory, lengths_fit}
use Rattle.state.specs.Pivots.{stray}
use Rattle.opening.specs.Rows.{Test, test, outside, range_rows}
use Rattle.state.specs.declared.run.Strides.{Strides}
use Rattle.state.specs.Talk.{Verdict, passed_all}

-- ---- the stage

abbrev pub asking : Bool → Bool → ℕ → Asking
asking ended report column = record { ended = ended; report = report; column = column }

-- what is open at a stage: whether the run has ended, whether a report is asked, and the column of a difference
-- Jacobian (0 at any other stage)
unfoldable pub asking_at : Stage → Asking
asking_at stage.FirstDerivative = asking false false 0
asking_at stage.FirstReport = asking false true 0
asking_at stage.FirstDerivativeAgain = asking false false 0
asking_at stage.Jacobian = asking false false 0
asking_at (stage.Column c) = asking false false c
asking_at stage.Newton1 = asking false false 0
asking_at stage.Newton2 = asking false false 0
asking_at stage.Newton3 = asking false false 0
asking_at stage.Refinement = asking false false 0
asking_at stage.Accepted = asking false false 0
asking_at stage.Report = asking false true 0
asking_at stage.DerivativeAgain = asking false false 0
asking_at (stage.Ended s) = asking true false 0

-- a report is answered by the four replies of a report, every other request by 'filled'
unfoldable pub answers_report : Reply → Bool
answers_report reply.Filled = false
answers_report reply.Continue = true
answers_report reply.Interrupt = true
answers_report (reply.Modified x) = true
answers_report (reply.Mark x) = true

-- ---- the tests

abbrev pub unfit : Bool → Test
unfit b = test b Unfit

abbrev pub all_unfit : List Test → List Test
all_unfit [] = []
all_unfit (t ∷ ts) = unfit t.holds ∷ all_unfit ts

-- what refuses for any reason makes a state unfit
unfoldable pub unfit_of : Verdict → Verdict
unfit_of (Ok tt) = passed_all
unfit_of (Err r) = Err Unfit

-- n or lengths wrong; settings failing 4 to 8
abbrev pub shape_rows : Run → Bool → List Test
shape_rows r fit = unfit (outside 1 32 r.shape.n) ∷ unfit (not fit) ∷ all_unfit (range_rows r.settings)

-- partition not summing to n; attempts above max_steps, not ended; Newton rounds above newton_maxiter; difference
-- column above n; singular count above 5, not ended; a pivot (first n-1 of either list) not below n
abbrev pub state_rows : Run → List ℕ → List ℕ → List Test
state_rows r ip1 ip2 =
    unfit (not (eqb (r.shape.nind1 + r.shape.nind2 + r.shape.nind3) r.shape.n))
    ∷ unfit (ltb r.settings.max_steps r.counts.total && not (asking_at r.stage).ended)
    ∷ unfit (ltb r.settings.newton_maxiter r.control.newt_iter)
    ∷ unfit (ltb r.shape.n (asking_at r.stage).column)
    ∷ unfit (ltb 5 r.control.singular_count && not (asking_at r.stage).ended)
    ∷ unfit (stray r.shape.n ip1)
    ∷ unfit (stray r.shape.n ip2)
    ∷ []

-- 'neither is negative' (02, [7]): a NaN and -0 are not, and where there is none both are +0
abbrev pub stride_below : Option Strides → Bool
stride_below None = false
stride_below (Some s) = lt s.smallest «0·0» || lt s.largest «0·0»

-- ode, jac or lu above 2+3(K+1)M, 6(M+1), 13M+12; accepted above M; rejected above 2M; a stride negative
abbrev pub count_rows : Run → List Test
count_rows r =
    unfit (ltb (2 + 3 * (r.settings.newton_maxiter + 1) * r.settings.max_steps) r.counts.ode)
    ∷ unfit (ltb (6 * (r.settings.max_steps + 1)) r.counts.jac)
    ∷ unfit (ltb (13 * r.settings.max_steps + 12) r.counts.lu)
    ∷ unfit (ltb r.settings.max_steps r.counts.accepted)
    ∷ unfit (ltb (2 * r.settings.max_steps) r.counts.rejected)
    ∷ unfit (stride_below r.notes.strides)
    ∷ []

-- 14 and 15
abbrev pub reply_rows : Stage → Reply → List Test
reply_rows s p =
    test (asking_at s).ended HasEnded ∷ test (not (beq (asking_at s).report (answers_report p))) WrongReply ∷ []

abbrev pub admission_rows : Run → Reply → Memory → List Test
admission_rows r p m =
    shape_rows r (lengths_fit r.shape.n m)
    ++ (state_rows r m.factors.ip1 m.factors.ip2
    ++ (count_rows r
    ++ reply_rows r.stage p))
