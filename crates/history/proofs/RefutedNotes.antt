-- Wrong readings of 'the latest singular decomposition' (02, [3]), each as a solver that takes it, and each refuted: it
-- is right but for its notes, and one advance shows them.
--     not-forgetting      forgets it where an attempt is accepted, at the report of the new point
--     not-keeping-first   keeps the first and not the latest
use mathlib.Core.Path.{◌≡◌, refl, sym, ap, ◌∙◌}
use mathlib.Core.Bool.{Bool, true, false, true≢false}
use mathlib.Core.List.{[], ◌∷◌}
use lib.Dec.{eqb}
use lib.Ieee.{le, add, sub, mul, div, eq, of_bits}
use Rattle.words.specs.Constants.{«1·0»}
use Rattle.words.specs.Loop.{loop, pick}
use Rattle.words.specs.Grid.{at, put}
use Rattle.matrix.specs.Elimination.{single, worked, answered}
use Rattle.matrix.specs.Lu.{is_zero, lu_decomp_of}
use Rattle.state.specs.declared.run.Run.{Run}
use Rattle.state.specs.declared.run.Stage.{Stage}
use Rattle.state.specs.declared.run.Stage.TheVariants as stage
use Rattle.state.specs.declared.talk.Reply.TheVariants as reply
use Rattle.state.specs.declared.talk.Request.{Request}
use Rattle.state.specs.declared.talk.Request.TheVariants as request
use Rattle.state.specs.Memory.{amounts_fit, newton_fit, given_fit, factors_fit, differences_fit}
use Rattle.state.specs.Pivots.{stray, stray_at}
use Rattle.opening.specs.Rows.{verdict_of}
use Rattle.opening.specs.Admission.{asking_at, answers_report}
use Rattle.solve_blocks.specs.Setters.{◌▸◌, in_numbers, in_notes, set_h, set_latest}
use Rattle.solve_blocks.specs.Advance.{AdvanceOutcome, advance_outcome, advance_of}
use Rattle.solve_blocks.specs.Advance.{advance_by, replied_of, called_of}
use Rattle.solve_blocks.specs.Entries.{mass_at, jac_at}
use Rattle.solve_blocks.specs.Jacobian.{ask_jacobian_by}
use Rattle.solve_blocks.specs.Matrices.{failed_of, wished_of, build_at, build_row, built_of, real_tried_of, tried_of}
use Rattle.solve_blocks.specs.Matrices.{passes_of}
use Rattle.solve_blocks.specs.Matrices.{pass_at}
use Rattle.solve_blocks.specs.Report.{is_due, ask_report}
use Rattle.history.proofs.Refuted.{Solver, Meets, sample_at, sample_memory}
use Rattle.std.specs.Prelude.{None, Some, Option, Ok, Err}
use Rattle.state.specs.declared.run.Singular.{Singular}
use Rattle.state.specs.Talk.{Answer, call, refused}
use Rattle.state.specs.declared.run.Singular.TheVariants.{Real, Complex}

-- a run whose latest is E2's column 5: no test looks at it
abbrev noted : Stage → Run
noted s = sample_at s ▸ in_numbers (set_h «1·0») ▸ in_notes (set_latest (Some (Complex 5)))

-- whether it still is
abbrev is_fifth : Option Singular → Bool
is_fifth None = false
is_fifth (Some (Real k)) = false
is_fifth (Some (Complex k)) = eqb k 5

abbrev says_fifth : Answer → Bool
says_fifth (Ok c) = is_fifth c.run.notes.singular
says_fifth (Err e) = false

abbrev says_fifth_of : AdvanceOutcome → Bool
says_fifth_of o = says_fifth o.answer

-- ---- a solver that forgets

abbrev forgotten : Request → Run → Run
forgotten (request.Derivative x) r = r
forgotten (request.Jacobian x) r = r
forgotten (request.Report xold x offered) r = r ▸ in_notes (set_latest None)
forgotten (request.Ended s) r = r

abbrev forgetting : Answer → Answer
forgetting (Ok c) = Ok (call (forgotten c.request c.run) c.request c.place)
forgetting (Err e) = Err e

abbrev pub forgets : Solver
forgets r p m = let o = (advance_of r p m).core in advance_outcome (forgetting o.answer) o.memory

pub not-forgetting : Meets forgets → ⊥
unfolding advance_by replied_of called_of passes_of pass_at loop pick verdict_of amounts_fit newton_fit given_fit
    factors_fit differences_fit asking_at answers_report stray stray_at le of_bits ask_report is_due
not-forgetting meets =
    true≢false (sym (ap says_fifth_of (meets (noted stage.Accepted) reply.Filled sample_memory)))

-- ---- a solver that keeps the first

abbrev first : Option Singular → Run → Run
first None r = r
first (Some (Real k)) r = r ▸ in_notes (set_latest (Some (Real k)))
first (Some (Complex k)) r = r ▸ in_notes (set_latest (Some (Complex k)))

abbrev keeping_first : Option Singular → Answer → Answer
keeping_first s (Ok c) = Ok (call (first s c.run) c.request c.place)
keeping_first s (Err e) = Err e

abbrev pub keeps_first : Solver
keeps_first r p m =
    let o = (advance_of r p m).core in advance_outcome (keeping_first r.notes.singular o.answer) o.memory

-- of a mass and a Jacobian of 0 E1 is 0, and has no pivot in column 0
pub not-keeping-first : Meets keeps_first → ⊥
unfolding advance_by replied_of called_of passes_of pass_at tried_of real_tried_of failed_of built_of build_row build_at
    mass_at jac_at lu_decomp_of answered worked single is_zero at put ask_jacobian_by loop pick verdict_of amounts_fit
    newton_fit given_fit factors_fit differences_fit asking_at answers_report stray stray_at le add sub mul div eq
    of_bits wished_of
not-keeping-first meets =
    true≢false (ap says_fifth_of (meets (noted stage.Jacobian) reply.Filled sample_memory))
