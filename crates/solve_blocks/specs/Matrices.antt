-- The matrices E1 and E2 of a pass, and the two decompositions, with what a singular one leads to (radau.rs:376-419).
use Rattle.std.specs.Prelude.{ℕ, ◌+◌, Bool, true, false, not, List, [], ◌∷◌, ltb, Float, Some, Option, Ok, Err}
use Rattle.words.specs.Words.{◌⊖◌, ◌⊗◌, ◌⊘◌}
use Rattle.words.specs.Constants.{«0·5»}
use Rattle.words.specs.Loop.{loop, pick}
use Rattle.words.specs.Grid.{put}
use Rattle.scalar.specs.Coefficients.{U1, ALPH, BETA}
use Rattle.matrix.specs.declared.answers.DecompositionError.TheVariants as undone
use Rattle.matrix.specs.Answers.{Decomposed}
use Rattle.matrix.specs.Complex.{parts}
use Rattle.matrix.specs.Lu.{lu_decomp_of}
use Rattle.matrix.specs.LuComplex.{lu_decomp_complex_of}
use Rattle.state.specs.declared.settings.Mass.{Mass}
use Rattle.state.specs.declared.settings.Rule.{Rule}
use Rattle.state.specs.declared.settings.Rule.TheVariants as rule
use Rattle.state.specs.declared.run.Control.{Control}
use Rattle.state.specs.declared.run.Run.{Run}
use Rattle.state.specs.declared.run.Status.{Status}
use Rattle.state.specs.declared.run.Status.TheVariants.{SingularMatrix}
use Rattle.state.specs.declared.run.Stage.{Stage}
use Rattle.state.specs.declared.run.Stage.TheVariants as stage
use Rattle.state.specs.declared.talk.Request.{Request}
use Rattle.state.specs.declared.talk.Request.TheVariants as request
use Rattle.state.specs.declared.talk.Place.{Place}
use Rattle.state.specs.declared.talk.Place.TheVariants.{Nowhere}
use Rattle.state.specs.Memory.{Factors, factors}
use Rattle.state.specs.declared.talk.Call.{Call}
use Rattle.state.specs.Talk.{call}
use Rattle.solve_blocks.specs.declared.step.Step.{Step}
use Rattle.solve_blocks.specs.declared.step.Step.TheVariants as step
use Rattle.solve_blocks.specs.Setters.{◌▸◌, in_counts, in_control, in_numbers, in_notes, at_stage, one_ode, one_lu}
use Rattle.solve_blocks.specs.Setters.{set_singular, set_reject, set_last, set_call_jac, set_call_decomp, set_h}
use Rattle.solve_blocks.specs.Setters.{set_hhfac}
use Rattle.solve_blocks.specs.Setters.{set_latest}
use Rattle.solve_blocks.specs.Events.{real-singular, complex-singular, factored, Logged, logged, quiet, and_then}
use Rattle.solve_blocks.specs.Entries.{mass_at, jac_at, Three, three}
use Rattle.state.specs.declared.run.Singular.{Singular}
use Rattle.state.specs.declared.run.Singular.TheVariants.{Real, Complex}

-- ---- how a run ends, and what follows a failure

-- for a derivative at x, which is counted with its request
abbrev pub ask_derivative : Run → Stage → Float → Place → Call
ask_derivative r s x p = call (r ▸ in_counts one_ode ▸ at_stage s) (request.Derivative x) p

-- `break 'main` with a status
abbrev pub ended_of : Status → Run → Call
ended_of s r = call (r ▸ at_stage (stage.Ended s)) (request.Ended s) Nowhere

-- whether a Jacobian is wanted past an attempt that failed: under the Rust rule the wish stays as it was; under the
-- book rule it is asked for again if it was made at another point than the present one, and kept if made here (02, [1])
unfoldable pub wished_of : Rule → Control → Bool
wished_of rule.Rust c = c.call_jac
wished_of rule.Book c = not c.made_here

-- the matrices are made again, and an aim doesn't survive
abbrev pub missed : Rule → Control → Control
missed q c = c ▸ set_reject true ▸ set_last false ▸ set_call_decomp true ▸ set_call_jac (wished_of q c)

-- after any attempt that is not accepted: a singular matrix, rounds used up, a theta that is too large, under the book
-- rule the slow verdict, and an error that is too large, before the first acceptance and after it
abbrev pub missed_of : Run → Run
missed_of r = r ▸ in_control (missed r.settings.rule)

-- the failure is counted: the sixth ends the run, another halves the step [radau.rs:393-403] [again radau.rs:408-418]
-- [alike radau.rs:485-496] [alike radau.rs:586-597]; where the first two leave `call_decomp` alone it is true already
unfoldable pub failed_of : Run → Step
failed_of r =
    let s = r ▸ in_control (set_singular (r.control.singular_count + 1)) in
    pick (ltb 5 (r.control.singular_count + 1)) (step.Asked (ended_of SingularMatrix s))
    (step.Main (s ▸ in_numbers (set_h (r.numbers.h ⊗ «0·5»)) ▸ in_numbers (set_hhfac «0·5») ▸ missed_of))

-- ---- the matrices

-- row r, column c of the three [radau.rs:383-388]
unfoldable pub build_at : Mass → ℕ → List Float → List Float → Float → Float → Float → ℕ → ℕ → Three → Three
build_at mode n mass jac fac1 alphn betan r c e =
    three
    (put e.one n r c (mass_at mode mass n r c ⊗ fac1 ⊖ jac_at jac n r c))
    (put e.two n r c (mass_at mode mass n r c ⊗ alphn ⊖ jac_at jac n r c))
    (put e.three n r c (mass_at mode mass n r c ⊗ betan))

-- [radau.rs:382]
unfoldable pub build_row : Mass → ℕ → List Float → List Float → Float → Float → Float → ℕ → Three → Three
build_row mode n mass jac fac1 alphn betan r e = loop (build_at mode n mass jac fac1 alphn betan r) 0 n e

-- E1, and the real and imaginary part of E2 [radau.rs:377-381]
unfoldable pub built_of : Mass → ℕ → List Float → List Float → Float → Three → Three
built_of mode n mass jac h e = loop (build_row mode n mass jac (U1 ⊘ h) (ALPH ⊘ h) (BETA ⊘ h)) 0 n e

-- ---- the decompositions

-- `is_err()`
abbrev pub is_err : Decomposed → Bool
is_err (Ok done) = false
is_err (Err error) = true

-- the column without a pivot; a pass refuses no order and no length
abbrev pub column_of : Decomposed → ℕ
column_of (Ok done) = 0
column_of (Err undone.Order) = 0
column_of (Err undone.Length) = 0
column_of (Err (undone.Singular k)) = k

-- a decomposition that failed is kept as the run's latest (02, [3]), whatever was accepted before it
abbrev pub stopping : Option Singular → Run → Step
stopping at r = failed_of (r ▸ in_notes (set_latest at))

pub record Tried : Type 0 where
  pub step : Step
  pub factors : Factors

abbrev pub tried : Step → Factors → Tried
tried s f = record { step = s; factors = f }

-- E2, E1 being decomposed [radau.rs:405-407]
unfoldable pub complex_tried_of : Run → Factors → Logged Tried
complex_tried_of r f =
    let d = lu_decomp_complex_of r.shape.n (parts f.e2r f.e2i) f.ip2 in
    let g = factors f.e1 d.a.re d.a.im f.ip1 d.ip in
    let s = r ▸ in_counts one_lu in
    let k = column_of d.answer in
    pick (is_err d.answer)
    (logged (tried (stopping (Some (Complex k)) s) g) (complex-singular r.numbers.h k ∷ []))
    (logged (tried (step.Attempt s) g) (factored r.numbers.h ∷ []))

-- E1 [radau.rs:390-392]
unfoldable pub real_tried_of : Run → Factors → Logged Tried
real_tried_of r f =
    let d = lu_decomp_of r.shape.n f.e1 f.ip1 in
    let g = factors d.a f.e2r f.e2i d.ip f.ip2 in
    let s = r ▸ in_counts one_lu in
    let k = column_of d.answer in
    pick (is_err d.answer)
    (logged (tried (stopping (Some (Real k)) s) g) (real-singular r.numbers.h k ∷ []))
    (complex_tried_of s g)

-- one pass through the matrices, where they are wanted [radau.rs:376]
unfoldable pub tried_of : Run → List Float → List Float → Factors → Logged Tried
tried_of r mass jac f =
    let e = built_of r.settings.mass r.shape.n mass jac r.numbers.h (three f.e1 f.e2r f.e2i) in
    pick r.control.call_decomp (real_tried_of r (factors e.one e.two e.three f.ip1 f.ip2))
    (quiet (tried (step.Attempt r) f))

-- a pass begins again with no request between, where the matrix was singular (radau.rs:402, 417) and no Jacobian
-- is wanted [radau.rs:370]
abbrev pub passes_on : Step → Bool
passes_on (step.Asked c) = false
passes_on (step.Main r) = not r.control.call_jac
passes_on (step.Matrices r) = true
passes_on (step.Attempt r) = false

abbrev pub run_of : Step → Run
run_of (step.Asked c) = c.run
run_of (step.Main r) = r
run_of (step.Matrices r) = r
run_of (step.Attempt r) = r

unfoldable pub pass_at : List Float → List Float → ℕ → Logged Tried → Logged Tried
pass_at mass jac k l =
    pick (passes_on l.core.step) (and_then l (λ (t : Tried). tried_of (run_of t.step) mass jac t.factors)) l

-- the sixth failure ends the run, so six passes settle it
unfoldable pub passes_of : Step → List Float → List Float → Factors → Logged Tried
passes_of s mass jac f = loop (pass_at mass jac) 0 6 (quiet (tried s f))
