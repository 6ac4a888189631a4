-- Places where a port goes astray, each as a claim about the definitions that the wrong reading would break. They are
-- computed, so an edit of a definition that took the wrong reading is refused here. Those about floats alone stand in
-- crates/solve_blocks/proofs/Refuted.antt.
use mathlib.Core.Path.{◌≡◌, refl, ap}
use mathlib.Core.Bool.{Bool, true, false, not}
use lib.Ieee.{Float, nan, le, of_bits}
use Rattle.words.specs.Constants.{«0·0»}
use Rattle.words.specs.Loop.{pick}
use Rattle.state.specs.declared.settings.Rule.{Rule}
use Rattle.state.specs.declared.settings.Rule.TheVariants as rule
use Rattle.state.specs.declared.run.Run.{Run}
use Rattle.state.specs.declared.run.Stage.TheVariants as stage
use Rattle.state.specs.declared.run.Status.TheVariants.{SingularMatrix}
use Rattle.solve_blocks.specs.declared.step.Step.{Step}
use Rattle.solve_blocks.specs.declared.step.Step.TheVariants as step
use Rattle.solve_blocks.specs.declared.step.Round.{Round}
use Rattle.solve_blocks.specs.declared.step.Round.TheVariants as round
use Rattle.solve_blocks.specs.Setters.{◌▸◌, in_control, set_singular, set_last, set_reject, set_call_jac}
use Rattle.solve_blocks.specs.Setters.{set_call_decomp}
use Rattle.solve_blocks.specs.Matrices.{ended_of, wished_of, missed_of, failed_of}
use Rattle.solve_blocks.specs.Newton.{slow_round}
use Rattle.solve_blocks.specs.Report.{is_due}
use Rattle.history.proofs.Refuted.{sample_at}
use Rattle.std.specs.Prelude.{Some}

abbrev sample : Run
sample = sample_at stage.Newton3

-- a mark is due at x itself, not only past it (radau.rs:722)
mark-at-x : is_due (Some «0·0») «0·0» ≡ true
unfolding is_due le of_bits
mark-at-x = refl

-- and a NaN mark never
mark-nan : is_due (Some nan) «0·0» ≡ false
unfolding is_due le
mark-nan = refl

-- the fifth failure halves the step, the sixth ends the run (radau.rs:393-402)
is_main : Step → Bool
is_main (step.Asked c) = false
is_main (step.Main r) = true
is_main (step.Matrices r) = false
is_main (step.Attempt r) = false

fifth-goes-on : is_main (failed_of (sample ▸ in_control (set_singular 4))) ≡ true
unfolding failed_of pick is_main
fifth-goes-on = refl

sixth-ends : failed_of (sample ▸ in_control (set_singular 5))
    ≡ step.Asked (ended_of SingularMatrix (sample ▸ in_control (set_singular 6)))
unfolding failed_of pick
sixth-ends = refl

-- under the Rust rule a failure leaves the wish for a Jacobian as it was, and an aim doesn't survive it
-- (radau.rs:398-402)
wish-kept : (r : Run) → r.settings.rule ≡ rule.Rust → (missed_of r).control.call_jac ≡ r.control.call_jac
unfolding wished_of
wish-kept r e = ap (λ (q : Rule). wished_of q r.control) e

aim-lost : (r : Run) → (missed_of r).control.last ≡ false
aim-lost r = refl

-- a slow verdict goes on to the error test under the Rust rule without the reject mark (radau.rs:581-582); under the
-- book rule it ends the attempt with it, and wants a Jacobian unless it was made here (01, 'The book rule'; 02, [1])
slow-rust : (r : Run) → slow_round rule.Rust r ≡ round.Estimate (r ▸ in_control (set_last false))
unfolding slow_round
slow-rust r = refl

abbrev slow_to : Run → Bool → Round
slow_to r wish =
    round.Over (step.Main
    (r ▸ in_control (set_reject true) ▸ in_control (set_last false) ▸ in_control (set_call_decomp true)
    ▸ in_control (set_call_jac wish)))

slow-book : (r : Run) → r.settings.rule ≡ rule.Book
    → slow_round rule.Book r ≡ slow_to r (not r.control.made_here)
unfolding slow_round wished_of
slow-book r e = ap (λ (q : Rule). slow_to r (wished_of q r.control)) e
