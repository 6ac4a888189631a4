-- A run that is put into its places is the run that they hold.
use mathlib.Core.Bool.{Bool, true, false}
use Prim.Native.Nat.{ℕ}
use mathlib.Core.Path.{◌≡◌, refl, sym, ap, subst, ◌∙◌}
use mathlib.Core.List.{List}
use lib.Ieee.{Float}
use lib.ListN.{length}
use Rattle.words.specs.Loop.{pick}
use Rattle.state.specs.declared.settings.Mass.{Mass}
use Rattle.state.specs.declared.settings.Mass.TheVariants as mass
use Rattle.state.specs.declared.settings.Source.{Source}
use Rattle.state.specs.declared.settings.Source.TheVariants as source
use Rattle.state.specs.declared.settings.Rule.{Rule}
use Rattle.state.specs.declared.settings.Rule.TheVariants as rule
use Rattle.state.specs.declared.run.Tolerances.{Tolerances}
use Rattle.state.specs.declared.run.Tolerances.TheVariants as tolerances
use Rattle.state.specs.declared.run.Run.{Run}
use Rattle.state.specs.Memory.{Memory}
use Rattle.state.specs.Settings.{or_none}
use Rattle.solve_blocks.specs.Needs.{Fit, StageFit, MemoryLong}
use Rattle.solve_blocks.proofs.AdmittedLaws.{Admitted}
use Rattle.radau_core.specs.Choices.{flag_of, option_at, mass_of, source_of, rule_of, tolerances_of}
use Rattle.radau_core.specs.Choices.{flag_word, option_tag, number_value, mass_word, source_word, rule_word}
use Rattle.radau_core.specs.Choices.{tolerances_tag, rtol_value, atol_value}
use Rattle.radau_core.specs.Places.{◌#◌, run_at, words_of, doubles_of, Sized}
use Rattle.radau_core.proofs.PlaceLaws.{stage-back, singular-back, strides-back}
use Rattle.std.specs.Prelude.{None, Some, Option}

pub flag-held : (b : Bool) → flag_of (flag_word b) ≡ b
flag-held true = refl
flag-held false = refl

number-back : (x : Option Float) → option_at (option_tag x) (number_value x) ≡ x
unfolding option_at pick
number-back None = refl
number-back (Some x) = refl

pub whole_back : (x : Option ℕ) → option_at (option_tag x) (or_none x) ≡ x
unfolding option_at pick
whole_back None = refl
whole_back (Some k) = refl

pub mass-back : (x : Mass) → mass_of (mass_word x) ≡ x
unfolding mass_of pick
mass-back mass.Identity = refl
mass-back mass.Full = refl

pub source-back : (x : Source) → source_of (source_word x) ≡ x
unfolding source_of pick
source-back source.Host = refl
source-back source.Differences = refl

pub rule-back : (x : Rule) → rule_of (rule_word x) ≡ x
unfolding rule_of pick
rule-back rule.Rust = refl
rule-back rule.Book = refl

tolerances-back : (x : Tolerances) → tolerances_of (tolerances_tag x) (rtol_value x) (atol_value x) ≡ x
unfolding tolerances_of pick
tolerances-back (tolerances.Scalars rtol atol) = refl
tolerances-back tolerances.Lists = refl

pub run-held : (r : Run) → run_at (words_of r) (doubles_of r) ≡ r
run-held r =
    let s = r.settings in
    let c = r.control in
    rw (
      stage-back r.stage,
      flag-held c.first,
      flag-held c.last,
      flag-held c.reject,
      flag-held c.call_jac,
      flag-held c.call_decomp,
      flag-held c.made_here,
      number-back r.numbers.xout,
      tolerances-back r.fixed.tolerances,
      flag-held s.predictive,
      flag-held s.dense_output,
      mass-back s.mass,
      source-back s.source,
      rule-back s.rule,
      number-back s.max_step,
      number-back s.min_step,
      number-back s.newton_tol,
      number-back s.first_step,
      whole_back s.nind1,
      whole_back s.nind2,
      whole_back s.nind3,
      singular-back r.notes.singular,
      strides-back r.notes.strides,
    )

pub run-sized : (r : Run) → Sized (words_of r) (doubles_of r)
run-sized r = record { words = refl; doubles = refl }

-- ---- a run that was admitted and put into its places is what `advanced` asks for

module _ {w : List ℕ} {d : List Float} (r : Run) (e : w ≡ words_of r) (f : d ≡ doubles_of r) where
  pub held_at : run_at w d ≡ r
  held_at = ap (λ (v : List ℕ). run_at v d) e ∙ ap (λ (v : List Float). run_at (words_of r) v) f ∙ run-held r

  pub sized-at : Sized w d
  sized-at = record { words = ap (λ (v : List ℕ). length v) e; doubles = ap (λ (v : List Float). length v) f }

  pub admitted-at : {m : Memory} → Admitted r m
      → Sized w d × ((Fit 16 (w # 16) (run_at w d) × StageFit (w # 16) (run_at w d)) × MemoryLong (w # 16) m)
  admitted-at {m} q = (
    sized-at,
    subst (λ (s : Run). (Fit 16 s.shape.n s × StageFit s.shape.n s) × MemoryLong s.shape.n m)
        (sym held_at) ((q.fit, q.stage), q.long),
  )
