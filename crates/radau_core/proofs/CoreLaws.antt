-- An advance that is admitted, out of what its three parts do.
use mathlib.Core.Path.{◌≡◌, refl, sym, ap, ◌∙◌}
use mathlib.Core.List.{List}
use native.Mathlib.Omega.{arith}
use lib.Ieee.{Float}
use lib.ListN.{length}
use Prim.Native.Nat.{ℕ}
use Rattle.words.proofs.Loops.{Any, begun}
use Rattle.words.specs.Grid.{Square}
use Rattle.state.specs.declared.run.Run.{Run}
use Rattle.state.specs.declared.talk.Reply.{Reply}
use Rattle.state.specs.Memory.{Memory, Factors}
use Rattle.state.specs.MemorySetters.{set_factors}
use Rattle.state.specs.declared.talk.Call.{Call}
use Rattle.solve_blocks.specs.declared.step.Step.{Step}
use Rattle.solve_blocks.specs.declared.step.Step.TheVariants as step
use Rattle.solve_blocks.specs.Matrices.{tried, passes_of}
use Rattle.solve_blocks.specs.Advance.{Stepped, stepped, replied_of, called, called_of, advance_outcome, advance_by}
use Rattle.solve_blocks.proofs.PassLaws.{passes-stopped}
use Rattle.std.specs.Prelude.{Ok}
use Rattle.state.specs.Talk.{passed_all}

module _ (r : Run) (p : Reply) (m : Memory) where
  pub advanced-by : (t : Stepped) (s : Step) (f : Factors) (c : Call) (w : Memory)
      → t ≡ (replied_of r.stage p r m).core
      → tried s f ≡ (passes_of t.step t.memory.given.mass t.memory.given.jac t.memory.factors).core
      → called c w ≡ (called_of s (set_factors f t.memory)).core
      → advance_outcome (Ok c) w ≡ (advance_by passed_all r p m).core
  unfolding advance_by
  advanced-by t s f c w et es ec = rw (← et, ← es, ← ec)

  -- where a request is open already, no pass is made and nothing more is asked
  none : (c : Call) (mass jac : List Float) (f : Factors)
      → tried (step.Asked c) f ≡ (passes_of (step.Asked c) mass jac f).core
  none c mass jac f = passes-stopped mass jac (begun {P = Any} (omega arith) tt refl) (omega arith) refl

  pub advanced-asked : (s : Step) (c : Call) (w : Memory)
      → stepped s w ≡ (replied_of r.stage p r m).core
      → s ≡ step.Asked c
      → advance_outcome (Ok c) w ≡ (advance_by passed_all r p m).core
  unfolding called_of
  advanced-asked s c w t a =
      advanced-by (stepped s w) (step.Asked c) w.factors c w t
      (none c w.given.mass w.given.jac w.factors
      ∙ ap (λ (x : Step). (passes_of x w.given.mass w.given.jac w.factors).core) (sym a))
      refl

pub square-kept : {n : ℕ} {a b : List Float} → length b ≡ length a → Square n a → Square n b
square-kept e s = record { small = s.small; full = e ∙ s.full }
