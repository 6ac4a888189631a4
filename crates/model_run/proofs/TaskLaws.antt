-- The two ways out of a task: its opening is refused, or the run goes on from the memory that it was given.
use Prim.Native.Nat.{ℕ}
use mathlib.Core.Path.{◌≡◌, sym, ap, ap₂, ◌∙◌}
use mathlib.Core.List.{List, ◌++◌}
use lib.ListN.{drop, take-append-drop}
use lib.Ieee.{Float}
use Rattle.state.specs.declared.run.Run.{Run}
use Rattle.state.specs.declared.talk.Place.{Place}
use Rattle.state.specs.declared.talk.Refusal.{Refusal}
use Rattle.state.specs.declared.talk.Request.{Request}
use Rattle.state.specs.Memory.{Memory}
use Rattle.opening.specs.Opening.{open_of}
use Rattle.opening.proofs.Theorems.{refused-kept}
use Rattle.model_run.specs.declared.run.TaskOutcome.{TaskOutcome}
use Rattle.model_run.specs.declared.run.Task.{Task}
use Rattle.model_run.specs.Budget.{host_for, from_opened, whole_of, room_of, memory_of, opening_of, run_of, ran_of}
use Rattle.model_run.proofs.OpeningKept.{opening-kept}
use Rattle.std.specs.Prelude.{Ok, Err}
use Rattle.state.specs.Talk.{Opened, call}

module _ (t : Task) (rates : List Float) (species : List ℕ) where
  abbrev outcome_at : Opened → Memory → TaskOutcome
  outcome_at a m =
      let f = from_opened (host_for t rates species) a m in
      record { finish = f.finish; amounts = f.memory.amounts.y ++ drop (room_of t.n) t.amounts }

  led : {a a' : Opened} → a ≡ (open_of (opening_of t)).answer → a ≡ a' → (open_of (opening_of t)).memory ≡ memory_of t
      → outcome_at a' (memory_of t) ≡ run_of t rates species
  unfolding run_of whole_of
  led answered same kept = ap₂ outcome_at (sym same ∙ answered) (sym kept)

  pub run-refused : {a : Opened} (x : Refusal) → a ≡ (open_of (opening_of t)).answer → a ≡ Err x
      → record { finish = Err x; amounts = t.amounts } ≡ run_of t rates species
  unfolding from_opened
  run-refused x answered same =
      ap (λ (y : List Float). record { finish = Err x; amounts = y })
      (sym (take-append-drop (room_of t.n) t.amounts))
      ∙ led answered same (refused-kept (opening_of t) x (sym answered ∙ same))

  pub run_ran : {a : Opened} (r : Run) (q : Request) (p : Place)
      → a ≡ (open_of (opening_of t)).answer → a ≡ Ok (call r q p)
      → ran_of t rates species r q p ≡ run_of t rates species
  unfolding from_opened ran_of
  run_ran r q p answered same = led answered same (opening-kept t r q p (sym answered ∙ same))
