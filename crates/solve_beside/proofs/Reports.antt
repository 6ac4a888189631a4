-- Reports, what follows them, and the columns of a difference Jacobian.
use Prim.Native.Nat.{ℕ, zero, suc, ◌+◌}
use mathlib.Core.Path.{◌≡◌, refl, ap}
use mathlib.Core.Bool.{false}
use mathlib.Core.List.{List, [], ◌∷◌}
use lib.ListN.{set}
use lib.Ieee.{Float}
use Rattle.words.specs.Words.{◌!◌}
use Rattle.words.specs.Loop.{loop}
use Rattle.state.specs.declared.run.Run.{Run}
use Rattle.state.specs.declared.run.Stage.{Stage}
use Rattle.state.specs.declared.talk.Reply.{Reply}
use Rattle.state.specs.declared.talk.Reply.TheVariants as reply
use Rattle.state.specs.Memory.{Memory}
use Rattle.solve_blocks.specs.declared.step.Heard.{Heard}
use Rattle.solve_blocks.specs.declared.step.Heard.TheVariants as heard
use Rattle.solve_blocks.specs.declared.step.Step.TheVariants as step
use Rattle.solve_blocks.specs.Setters.{◌▸◌, in_control, in_numbers, set_singular, set_reject, set_hnew}
use Rattle.solve_blocks.specs.Events.{not-aimed, logged}
use Rattle.solve_blocks.specs.Report.{reported_of, hnew_of, grown_of, renewed_of, arrived_of}
use Rattle.solve_blocks.specs.Jacobian.{perturbation, column_at, columned, ask_column_of, column_of}
use Rattle.solve_blocks.specs.Advance.{started_of, returned_of}
use Rattle.solve_beside.specs.Changes.{Changes, run_by, memory_by}
use Rattle.solve_beside.proofs.Branches.{pick-maps, on_core}
use Rattle.solve_beside.proofs.Carried.{on_step, on_heard, on_columned, on_stepped}

-- a column is written to the one Jacobian as to the other: asked where a difference Jacobian is made, nowhere else
abbrev pub ColumnsSame : Changes → Type 0
ColumnsSame c =
    (n col : ℕ) (p : Float) (fp fo jac : List Float)
    → loop (column_at n col p fp fo) 0 n (c.jac jac) ≡ c.jac (loop (column_at n col p fp fo) 0 n jac)

module _ (c : Changes) where
  pub reported-same : (again : Stage) (p : Reply) (r : Run)
      → reported_of again p (run_by c r) ≡ on_heard c (reported_of again p r)
  unfolding reported_of
  reported-same again reply.Filled r = refl
  reported-same again reply.Continue r = refl
  reported-same again reply.Interrupt r = refl
  reported-same again (reply.Modified x) r = refl
  reported-same again (reply.Mark x) r = refl

  grown-same : (r : Run) (hnew : Float) → grown_of (run_by c r) hnew ≡ run_by c (grown_of r hnew)
  unfolding grown_of
  grown-same r hnew = pick-maps (run_by c) _ refl refl

  renewed-same : (r : Run) (hnew : Float) → renewed_of (run_by c r) hnew ≡ on_core (on_step c) (renewed_of r hnew)
  unfolding renewed_of
  renewed-same r hnew =
      pick-maps (on_core (on_step c)) _ refl
      (ap (λ (s : Run). logged (step.Main s) (not-aimed r.numbers.x hnew ∷ [])) (grown-same r hnew))

  pub arrived-same : (r : Run) → arrived_of (run_by c r) ≡ on_core (on_step c) (arrived_of r)
  unfolding arrived_of hnew_of
  arrived-same r =
      pick-maps (on_core (on_step c)) _ refl
      (renewed-same
      (r ▸ in_control (set_singular 0) ▸ in_numbers (set_hnew (hnew_of r)) ▸ in_control (set_reject false)) (hnew_of r))

  pub started-same : (t : Heard) (m : Memory)
      → started_of (on_heard c t) (memory_by c m) ≡ on_stepped c (started_of t m)
  unfolding started_of
  started-same (heard.Asked a) m = refl
  started-same (heard.Reported r) m = refl

  pub returned-same : (t : Heard) → returned_of (on_heard c t) ≡ on_core (on_step c) (returned_of t)
  unfolding returned_of
  returned-same (heard.Asked a) = refl
  returned-same (heard.Reported r) = arrived-same r

  pub column-same : ColumnsSame c → (k : ℕ) (r : Run) (y yp fp fo jac : List Float)
      → column_of k (run_by c r) y yp fp fo (c.jac jac) ≡ on_columned c (column_of k r y yp fp fo jac)
  unfolding column_of ask_column_of
  column-same same zero r y yp fp fo jac = refl
  column-same same (suc col) r y yp fp fo jac =
      let n = r.shape.n in
      let restored = set yp col (y ! col) in
      let s = same n col (perturbation (y ! col)) fp fo jac in
      pick-maps (on_columned c) _ (ap (ask_column_of (run_by c r) (col + 1) y restored) s)
      (ap (columned (step.Matrices (run_by c r)) restored) s)
