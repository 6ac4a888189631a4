-- Wrong readings of the host, each shut out by one case of its definition; and turns that are taken untested from
-- anywhere.
use Prim.Native.Nat.{ℕ}
use mathlib.Core.Bool.{false}
use mathlib.Core.Path.{◌≡◌, refl, ap}
use mathlib.Core.List.{List, [], ◌∷◌}
use native.Mathlib.Omega.{arith}
use lib.ListN.{length}
use lib.Ieee.{Float, nan}
use Rattle.state.specs.declared.run.Tolerances.TheVariants.{Scalars}
use Rattle.state.specs.declared.settings.Rule.TheVariants.{Book}
use Rattle.state.specs.declared.talk.Place.TheVariants.{ContToZ1, YToF0}
use Rattle.state.specs.declared.talk.Refusal.TheVariants.{Unfit}
use Rattle.state.specs.declared.talk.Reply.TheVariants.{Filled, Continue}
use Rattle.state.specs.declared.talk.Request.{Request}
use Rattle.state.specs.declared.talk.Request.TheVariants.{Derivative, Report}
use Rattle.state.specs.Settings.{defaults_of}
use Rattle.state.specs.Memory.{Memory, memory, amounts, newton, given, factors, differences}
use Rattle.opening.specs.Rows.{verdict_of}
use Rattle.opening.specs.Tolerances.{converted_of}
use Rattle.opening.specs.Opening.{shape_of, first_run}
use Rattle.history.specs.Host.{is_end}
use Rattle.history.specs.History.{Point, point}
use Rattle.words.specs.Loop.{pick}
use Rattle.model_run.specs.Host.{source_at, reply_to, answered_by}
use Rattle.model_run.specs.Budget.{last_of, NoneRefused}
use Rattle.std.specs.Prelude.{Err}
use Rattle.state.specs.Talk.{passed_all}

-- every request is answered by 'filled', a report too
pub always-filled : ((q : Request) → Filled ≡ reply_to q) → ⊥
unfolding reply_to
always-filled same =
    let e : Filled ≡ Continue = same (Report nan nan false) in
    let z : ◌≡◌ {A = ℕ} 0 1 = cc in
    omega arith

-- no memory but these coefficients
abbrev only : List Float → Memory
only cont =
    memory
    (amounts [] [] [] cont)
    (newton [] [] [] [] [] [])
    (given [] [] [] [])
    (factors [] [] [] [] [])
    (differences [] [] [])

-- all of cont is taken for amounts: where there are none, an entry of it would be one
pub all-of-cont : ((m : Memory) → m.amounts.cont ≡ source_at ContToZ1 m) → ⊥
unfolding source_at
all-of-cont same =
    let e : ◌≡◌ {A = List Float} (nan ∷ []) [] = same (only (nan ∷ [])) in
    let z : ◌≡◌ {A = ℕ} 1 0 = ap length e in
    omega arith

-- turns are taken untested wherever a run is said to stand: a run of no amounts would be refused
abbrev nowhere : Point
nowhere =
    let c = (converted_of Book 0 (Scalars nan nan) [] []).conversion in
    point (first_run defaults_of 0 nan nan c) (Derivative nan) YToF0 (only [])

pub untested-anywhere : ((start : Point) → NoneRefused (answered_by 0 [] []) start) → ⊥
unfolding verdict_of pick first_run shape_of last_of is_end
untested-anywhere none =
    let e : Err Unfit ≡ passed_all = none nowhere 0 refl in
    let z : ◌≡◌ {A = ℕ} 0 1 = cc in
    omega arith
