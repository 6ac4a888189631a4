-- An attempt begins: its two guards, the scale, the first guess of the stages, and the request for the first of
-- them (radau.rs:421-502).
use Rattle.std.specs.Prelude.{ℕ, ◌+◌, ◌*◌, Bool, List, [], ◌∷◌, ltb, set, Float}
use Rattle.std.specs.Float.Ieee.{le}
use Rattle.words.specs.Words.{◌⊕◌, ◌⊖◌, ◌⊗◌, ◌⊘◌, ◌!◌}
use Rattle.words.specs.Constants.{«0·1», «0·001»}
use Rattle.words.specs.Loop.{loop, pick}
use Rattle.scalar.specs.Order.{abs_of, max_of}
use Rattle.scalar.specs.Powers.{four_fifths_of}
use Rattle.scalar.specs.Coefficients.{C1, C2, C1M1, C2M1, TI00, TI01, TI02, TI10, TI11, TI12, TI20, TI21, TI22}
use Rattle.state.specs.declared.run.Run.{Run}
use Rattle.state.specs.declared.run.Status.TheVariants.{NeedLargerNMax, StepSizeTooSmall}
use Rattle.state.specs.declared.run.Stage.{Stage}
use Rattle.state.specs.declared.run.Stage.TheVariants as stage
use Rattle.state.specs.declared.talk.Place.{Place}
use Rattle.state.specs.declared.talk.Place.TheVariants.{ContToZ1}
use Rattle.state.specs.Memory.{Newton, newton, zeros}
use Rattle.state.specs.declared.talk.Call.{Call}
use Rattle.solve_blocks.specs.Setters.{◌▸◌, in_counts, in_control, in_numbers}
use Rattle.solve_blocks.specs.Setters.{one_total, set_newt, set_xph, set_faccon, set_theta}
use Rattle.solve_blocks.specs.Events.{begun, over-limit, too_small, Logged, logged}
use Rattle.solve_blocks.specs.Entries.{combined}
use Rattle.solve_blocks.specs.Scale.{weighted_of}
use Rattle.solve_blocks.specs.Matrices.{ask_derivative, ended_of}

-- ---- the stages' amounts, asked of the host

-- cont[i] = y[i] + z[i] [radau.rs:498-501] [alike radau.rs:503-505] [alike radau.rs:507-509]
unfoldable pub stage_sum_at : List Float → List Float → ℕ → List Float → List Float
stage_sum_at y z i cont = set cont i (y ! i ⊕ z ! i)

pub record Staged : Type 0 where
  pub call : Call
  pub cont : List Float

abbrev pub staged : Call → List Float → Staged
staged c cont = record { call = c; cont = cont }

-- a derivative is asked at x, of the amounts y + z, and counted with its request; the Rust counts
-- three at once [radau.rs:511]
unfoldable pub ask_stage_of : Run → Stage → Float → Place → List Float → List Float → List Float → Staged
ask_stage_of r s x p y z cont =
    staged (ask_derivative r s x p) (loop (stage_sum_at y z) 0 r.shape.n cont)

-- the first stage [radau.rs:502]
abbrev pub ask_first_of : Run → List Float → List Float → List Float → Staged
ask_first_of r y z1 cont = ask_stage_of r stage.Newton1 (r.numbers.x ⊕ C1 ⊗ r.numbers.h) ContToZ1 y z1 cont

-- ---- the first guess

-- one stage's increment from the last step's coefficients [radau.rs:465-471]
unfoldable pub guessed : Float → Float → Float → Float → Float
guessed c ak1 ak2 ak3 = c ⊗ (ak1 ⊕ (c ⊖ C2M1) ⊗ (ak2 ⊕ (c ⊖ C1M1) ⊗ ak3))

-- [radau.rs:473-477]
unfoldable pub guess_at : ℕ → Float → Float → Float → List Float → ℕ → Newton → Newton
guess_at n c1q c2q c3q cont i m =
    let ak1 = cont ! (n + i) in
    let ak2 = cont ! (2 * n + i) in
    let ak3 = cont ! (3 * n + i) in
    let z1 = guessed c1q ak1 ak2 ak3 in
    let z2 = guessed c2q ak1 ak2 ak3 in
    let z3 = guessed c3q ak1 ak2 ak3 in
    newton (set m.z1 i z1) (set m.z2 i z2) (set m.z3 i z3)
    (set m.f1 i (combined z1 TI00 z2 TI01 z3 TI02))
    (set m.f2 i (combined z1 TI10 z2 TI11 z3 TI12))
    (set m.f3 i (combined z1 TI20 z2 TI21 z3 TI22))

-- zeros before the first acceptance, else from the coefficients [radau.rs:449-464]
unfoldable pub guess_of : Bool → ℕ → Float → Float → List Float → Newton → Newton
guess_of first n h hold cont m =
    pick first (newton (zeros n) (zeros n) (zeros n) (zeros n) (zeros n) (zeros n))
    (loop (guess_at n (C1 ⊗ (h ⊘ hold)) (C2 ⊗ (h ⊘ hold)) (h ⊘ hold) cont) 0 n m)

-- ---- the attempt

pub record Begun : Type 0 where
  pub call : Call
  pub scal : List Float
  pub cont : List Float
  pub newton : Newton

abbrev pub begun_as : Call → List Float → List Float → Newton → Begun
begun_as c scal cont m = record { call = c; scal = scal; cont = cont; newton = m }

-- [radau.rs:313]
abbrev pub thet : Float
thet = «0·001»

-- what the Newton iteration starts with
abbrev pub started : Run → Run
started r =
    -- [radau.rs:447]
    r ▸ in_numbers (set_xph (r.numbers.x ⊕ r.numbers.h))
    -- [radau.rs:479-482]
    ▸ in_numbers (set_faccon (four_fifths_of (max_of r.numbers.faccon r.settings.uround)))
    ▸ in_numbers (set_theta (abs_of thet))
    ▸ in_control (set_newt 0)

-- past the guards; the first round's test of 484 is that max_newton isn't 0, which refusal 8 has
-- seen to (radau.rs:436-502)
unfoldable pub began_of : Run → List Float → List Float → List Float → Newton → Begun
began_of r y scal cont m =
    let g = guess_of r.control.first r.shape.n r.numbers.h r.numbers.hold cont m in
    let a = ask_first_of (started r) y g.z1 cont in
    begun_as a.call (weighted_of r.shape r.numbers.hhfac scal) a.cont g

-- the attempt is counted before its guards, the limit tested first [radau.rs:421-434]
unfoldable pub attempt_of : Run → List Float → List Float → List Float → Newton → Logged Begun
attempt_of r y scal cont m =
    let s = r ▸ in_counts one_total in
    let h = r.numbers.h in
    let x = r.numbers.x in
    pick (ltb r.settings.max_steps (r.counts.total + 1))
    (logged (begun_as (ended_of NeedLargerNMax s) scal cont m) (over-limit ∷ []))
    (pick (le («0·1» ⊗ abs_of h) (abs_of x ⊗ r.settings.uround))
    (logged (begun_as (ended_of StepSizeTooSmall s) scal cont m) (too_small h x ∷ []))
    (logged (began_of s y scal cont m) (begun h x ∷ [])))
