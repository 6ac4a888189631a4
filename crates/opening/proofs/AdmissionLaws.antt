-- The laws of specs/Admission.antt: settings that are refused make a state unfit, and rows 4 to 8 that
-- pass bound the settings.
use Prim.Native.Nat.{ℕ, ◌+◌, ◌*◌, ◌≤◌}
use mathlib.Core.Path.{◌≡◌, refl, ap, sym, ◌∙◌}
use mathlib.Core.Bool.{Bool, true, false, not}
use mathlib.Core.List.{List, [], ◌∷◌, ◌++◌}
use native.Mathlib.Nat.{mul-le-mul}
use native.Mathlib.Omega.{arith}
use Rattle.words.specs.Loop.{pick}
use Rattle.state.specs.declared.talk.Refusal.{Refusal}
use Rattle.state.specs.declared.talk.Refusal.TheVariants.{Unfit}
use Rattle.words.proofs.Branch.{pick_yes, pick_no}
use Rattle.state.specs.declared.settings.Settings.{Settings}
use Rattle.state.specs.declared.run.Run.{Run}
use Rattle.state.specs.declared.talk.Reply.{Reply}
use Rattle.state.specs.Memory.{Memory, lengths_fit}
use Rattle.opening.specs.Rows.{Test, verdict_of, next_of, outside, range_rows}
use Rattle.opening.specs.Admission.{all_unfit, unfit_of, state_rows, count_rows, reply_rows, admission_rows}
use Rattle.opening.proofs.RowLaws.{joined, verdict-append, verdict-first-proof}
use Rattle.opening.proofs.OpeningLaws.{within}
use Rattle.std.specs.Prelude.{Err}
use Rattle.state.specs.Talk.{Verdict, passed_all}

unfit-row : (b : Bool) (r : Refusal) (v : Verdict)
    → unfit_of (pick b (Err r) v) ≡ pick b (Err Unfit) (unfit_of v)
unfolding pick unfit_of
unfit-row true r v = refl
unfit-row false r v = refl

pub unfit-all : (ts : List Test) → unfit_of (verdict_of ts) ≡ verdict_of (all_unfit ts)
unfolding verdict_of unfit_of
unfit-all [] = refl
unfit-all (t ∷ ts) =
    unfit-row t.holds t.refusal (verdict_of ts) ∙ ap (pick t.holds (Err Unfit)) (unfit-all ts)

-- the largest product of the bounds fits
pub product_small : (k m : ℕ) → k ≤ 16 → m ≤ 1_000_000 → 3 * (k + 1) * m ≤ 51 * 1_000_000
product_small k m h g = mul-le-mul (let e : 3 * (k + 1) ≤ 51 = omega arith in e) g

-- settings that pass are in range
pub settings-bounded : (s : Settings) → verdict_of (all_unfit (range_rows s)) ≡ passed_all
    → (s.max_steps ≤ 1_000_000) × (s.newton_maxiter ≤ 16)
settings-bounded s e =
    let none = (verdict-first-proof (all_unfit (range_rows s))).1.0 e in (
      (within 1 1_000_000 s.max_steps (none 0 (omega arith))).1,
      (within 1 16 s.newton_maxiter (none 4 (omega arith))).1,
    )

-- ---- the four ways out of an admission

abbrev pub later_rows : Run → Reply → List ℕ → List ℕ → List Test
later_rows r p ip1 ip2 =
    all_unfit (range_rows r.settings) ++ (state_rows r ip1 ip2 ++ (count_rows r ++ reply_rows r.stage p))

pub later-joined : (r : Run) (p : Reply) (ip1 ip2 : List ℕ) → verdict_of (all_unfit (range_rows r.settings))
    ≡ passed_all
    → next_of (verdict_of (state_rows r ip1 ip2))
    (next_of (verdict_of (count_rows r)) (verdict_of (reply_rows r.stage p)))
    ≡ verdict_of (later_rows r p ip1 ip2)
later-joined r p ip1 ip2 e =
    ap (λ (v : Verdict). next_of (verdict_of (state_rows r ip1 ip2)) v)
    (sym (joined (count_rows r) (reply_rows r.stage p)))
    ∙ sym (joined (state_rows r ip1 ip2) (count_rows r ++ reply_rows r.stage p))
    ∙ sym ((verdict-append (all_unfit (range_rows r.settings))
    (state_rows r ip1 ip2 ++ (count_rows r ++ reply_rows r.stage p))).0 e)

pub later-refused : (r : Run) (p : Reply) (ip1 ip2 : List ℕ) (x : Refusal)
    → verdict_of (all_unfit (range_rows r.settings)) ≡ Err x → Err x ≡ verdict_of (later_rows r p ip1 ip2)
later-refused r p ip1 ip2 x e =
    sym ((verdict-append (all_unfit (range_rows r.settings))
    (state_rows r ip1 ip2 ++ (count_rows r ++ reply_rows r.stage p))).1 x e)

module _ (r : Run) (p : Reply) (m : Memory) where
  pub unfit-order : outside 1 32 r.shape.n ≡ true → Err Unfit ≡ verdict_of (admission_rows r p m)
  unfolding verdict_of
  unfit-order h = sym (pick_yes _ _ h)

  pub unfit-length : outside 1 32 r.shape.n ≡ false → lengths_fit r.shape.n m ≡ false
      → Err Unfit ≡ verdict_of (admission_rows r p m)
  unfolding verdict_of
  unfit-length h g = sym (pick_no _ _ h ∙ pick_yes _ _ (ap not g))

  pub fit-later : outside 1 32 r.shape.n ≡ false → lengths_fit r.shape.n m ≡ true
      → verdict_of (later_rows r p m.factors.ip1 m.factors.ip2) ≡ verdict_of (admission_rows r p m)
  unfolding verdict_of
  fit-later h g = sym (pick_no _ _ h ∙ pick_no _ _ (ap not g))
