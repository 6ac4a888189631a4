-- The zeros at the end of a fraction's digits, dropped one at a time.
use Prim.Native.Nat.{ℕ, zero, suc, ◌-◌, ◌/◌, ◌%◌, ◌≤◌, ◌<◌}
use mathlib.Core.Path.{◌≡◌, refl, sym, ◌∙◌}
use native.Mathlib.Omega.{arith}
use borrow.Author.Tests.{eq-eqb, ne_eqb}
use Rattle.words.proofs.Branch.{pick_yes, pick_no}
use Rattle.sheet.specs.Digits.{power, digits}
use Rattle.csv_table.specs.NumberText.{trimmed}

pub thirteen : power 16 13 ≡ 0x0010_0000_0000_0000
unfolding power
thirteen = refl

-- how far the zeros of a fraction are dropped: `width` digits that spell `value` are left to look at
pub record Trimming (fraction width value : ℕ) : Type 0 where
  pub same : trimmed width value ≡ trimmed 13 fraction
  pub some : 0 < value
  pub low : value < power 16 width
  pub few : width ≤ 13

pub trimming-first : (fraction : ℕ) → 0 < fraction → fraction < 0x0010_0000_0000_0000 → Trimming fraction 13 fraction
trimming-first fraction some low =
    record { same = refl; some = some; low = rw thirteen low; few = omega arith }

wide_by : (width value : ℕ) → 0 < value → value < power 16 width → 0 < width
unfolding power
wide_by zero value some low = absurd (let z : ⊥ = omega arith in z)
wide_by (suc k) value some low = omega arith

pub wide : {fraction width value : ℕ} → Trimming fraction width value → 0 < width
wide {fraction} {width} {value} t = wide_by width value t.some t.low

dropped : (k value : ℕ) → value % 16 ≡ 0 → trimmed k (value / 16) ≡ trimmed (suc k) value
unfolding trimmed
dropped k value e = sym (pick_yes _ _ (eq-eqb (value % 16) 0 e))

narrower : (fraction k value : ℕ) → Trimming fraction (suc k) value → value % 16 ≡ 0 → Trimming fraction k (value / 16)
unfolding power
narrower fraction k value t e =
    record {
      same = dropped k value e ∙ t.same;
      some = omega (arith, t.some);
      low = omega (arith, t.low);
      few = omega (arith, t.few);
    }

next-by : (fraction width value : ℕ) → Trimming fraction width value → value % 16 ≡ 0
    → Trimming fraction (width - 1) (value / 16)
next-by fraction zero value t e = absurd (let z : ⊥ = omega (arith, wide t) in z)
next-by fraction (suc k) value t e =
    let s : suc k - 1 ≡ k = omega arith in
    rw s (narrower fraction k value t e)

pub trimming-next : {fraction width value : ℕ} → Trimming fraction width value → value % 16 ≡ 0
    → Trimming fraction (width - 1) (value / 16)
trimming-next {fraction} {width} {value} t e = next-by fraction width value t e

kept : (k value : ℕ) → (value % 16 ≡ 0 → ⊥) → trimmed (suc k) value ≡ digits 16 (suc k) value
unfolding trimmed
kept k value e = pick_no _ _ (ne_eqb (value % 16) 0 e)

last-by : (fraction width value : ℕ) → Trimming fraction width value → (value % 16 ≡ 0 → ⊥)
    → trimmed 13 fraction ≡ digits 16 width value
last-by fraction zero value t e = absurd (let z : ⊥ = omega (arith, wide t) in z)
last-by fraction (suc k) value t e = sym t.same ∙ kept k value e

pub trimming-last : {fraction width value : ℕ} → Trimming fraction width value → (value % 16 ≡ 0 → ⊥)
    → trimmed 13 fraction ≡ digits 16 width value
trimming-last {fraction} {width} {value} t e = last-by fraction width value t e
