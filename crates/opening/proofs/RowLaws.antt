-- Laws of specs/Rows.antt: the verdict of one table after another, the verdict as the first test that holds, and
-- place_of as the first place
-- with a property.
use Prim.Native.Nat.{ℕ, zero, suc, ◌≤◌, ◌<◌, suc-le-suc}
use mathlib.Core.Path.{◌≡◌, refl, sym, ap, ◌∙◌}
use mathlib.Core.Bool.{Bool, true, false, not, true≢false}
use mathlib.Core.List.{List, [], ◌∷◌, ◌++◌}
use mathlib.Core.Logic.{◌↔◌}
use native.Mathlib.Nat.{le_antisymm, le_of_suc-le-suc}
use native.Mathlib.Omega.{arith, by_contra}
use lib.Dec.{eqb}
use lib.ListN.{length, get_or}
use lib.Ieee.{Float}
use borrow.Author.Tests.{ne_eqb}
use Rattle.words.specs.Words.{◌!◌}
use Rattle.words.specs.Loop.{pick}
use Rattle.words.proofs.Branch.{pick_yes, pick_no, pick_all}
use Rattle.state.specs.declared.talk.Refusal.{Refusal}
use Rattle.state.specs.declared.talk.Refusal.TheVariants as refusal
use Rattle.state.specs.declared.settings.Settings.{Settings}
use Rattle.opening.specs.Rows.{Test, test, verdict_of, next_of, place_of, end_rows, list_rows}
use Rattle.opening.specs.Rows.{number_rows, range_rows, tolerance_rows, step_rows, value_rows}
use Rattle.std.specs.Prelude.{Result, Err, IsErrAnd, Ok}
use Rattle.state.specs.Talk.{Verdict, passed_all}

-- ---- small things

-- what holds at 0, and at suc k for each k below n, holds below suc n
below_suc : (P : ℕ → Type 0) (n : ℕ) → P 0 → ((k : ℕ) → k < n → P (suc k)) → (k : ℕ) → k < suc n → P k
below_suc P n here later zero l = here
below_suc P n here later (suc k) l = later k (le_of_suc-le-suc l)

no-refusal : {X : Type 0} (r : Refusal) → passed_all ≡ Err r → X
no-refusal r e = let z : ◌≡◌ {A = ℕ} 0 1 = cc in absurd (omega arith)

-- row 10: a sum above n is not n
pub not_equal : (m n : ℕ) → n < m → true ≡ not (eqb m n)
not_equal m n l = sym (ap not (ne_eqb m n (λ e. omega arith)))

-- ---- one table after another

pub no_test : passed_all ≡ verdict_of []
unfolding verdict_of
no_test = refl

pub one-test : (b : Bool) (r : Refusal) → verdict_of (test b r ∷ []) ≡ pick b (Err r) passed_all
unfolding verdict_of
one-test b r = refl

next_row : (b : Bool) (r : Refusal) (v w : Verdict)
    → pick b (Err r) (next_of v w) ≡ next_of (pick b (Err r) v) w
unfolding pick next_of
next_row true r v w = refl
next_row false r v w = refl

pub joined : (ts us : List Test) → verdict_of (ts ++ us) ≡ next_of (verdict_of ts) (verdict_of us)
unfolding verdict_of next_of
joined [] us = refl
joined (t ∷ ts) us =
    ap (pick t.holds (Err t.refusal)) (joined ts us)
    ∙ next_row t.holds t.refusal (verdict_of ts) (verdict_of us)

-- the second table decides where the first passes, and a refusal of the first stands
pub verdict-append : (ts us : List Test)
    → (verdict_of ts ≡ passed_all → verdict_of (ts ++ us) ≡ verdict_of us)
    × ((r : Refusal) → verdict_of ts ≡ Err r → verdict_of (ts ++ us) ≡ Err r)
unfolding next_of
verdict-append ts us = (λ e. rw (joined ts us, e), λ r e. rw (joined ts us, e))

-- ---- a verdict test by test: what passes leaves it to the rest, and a refusal stands

-- what `?` hands on
pub handed-on : {A E : Type 0} {r : Result A E} {x : E} → IsErrAnd r (λ y. y ≡ x) → r ≡ Err x
handed-on {r = Ok a} h = absurd h
handed-on {r = Err y} h = ap Err h

module _ {v : Verdict} (ts us : List Test) (e : v ≡ verdict_of ts) where
  pub passes : {w : Verdict} {u : Unit {0}} → v ≡ Ok u → w ≡ verdict_of us → w ≡ verdict_of (ts ++ us)
  passes p f = f ∙ sym ((verdict-append ts us).0 (sym e ∙ p))

  pub stops : {w : Verdict} {r : Refusal} → v ≡ Err r → IsErrAnd w (λ x. x ≡ r) → w ≡ verdict_of (ts ++ us)
  stops {r = r} p h = handed-on h ∙ sym ((verdict-append ts us).1 r (sym e ∙ p))

module _ {b : Bool} (r : Refusal) (us : List Test) where
  pub refused-by : b ≡ true → Err r ≡ verdict_of (test b r ∷ us)
  unfolding verdict_of
  refused-by h = sym (pick_yes _ _ h)

  pub passed-by : {w : Verdict} → b ≡ false → w ≡ verdict_of us → w ≡ verdict_of (test b r ∷ us)
  unfolding verdict_of
  passed-by h f = f ∙ sym (pick_no _ _ h)

pub no-test-left : passed_all ≡ verdict_of []
unfolding verdict_of
no-test-left = refl

-- ---- the first test that holds

abbrev pub test_at : List Test → ℕ → Test
test_at ts i = get_or ts i (test false refusal.Order)

-- some test holds, its refusal is r, and no earlier test holds
pub record FirstHolds (ts : List Test) (r : Refusal) : Type 0 where
  pub place : ℕ
  pub inside : place < length ts
  pub holds : (test_at ts place).holds ≡ true
  pub refuses : (test_at ts place).refusal ≡ r
  pub earlier : (k : ℕ) → k < place → (test_at ts k).holds ≡ false

abbrev pub NoneHolds : List Test → Type 0
NoneHolds ts = (i : ℕ) → i < length ts → (test_at ts i).holds ≡ false

refused-first : (ts : List Test) (r : Refusal) → verdict_of ts ≡ Err r → FirstHolds ts r
unfolding verdict_of
refused-first [] r = no-refusal r
refused-first (t ∷ ts) r =
    pick_all (λ (v : Verdict). v ≡ Err r → FirstHolds (t ∷ ts) r) t.holds (Err t.refusal) (verdict_of ts)
    (λ h e. record { place = 0; inside = omega arith; holds = h; refuses = cc; earlier = λ k l. absurd (omega arith) })
    (λ h e. later h (refused-first ts r e))
  where
    later : t.holds ≡ false → FirstHolds ts r → FirstHolds (t ∷ ts) r
    later h f =
        record {
          place = suc f.place;
          inside = omega arith;
          holds = f.holds;
          refuses = f.refuses;
          earlier = below_suc (λ (k : ℕ). (test_at (t ∷ ts) k).holds ≡ false) f.place h f.earlier;
        }

first-refused : (ts : List Test) (r : Refusal) (i : ℕ) → i < length ts
    → (test_at ts i).holds ≡ true → (test_at ts i).refusal ≡ r
    → ((k : ℕ) → k < i → (test_at ts k).holds ≡ false)
    → verdict_of ts ≡ Err r
unfolding verdict_of
first-refused [] r i l h e none = absurd (omega arith)
first-refused (t ∷ ts) r zero l h e none = pick_yes (Err t.refusal) (verdict_of ts) h ∙ ap Err e
first-refused (t ∷ ts) r (suc i) l h e none =
    pick_no (Err t.refusal) (verdict_of ts) (none 0 (omega arith))
    ∙ first-refused ts r i (le_of_suc-le-suc l) h e (λ k b. none (suc k) (suc-le-suc b))

passed_none : (ts : List Test) → verdict_of ts ≡ passed_all → NoneHolds ts
unfolding verdict_of
passed_none [] = λ e i l. absurd (omega arith)
passed_none (t ∷ ts) =
    pick_all (λ (v : Verdict). v ≡ passed_all → NoneHolds (t ∷ ts)) t.holds (Err t.refusal) (verdict_of ts)
    (λ h e. no-refusal t.refusal (sym e))
    (λ h e. below_suc (λ (k : ℕ). (test_at (t ∷ ts) k).holds ≡ false) (length ts) h (passed_none ts e))

none_passed : (ts : List Test) → NoneHolds ts → verdict_of ts ≡ passed_all
unfolding verdict_of
none_passed [] none = refl
none_passed (t ∷ ts) none =
    pick_no (Err t.refusal) (verdict_of ts) (none 0 (omega arith))
    ∙ none_passed ts (λ i l. none (suc i) (suc-le-suc l))

-- a verdict is the refusal of the first test that holds, and passes exactly where none does
pub verdict-first-proof : (ts : List Test)
    → ((r : Refusal) → (verdict_of ts ≡ Err r) ↔ FirstHolds ts r)
    × ((verdict_of ts ≡ passed_all) ↔ NoneHolds ts)
verdict-first-proof ts = (
  λ r. (refused-first ts r, λ f. first-refused ts r f.place f.inside f.holds f.refuses f.earlier),
  (passed_none ts, none_passed ts),
)

-- ---- the first place with a property

-- no earlier entry has it, and the entry there, if there is one, does
pub record FirstPlace (bad : Float → Bool) (xs : List Float) (place : ℕ) : Type 0 where
  pub within : place ≤ length xs
  pub earlier : (k : ℕ) → k < place → bad (xs ! k) ≡ false
  pub there : place < length xs → bad (xs ! place) ≡ true

module _ (bad : Float → Bool) where
  pub place-first-proof : (xs : List Float) → FirstPlace bad xs (place_of bad xs)
  unfolding place_of
  place-first-proof [] =
      record { within = omega arith; earlier = λ k l. absurd (omega arith); there = λ l. absurd (omega arith) }
  place-first-proof (x ∷ xs) =
      pick_all (FirstPlace bad (x ∷ xs)) (bad x) 0 (suc (place_of bad xs))
      (λ h. record { within = omega arith; earlier = λ k l. absurd (omega arith); there = λ l. h })
      (λ h. later h (place_of bad xs) (place-first-proof xs))
    where
      later : bad x ≡ false → (p : ℕ) → FirstPlace bad xs p → FirstPlace bad (x ∷ xs) (suc p)
      later h p f =
          record {
            within = suc-le-suc f.within;
            earlier = below_suc (λ (k : ℕ). bad ((x ∷ xs) ! k) ≡ false) p h f.earlier;
            there = λ l. f.there (le_of_suc-le-suc l);
          }

  -- of two first places neither is after the other
  no-later : (xs : List Float) (p q : ℕ) → FirstPlace bad xs p → FirstPlace bad xs q → q ≤ p
  no-later xs p q f g = by_contra q p (λ l. true≢false (sym (f.there (omega (arith, g.within))) ∙ g.earlier p l))

  pub place-only : (xs : List Float) (p : ℕ) → FirstPlace bad xs p → p ≡ place_of bad xs
  place-only xs p f =
      le_antisymm (no-later xs (place_of bad xs) p (place-first-proof xs) f)
      (no-later xs p (place_of bad xs) f (place-first-proof xs))

-- ---- rows 3 to 12, group by group

pub values-joined : (s : Settings) (n : ℕ) (x0 xend : Float) (y m rtol atol : List Float)
    → next_of (verdict_of (end_rows x0 xend)) (next_of (verdict_of (list_rows y m rtol atol))
    (next_of (verdict_of (number_rows s)) (next_of (verdict_of (range_rows s))
    (next_of (verdict_of (tolerance_rows rtol atol)) (verdict_of (step_rows s n x0 xend))))))
    ≡ verdict_of (value_rows s n x0 xend y m rtol atol)
values-joined s n x0 xend y m rtol atol =
    ap (λ (v : Verdict). next_of (verdict_of (end_rows x0 xend))
    (next_of (verdict_of (list_rows y m rtol atol))
    (next_of (verdict_of (number_rows s)) (next_of (verdict_of (range_rows s)) v))))
    (sym (joined (tolerance_rows rtol atol) (step_rows s n x0 xend)))
    ∙ ap (λ (v : Verdict). next_of (verdict_of (end_rows x0 xend))
    (next_of (verdict_of (list_rows y m rtol atol)) (next_of (verdict_of (number_rows s)) v)))
    (sym (joined (range_rows s) _))
    ∙ ap (λ (v : Verdict). next_of (verdict_of (end_rows x0 xend)) (next_of (verdict_of (list_rows y m rtol atol)) v))
    (sym (joined (number_rows s) _))
    ∙ ap (λ (v : Verdict). next_of (verdict_of (end_rows x0 xend)) v) (sym (joined (list_rows y m rtol atol) _))
    ∙ sym (joined (end_rows x0 xend) _)
