-- Numbers that are read have at most sixteen digits.
use Rattle.std.proofs.Common.{◌≡◌, ◌+◌, ◌*◌, Option, None, Some, sym, subst}
use Rattle.std.proofs.Common.{ℕ, zero, suc, ◌-◌, ◌<◌, ◌≤◌, eqb, ltb, leb, List, [], ◌∷◌, length, get_or, set}
use Rattle.std.proofs.Common.{replicate, arith, ltb-false, leb-false}
use Rattle.words.proofs.Branch.{pick_all}
use Rattle.night_totals.specs.Filling.{blank_of, numbered_at, onward, valued_of, kept, longer_of, grown}
use Rattle.night_totals.specs.Filling.{passed_of, passed_from, digit_of, stored_of}
use Rattle.night_totals.specs.Filling.{behind_from, behind_of, number_of, filled_of}
use Rattle.night_totals.specs.Printed.{totals_numbers, totals_from}
use Rattle.night_totals.specs.declared.filling.Filling.{Filling}
use Rattle.night_totals.specs.declared.filling.Number.{Number}
use Rattle.night_totals.specs.declared.filling.Number.TheVariants as numbers
use Rattle.night_totals.proofs.FormLaws.{by_number}
use Rattle.night_chain.specs.Texts.{Short}

abbrev pub Small : List ℕ → Type 0
Small vs = (k : ℕ) → get_or vs k 0 < 10000000000000000

pub record Few (q : Filling) : Type 0 where
  pub number : (v : ℕ) → q.number ≡ numbers.Begun v → v < 10000000000000000
  pub values : Small q.values

-- a text of a form, as far as it has come
abbrev pub AllFew : Option Filling → Type 0
AllFew None = Unit {0}
AllFew (Some q) = Few q

zeros : (n k : ℕ) → get_or (replicate n 0) k 0 < 10000000000000000
zeros zero k = omega arith
zeros (suc n) zero = omega arith
zeros (suc n) (suc k) = zeros n k

pub set-small : (vs : List ℕ) (i v : ℕ) → v < 10000000000000000 → Small vs → Small (set vs i v)
set-small [] i v l h k = omega arith
set-small (x ∷ vs) zero v l h zero = l
set-small (x ∷ vs) zero v l h (suc k) = h (suc k)
set-small (x ∷ vs) (suc i) v l h zero = h zero
set-small (x ∷ vs) (suc i) v l h (suc k) = set-small vs i v l (λ j. h (suc j)) k

no-number : (v : ℕ) → numbers.Awaited 0 ≡ numbers.Begun v → v < 10000000000000000
no-number v e = absurd (let z : ◌≡◌ {A = ℕ} 0 1 = cc in omega arith)

pub blank-few : Few blank_of
blank-few = record { number = no-number; values = zeros 16 }

valued-few : (q : Filling) (v : ℕ) → v < 10000000000000000 → Few q → Few (valued_of q v)
valued-few q v l x = record {
  number = λ w e. let z : v ≡ w = cc in omega arith;
  values = x.values;
}

passed-few : (form : List ℕ) (q : Filling) (b : ℕ) → Few q → AllFew (passed_of form q b)
unfolding passed_of
passed-few form q b x =
    pick_all AllFew (leb (length form) q.at) None _ (λ e. tt)
    (λ e. pick_all AllFew (eqb (get_or form q.at 0) b) (Some (onward q)) None
    (λ y. record { number = x.number; values = x.values }) (λ n. tt))

pub kept-few : (q : Filling) (v : ℕ) → v < 10000000000000000 → Few q → Few (kept q v)
kept-few q v l x = record { number = no-number; values = set-small q.values q.filled v l x.values }

behind-few : (form : List ℕ) (q : Filling) (b : ℕ) → Few q → AllFew (behind_of form q b)
unfolding behind_of stored_of
behind-few form q b x =
    let F = λ (n : Number). AllFew (behind_from form q n b) in
    by_number q.number (λ v e. subst F (sym e) tt)
    (λ v e. subst F (sym e) (pick_all (λ o. AllFew (passed_from form o b)) (leb 16 q.filled) None (Some (kept q v))
    (λ e. tt) (λ n. passed-few form (kept q v) b (kept-few q v (x.number v e) x))))

digit-few : (q : Filling) (d : ℕ) → d < 10 → Few q → AllFew (digit_of q d)
unfolding digit_of longer_of
digit-few q d l x =
    let F = λ (n : Number). AllFew (grown q (longer_of n d)) in
    let G = λ (o : Option ℕ). AllFew (grown q o) in
    by_number q.number (λ v e. subst F (sym e) (valued-few q d (omega arith) x))
    (λ v e. subst F (sym e) (pick_all G (eqb v 0) None _ (λ e. tt)
    (λ e. pick_all G (leb 1000000000000000 v) None _ (λ e. tt)
    (λ e. let h : v < 1000000000000000 = leb-false _ _ e in valued-few q (v * 10 + d) (omega arith) x))))

number-few : (form : List ℕ) (q : Filling) (b : ℕ) → Few q → AllFew (number_of form q b)
unfolding number_of
number-few form q b x =
    pick_all AllFew (ltb b 48) (behind_of form q b) _ (λ e. behind-few form q b x)
    (λ low. pick_all AllFew (ltb 57 b) (behind_of form q b) _ (λ e. behind-few form q b x)
    (λ high. let u : b ≤ 57 = ltb-false _ _ high in digit-few q (b - 48) (omega arith) x))

pub filled-few : (form : List ℕ) (q : Filling) (b : ℕ) → Few q → AllFew (filled_of form q b)
unfolding filled_of
filled-few form q b x =
    pick_all AllFew (eqb b 35) None _ (λ e. tt)
    (λ e. pick_all AllFew (numbered_at form q.at) _ _ (λ e. number-few form q b x) (λ e. passed-few form q b x))

-- ---- the totals that such numbers make

pub data Below : List ℕ → Type 0 where
  last : Below []
  then : {v : ℕ} {vs : List ℕ} → v < 10000000000000000 → Below vs → Below (v ∷ vs)

pub small_by : (vs : List ℕ) → Below vs → Small vs
small_by [] last k = omega arith
small_by (v ∷ vs) (then l x) zero = l
small_by (v ∷ vs) (then l x) (suc k) = small_by vs x k

pub totals-short : (vs : List ℕ) → Small vs → Short (totals_from vs)
totals-short vs h =
    small_by (totals_numbers (totals_from vs))
    (then (h 0) (then (h 1) (then (h 2) (then (h 3) (then (h 4) (then (h 5) (then (h 6) (then (h 7) (then (h 8)
    (then (h 9) (then (h 10) (then (h 11) (then (h 12) (then (h 13) (then (h 14)
    (then (omega arith) last))))))))))))))))
