-- The entries of a right side as places: what a store leaves alone, and that stores at two places may change turns.
-- `Lawful` is what proofs/Backward.antt asks of a kind of right side for its back phase, `ReadOnce` for its forward
-- phase; real ones (`real-lawful`, `real-once`) and complex ones (`complex-lawful`, `complex-once`) obey both.
use Prim.Native.Nat.{ℕ, ◌+◌, ◌<◌}
use mathlib.Core.Logic.{◌≢◌}
use mathlib.Core.Path.{◌≡◌, refl, sym, ap, ◌∙◌}
use mathlib.Core.List.{List}
use native.Mathlib.Omega.{arith}
use lib.ListN.{length, set, length-set}
use lib.Seq.{get_or-set_same, get_or-set_other, set-get_or, set-set, set_comm}
use lib.Ieee.{Float, nan}
use Rattle.words.specs.Words.{◌⊕◌, ◌⊗◌, ◌!◌}
use Rattle.words.specs.Loop.{loop}
use Rattle.words.specs.Grid.{at}
use Rattle.matrix.specs.declared.complex.Complex.{Complex}
use Rattle.matrix.specs.Complex.{Parts, at_complex, entry_complex, set_complex}
use Rattle.matrix.specs.Complex.{negated_complex, plus_complex, times_complex}
use Rattle.matrix.specs.Substitution.{exchanged, Side}
use Rattle.matrix.specs.Linear.{real_side, divided, add_at, forward, take_at, back}
use Rattle.matrix.specs.LinearComplex.{complex_side, divided_complex, add_complex_at, forward_complex, back_complex}
use Rattle.matrix.specs.Reordered.{Entries, real_entries, complex_entries, gained_at, stepped}
use Rattle.matrix.proofs.Interchange.{alike}

-- ---- the two acts of the back phase

module _ {A B E : Type 0} (entries : Entries A B E) (a : A) (n : ℕ) where
  -- what entry i becomes where entry k's part is taken from it, and what entry k becomes where it is divided
  abbrev pub taken : ℕ → ℕ → B → E
  taken k i b = entries.less (entries.at b i) (entries.cell a n i k) (entries.at b k)

  abbrev pub quotient : ℕ → B → E
  quotient k b = entries.over (entries.at b k) (entries.cell a n k k)

  unfoldable pub taken_at : ℕ → ℕ → B → B
  taken_at k i b = entries.put b i (taken k i b)

  unfoldable pub divided_at : ℕ → B → B
  divided_at k b = entries.put b k (quotient k b)

-- ---- the laws of a kind

-- P n b: b has n entries
pub record Lawful {A B E : Type 0} (side : Side A B) (entries : Entries A B E) (P : ℕ → B → Type 0) : Type 0 where
  pub other : (b : B) (i j : ℕ) (x : E) → j ≢ i → entries.at (entries.put b i x) j ≡ entries.at b j
  pub commute : (b : B) (i j : ℕ) (x y : E) → i ≢ j
      → entries.put (entries.put b i x) j y ≡ entries.put (entries.put b j y) i x
  pub again : (b : B) (i : ℕ) (x y : E) → entries.put (entries.put b i x) i y ≡ entries.put b i y
  -- an entry put back where it stands
  pub back : (b : B) (i : ℕ) → entries.put b i (entries.at b i) ≡ b
  pub same : (b : B) (n i : ℕ) (x : E) → P n b → i < n → entries.at (entries.put b i x) i ≡ x
  pub kept : (b : B) (n i : ℕ) (x : E) → P n b → P n (entries.put b i x)
  -- the definition's acts are these
  pub divides : (a : A) (n k : ℕ) (b : B) → side.divided a n k b ≡ divided_at entries a n k b
  pub takes : (a : A) (n k : ℕ) (b : B) → side.back a n k b ≡ loop (taken_at entries a n k) 0 k b

-- a step of the forward phase may read entry k once, which no turn writes
pub record ReadOnce {A B E : Type 0} (side : Side A B) (entries : Entries A B E) (P : ℕ → B → Type 0) : Type 0 where
  pub steps : (a : A) (n k m : ℕ) (b : B) → P n b → k < n → side.forward a n k m b ≡ stepped entries a n k m b

-- ---- real right sides

abbrev pub Full : ℕ → List Float → Type 0
Full n b = length b ≡ n

divides-real : (a : List Float) (n k : ℕ) (b : List Float) → divided a n k b ≡ divided_at real_entries a n k b
unfolding divided divided_at
divides-real a n k b = refl

takes-real : (a : List Float) (n k : ℕ) (b : List Float) → back a n k b ≡ loop (taken_at real_entries a n k) 0 k b
unfolding back take_at taken_at
takes-real a n k b = refl

-- no turn writes entry k, so it is read once
steps-real : (a : List Float) (n k m : ℕ) (b : List Float) → Full n b → k < n
    → forward a n k m b ≡ stepped real_entries a n k m b
unfolding forward add_at stepped gained_at exchanged
steps-real a n k m b p h =
    alike (λ (s : List Float). s ! k ≡ b ! m) (add_at a n k) (gained_at real_entries a n k (b ! m)) (k + 1) n
    (omega arith) (λ i l₁ l₂ s q. get_or-set_other s i k _ nan (λ e. omega arith) ∙ q)
    (λ i l₁ l₂ s q. ap (λ (x : Float). set s i (s ! i ⊕ at a n i k ⊗ x)) q) (set (set b m (b ! k)) k (b ! m))
    (get_or-set_same (set b m (b ! k)) k (b ! m) nan (omega (arith, length-set b m (b ! k))))

pub real-lawful : Lawful real_side real_entries Full
real-lawful =
    record {
      other = λ b i j x h. get_or-set_other b i j x nan h;
      commute = λ b i j x y h. set_comm b i j x y h;
      again = λ b i x y. set-set b i x y;
      back = λ b i. set-get_or b i nan;
      same = λ b n i x p h. get_or-set_same b i x nan (omega arith);
      kept = λ b n i x p. length-set b i x ∙ p;
      divides = divides-real;
      takes = takes-real;
    }

pub real-once : ReadOnce real_side real_entries Full
real-once = record { steps = steps-real }

-- ---- complex right sides, part by part

abbrev pub BothFull : ℕ → Parts → Type 0
BothFull n b = Full n b.re × Full n b.im

other-complex : (b : Parts) (i j : ℕ) (z : Complex) → j ≢ i → entry_complex (set_complex b i z) j ≡ entry_complex b j
unfolding entry_complex set_complex
other-complex b i j z h = rw (get_or-set_other b.re i j z.re nan h, get_or-set_other b.im i j z.im nan h)

commute-complex : (b : Parts) (i j : ℕ) (y z : Complex) → i ≢ j
    → set_complex (set_complex b i y) j z ≡ set_complex (set_complex b j z) i y
unfolding set_complex
commute-complex b i j y z h = rw (set_comm b.re i j y.re z.re h, set_comm b.im i j y.im z.im h)

again-complex : (b : Parts) (i : ℕ) (y z : Complex) → set_complex (set_complex b i y) i z ≡ set_complex b i z
unfolding set_complex
again-complex b i y z = rw (set-set b.re i y.re z.re, set-set b.im i y.im z.im)

back-complex : (b : Parts) (i : ℕ) → set_complex b i (entry_complex b i) ≡ b
unfolding entry_complex set_complex
back-complex b i = rw (set-get_or b.re i nan, set-get_or b.im i nan)

same-complex : (b : Parts) (n i : ℕ) (z : Complex) → BothFull n b → i < n → entry_complex (set_complex b i z) i ≡ z
unfolding entry_complex set_complex
same-complex b n i z p h = rw (
  real-lawful.same b.re n i z.re p.0 h,
  real-lawful.same b.im n i z.im p.1 h,
)

kept-complex : (b : Parts) (n i : ℕ) (z : Complex) → BothFull n b → BothFull n (set_complex b i z)
unfolding set_complex
kept-complex b n i z p = (length-set b.re i z.re ∙ p.0, length-set b.im i z.im ∙ p.1)

divides-complex : (a : Parts) (n k : ℕ) (b : Parts) → divided_complex a n k b ≡ divided_at complex_entries a n k b
unfolding divided_complex divided_at
divides-complex a n k b = refl

-- linear.rs reads entry k once, which no turn writes
takes-complex : (a : Parts) (n k : ℕ) (b : Parts) → back_complex a n k b ≡ loop (taken_at complex_entries a n k) 0 k b
unfolding back_complex add_complex_at taken_at
takes-complex a n k b =
    alike (λ (s : Parts). entry_complex s k ≡ entry_complex b k)
    (add_complex_at a n k (negated_complex (entry_complex b k)))
    (taken_at complex_entries a n k) 0 k (omega arith) (λ i l₁ l₂ s q. other-complex s i k _ (λ e. omega arith) ∙ q)
    (λ i l₁ l₂ s q. ap
    (λ (z : Complex).
    set_complex s i (plus_complex (entry_complex s i) (times_complex (at_complex a n i k) (negated_complex z))))
    (sym q)) b refl

steps-complex : (a : Parts) (n k m : ℕ) (b : Parts) → BothFull n b → k < n
    → forward_complex a n k m b ≡ stepped complex_entries a n k m b
unfolding forward_complex add_complex_at stepped gained_at
steps-complex a n k m b p h = refl

pub complex-lawful : Lawful complex_side complex_entries BothFull
complex-lawful =
    record {
      other = other-complex;
      commute = commute-complex;
      again = again-complex;
      back = back-complex;
      same = same-complex;
      kept = kept-complex;
      divides = divides-complex;
      takes = takes-complex;
    }

pub complex-once : ReadOnce complex_side complex_entries BothFull
complex-once = record { steps = steps-complex }
