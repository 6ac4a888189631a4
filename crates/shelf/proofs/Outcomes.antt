-- When putting and asking refuse, what they leave, and what stands on the shelf then: the proofs of Theorems.antt.
use Prim.Native.Nat.{ℕ, ◌*◌, ◌/◌, ◌%◌}
use mathlib.Core.Path.{◌≡◌, refl, sym, ap, ◌∙◌}
use mathlib.Core.Bool.{Bool, true, false, true≢false, ◌&&◌}
use mathlib.Core.List.{List, [], ◌∷◌, ◌++◌}
use mathlib.Core.Logic.{◌↔◌}
use native.Mathlib.Omega.{arith}
use lib.Dec.{eqb}
use lib.ListN.{length}
use lib.Ieee.{Float, nan, le, lt, eq}
use borrow.Author.Tests.{eqb-true, eqb-false}
use Rattle.std.specs.Prelude.{Ok, Err}
use Rattle.words.proofs.Branch.{pick_yes, pick_no, pick_all}
use Rattle.dense.specs.Bounds.{bounds_of}
use Rattle.dense.specs.Interpolate.{interpolate_of}
use Rattle.shelf.specs.declared.answers.Shelf.{Shelf}
use Rattle.shelf.specs.declared.answers.ShelfError.TheVariants as shelf_error
use Rattle.shelf.specs.Shelf.{Step, step, holds, shelved, place_after, steps_after, shelf, kept_of}
use Rattle.shelf.specs.Answers.{Placed, placed, placing_number, Asked, asked, asking_number}
use Rattle.shelf.specs.Refusals.{room_fits, shelf_fits, Room, Fit}
use Rattle.shelf.specs.Put.{put_at, put_of}
use Rattle.shelf.specs.Ask.{answer_of, ask_of, NoneHolds}
use Rattle.shelf.proofs.Over.{over-length}
use Rattle.shelf.proofs.TestLaws.{room-fit, shelf-fit, fit-room, fit-shelf, within-room}
use Rattle.shelf.proofs.Ring.{after-low, steps_low, put-kept}
use Rattle.shelf.proofs.PutLaws.{put-uneven, put-narrow, put-unfit, put-done}
use Rattle.shelf.proofs.AskLaws.{ask-narrow, ask-unfit, ask-looked}

-- ---- the three ways of both functions

data Way (Wide Fits : Type 0) {A : Type 0} (outcome one two three : A) : Type 0 where
  narrow : (Wide → ⊥) → outcome ≡ one → Way Wide Fits outcome one two three
  unfit : Wide → (Fits → ⊥) → outcome ≡ two → Way Wide Fits outcome one two three
  done : Wide → Fits → outcome ≡ three → Way Wide Fits outcome one two three

module _ {Wide Fits : Type 0} {A : Type 0} {outcome one two three : A} (number : A → ℕ)
    (first : number one ≡ 2) (second : number two ≡ 13) where
  two-exactly : (number three ≡ 2 → ⊥) → Way Wide Fits outcome one two three → (number outcome ≡ 2) ↔ (Wide → ⊥)
  two-exactly other (narrow p e) = (λ _. p, λ _. ap number e ∙ first)
  two-exactly other (unfit p q e) =
      (λ h. let z : number outcome ≡ 13 = ap number e ∙ second in absurd (omega arith), λ f. absurd (f p))
  two-exactly other (done p q e) = (λ h. absurd (other (sym (ap number e) ∙ h)), λ f. absurd (f p))

  thirteen-exactly : (number three ≡ 13 → ⊥) → Way Wide Fits outcome one two three
      → (number outcome ≡ 13) ↔ (Wide × (Fits → ⊥))
  thirteen-exactly other (narrow p e) =
      (λ h. let z : number outcome ≡ 2 = ap number e ∙ first in absurd (omega arith), λ f. absurd (p f.0))
  thirteen-exactly other (unfit p q e) = (λ _. (p, q), λ _. ap number e ∙ second)
  thirteen-exactly other (done p q e) = (λ h. absurd (other (sym (ap number e) ∙ h)), λ f. absurd (f.1 q))

  other-exactly : (k : ℕ) → (k ≡ 2 → ⊥) → (k ≡ 13 → ⊥) → Way Wide Fits outcome one two three
      → (number outcome ≡ k) ↔ (Wide × Fits × (number three ≡ k))
  other-exactly k no-two no-thirteen (narrow p e) =
      (λ h. absurd (no-two (sym h ∙ ap number e ∙ first)), λ f. absurd (p f.0))
  other-exactly k no-two no-thirteen (unfit p q e) =
      (λ h. absurd (no-thirteen (sym h ∙ ap number e ∙ second)), λ f. absurd (q f.1))
  other-exactly k no-two no-thirteen (done p q e) =
      (λ h. (p, q, sym (ap number e) ∙ h), λ f. ap number e ∙ f.2)

-- ---- putting

module _ (s : Shelf) (cont : List Float) (xold h : Float) (cs es : List Float) where
  abbrev pub put : Placed
  put = put_of s cont xold h cs es

  abbrev put_number : Placed → ℕ
  put_number o = placing_number o.answer

  abbrev pub count : ℕ
  count = length cont / 4

  -- the coefficients are those of whole amounts, and the parts have their room
  abbrev pub PutRoom : Type 0
  PutRoom = (length cont ≡ 4 * count) × Room count (length cs) (length es)

  put-way : Way PutRoom (Fit s) put (placed (Err shelf_error.Length) cs es) (placed (Err shelf_error.State) cs es)
      (put_at s cont xold h cs es)
  put-way = by (eqb (length cont % 4) 0) (room_fits count (length cs) (length es)) (shelf_fits s) refl refl refl
    where
      by : (a r f : Bool) → eqb (length cont % 4) 0 ≡ a → room_fits count (length cs) (length es) ≡ r → shelf_fits s ≡ f
          → Way PutRoom (Fit s) put (placed (Err shelf_error.Length) cs es) (placed (Err shelf_error.State) cs es)
          (put_at s cont xold h cs es)
      by false r f d e g =
          let uneven : length cont % 4 ≡ 0 → ⊥ = eqb-false _ _ d in
          narrow (λ w. let z : length cont ≡ 4 * count = w.0 in uneven (omega arith))
          (sym (put-uneven s cont xold h cs es uneven))
      by true false f d e g =
          narrow (λ w. true≢false (sym (fit-room _ _ _ w.1) ∙ e))
          (sym (put-narrow s cont xold h cs es (eqb-true _ _ d) e))
      by true true false d e g =
          let even : length cont % 4 ≡ 0 = eqb-true _ _ d in
          unfit (omega arith, room-fit _ _ _ e) (λ w. true≢false (sym (fit-shelf s w) ∙ g))
          (sym (put-unfit s cont xold h cs es even e g))
      by true true true d e g =
          let even : length cont % 4 ≡ 0 = eqb-true _ _ d in
          done (omega arith, room-fit _ _ _ e) (shelf-fit s g) (sym (put-done s cont xold h cs es even e g refl))

  pub put-length-proof : (put_number put ≡ 2) ↔ (PutRoom → ⊥)
  put-length-proof = two-exactly put_number refl refl (λ z. omega arith) put-way

  pub put-shelf-proof : (put_number put ≡ 13) ↔ (PutRoom × (Fit s → ⊥))
  put-shelf-proof = thirteen-exactly put_number refl refl (λ z. omega arith) put-way

  pub put-kept-proof : (put_number put ≡ 0 → ⊥) → (put.coefficients ≡ cs) × (put.ends ≡ es)
  put-kept-proof other = by put-way
    where
      by : Way PutRoom (Fit s) put (placed (Err shelf_error.Length) cs es) (placed (Err shelf_error.State) cs es)
          (put_at s cont xold h cs es)
          → (put.coefficients ≡ cs) × (put.ends ≡ es)
      by (narrow p e) = (ap (λ (o : Placed). o.coefficients) e, ap (λ (o : Placed). o.ends) e)
      by (unfit p q e) = (ap (λ (o : Placed). o.coefficients) e, ap (λ (o : Placed). o.ends) e)
      by (done p q e) = absurd (other (ap put_number e))

  pub put-done-proof : PutRoom → Fit s → put ≡ put_at s cont xold h cs es
  put-done-proof room fit = by put-way
    where
      by : Way PutRoom (Fit s) put (placed (Err shelf_error.Length) cs es) (placed (Err shelf_error.State) cs es)
          (put_at s cont xold h cs es)
          → put ≡ put_at s cont xold h cs es
      by (narrow p e) = absurd (p room)
      by (unfit p q e) = absurd (q fit)
      by (done p q e) = e

  -- of a step that was kept: all that is known of the shelf from then on
  pub record Kept (s' : Shelf) : Type 0 where
    pub steps : kept_of s' count put.coefficients put.ends ≡ shelved (step cont xold h) (kept_of s count cs es)
    pub fit : Fit s'
    pub coefficients : length put.coefficients ≡ length cs
    pub ends : length put.ends ≡ length es

  pub put-keeps-proof : (s' : Shelf) → put.answer ≡ Ok s' → Kept s'
  put-keeps-proof s' a = by put-way
    where
      by : Way PutRoom (Fit s) put (placed (Err shelf_error.Length) cs es) (placed (Err shelf_error.State) cs es)
          (put_at s cont xold h cs es)
          → Kept s'
      by (narrow p e) =
          absurd (let z : ◌≡◌ {A = ℕ} 2 0 = sym (ap put_number e) ∙ ap placing_number a in let y : ⊥ = omega arith in y)
      by (unfit p q e) =
          absurd (let z : ◌≡◌ {A = ℕ} 13 0 = sym (ap put_number e) ∙ ap placing_number a in
          let y : ⊥ = omega arith in y)
      by (done p q e) =
          let same : Ok s' ≡ Ok (shelf (steps_after s.steps) (place_after s.place)) =
          sym a ∙ ap (λ (o : Placed). o.answer) e in
          let after : s' ≡ shelf (steps_after s.steps) (place_after s.place) = cc in
          record {
            steps =
                (λ i. kept_of (after i) count (e i).coefficients (e i).ends)
                ∙ put-kept count s.place cont xold h cs es p.0 p.1 q.place s.steps q.steps;
            fit =
                rw after
                (record { steps = steps_low s.steps q.steps; place = after-low s.place q.place });
            coefficients =
                ap (λ (o : Placed). length o.coefficients) e
                ∙ over-length (s.place * length cont) cont cs
                (within-room count (length cont) (length cs) s.place p.0 p.1.coefficients q.place);
            ends =
                ap (λ (o : Placed). length o.ends) e
                ∙ over-length (2 * s.place) (xold ∷ h ∷ []) es (omega (arith, p.1.ends, q.place));
          }

-- ---- asking a list of steps

module _ (x : Float) (target : List Float) where
  abbrev ask_number : Asked → ℕ
  ask_number o = asking_number o.answer

  -- an answer, or 25
  answer-numbers : (k : ℕ) → (k ≡ 0 → ⊥) → (k ≡ 25 → ⊥) → (steps : List Step)
      → ask_number (answer_of x target steps) ≡ k → ⊥
  unfolding answer_of
  answer-numbers k no_zero no-late [] = λ e. no-late (sym e)
  answer-numbers k no_zero no-late (s ∷ older) =
      pick_all (λ (o : Asked). ask_number o ≡ k → ⊥) (holds x s.xold s.h) _ _ (λ _ e. no_zero (sym e))
      (λ _. answer-numbers k no_zero no-late older)

  pub none-proof : (steps : List Step) → (ask_number (answer_of x target steps) ≡ 25) ↔ NoneHolds x steps
  unfolding answer_of NoneHolds
  none-proof [] = (λ _. tt, λ _. refl)
  none-proof (s ∷ older) = by (none-proof older) (holds x s.xold s.h) refl
    where
      by : (ask_number (answer_of x target older) ≡ 25) ↔ NoneHolds x older → (b : Bool) → holds x s.xold s.h ≡ b
          → (ask_number (answer_of x target (s ∷ older)) ≡ 25) ↔ NoneHolds x (s ∷ older)
      by rest true e = (
        λ z. let here : ask_number (answer_of x target (s ∷ older)) ≡ 0 = ap ask_number (pick_yes _ _ e) in
            absurd (omega arith),
        λ z. absurd (true≢false (sym e ∙ z.0)),
      )
      by rest false e = (
        λ z. (e, rest.0 (sym (ap ask_number (pick_no _ _ e)) ∙ z)),
        λ z. ap ask_number (pick_no _ _ e) ∙ rest.1 z.1,
      )

  pub newest-proof : (newer : List Step) (s : Step) (older : List Step) → NoneHolds x newer
      → holds x s.xold s.h ≡ true
      → answer_of x target (newer ++ s ∷ older)
      ≡ asked (Ok tt) (interpolate_of x target s.coefficients s.xold s.h).yi
  unfolding answer_of NoneHolds
  newest-proof [] s older none here = pick_yes _ _ here
  newest-proof (t ∷ newer) s older none here = pick_no _ _ none.0 ∙ newest-proof newer s older none.1 here

  answer-kept : (steps : List Step) → (ask_number (answer_of x target steps) ≡ 0 → ⊥)
      → (answer_of x target steps).target ≡ target
  unfolding answer_of
  answer-kept [] = λ other. refl
  answer-kept (s ∷ older) =
      pick_all (λ (o : Asked). (ask_number o ≡ 0 → ⊥) → o.target ≡ target) (holds x s.xold s.h) _ _
      (λ _ other. absurd (other refl)) (λ _. answer-kept older)

-- ---- asking a shelf

module _ (s : Shelf) (x : Float) (target cs es : List Float) where
  abbrev pub ask : Asked
  ask = ask_of s x target cs es

  abbrev pub kept : List Step
  kept = kept_of s (length target) cs es

  abbrev pub AskRoom : Type 0
  AskRoom = Room (length target) (length cs) (length es)

  ask-way : Way AskRoom (Fit s) ask (asked (Err shelf_error.Length) target) (asked (Err shelf_error.State) target)
      (answer_of x target kept)
  ask-way = by (room_fits (length target) (length cs) (length es)) (shelf_fits s) refl refl
    where
      by : (r f : Bool) → room_fits (length target) (length cs) (length es) ≡ r → shelf_fits s ≡ f
          → Way AskRoom (Fit s) ask (asked (Err shelf_error.Length) target) (asked (Err shelf_error.State) target)
          (answer_of x target kept)
      by false f e g =
          narrow (λ w. true≢false (sym (fit-room _ _ _ w) ∙ e)) (sym (ask-narrow s x target cs es e))
      by true false e g =
          unfit (room-fit _ _ _ e) (λ w. true≢false (sym (fit-shelf s w) ∙ g)) (sym (ask-unfit s x target cs es e g))
      by true true e g =
          done (room-fit _ _ _ e) (shelf-fit s g) (sym (ask-looked s x target cs es e g refl))

  pub ask-length-proof : (ask_number x target ask ≡ 2) ↔ (AskRoom → ⊥)
  ask-length-proof =
      two-exactly (ask_number x target) refl refl
      (answer-numbers x target 2 (λ z. omega arith) (λ z. omega arith) kept) ask-way

  pub ask-shelf-proof : (ask_number x target ask ≡ 13) ↔ (AskRoom × (Fit s → ⊥))
  ask-shelf-proof =
      thirteen-exactly (ask_number x target) refl refl
      (answer-numbers x target 13 (λ z. omega arith) (λ z. omega arith) kept) ask-way

  pub ask-point-proof : (ask_number x target ask ≡ 25) ↔ (AskRoom × Fit s × NoneHolds x kept)
  ask-point-proof =
      let here = other-exactly (ask_number x target) refl refl 25 (λ z. omega arith) (λ z. omega arith) ask-way in (
        λ z. ((here.0 z).0, (here.0 z).1, (none-proof x target kept).0 (here.0 z).2),
        λ z. here.1 (z.0, z.1, (none-proof x target kept).1 z.2),
      )

  pub ask-kept-proof : (ask_number x target ask ≡ 0 → ⊥) → ask.target ≡ target
  ask-kept-proof other = by ask-way
    where
      by : Way AskRoom (Fit s) ask (asked (Err shelf_error.Length) target) (asked (Err shelf_error.State) target)
          (answer_of x target kept)
          → ask.target ≡ target
      by (narrow p e) = ap (λ (o : Asked). o.target) e
      by (unfit p q e) = ap (λ (o : Asked). o.target) e
      by (done p q e) =
          ap (λ (o : Asked). o.target) e
          ∙ answer-kept x target kept (λ z. other (ap (ask_number x target) e ∙ z))

  pub ask-answer-proof : AskRoom → Fit s → ask ≡ answer_of x target kept
  ask-answer-proof room fit = by ask-way
    where
      by : Way AskRoom (Fit s) ask (asked (Err shelf_error.Length) target) (asked (Err shelf_error.State) target)
          (answer_of x target kept)
          → ask ≡ answer_of x target kept
      by (narrow p e) = absurd (p room)
      by (unfit p q e) = absurd (q fit)
      by (done p q e) = e

-- ---- a NaN

and_no : (a b : Bool) → b ≡ false → a && b ≡ false
and_no true b e = e
and_no false b e = refl

pub nan-proof : (xold h : Float) → holds nan xold h ≡ false
unfolding holds le lt eq
nan-proof xold h = and_no (le (bounds_of xold h).left nan) _ refl

pub nan-none-proof : (steps : List Step) → NoneHolds nan steps
unfolding NoneHolds
nan-none-proof [] = tt
nan-none-proof (s ∷ older) = (nan-proof s.xold s.h, nan-none-proof older)
