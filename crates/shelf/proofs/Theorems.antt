-- What is promised of a shelf, of the definitions that the contracts say the code equals: what a user cites, each
-- theorem in words, its statement, and where it is proved. A quarter of a step's coefficients are amounts.
use Prim.Native.Nat.{ℕ, ◌*◌, ◌/◌}
use mathlib.Core.Path.{◌≡◌, refl}
use mathlib.Core.Bool.{true}
use mathlib.Core.List.{List, [], ◌∷◌, ◌++◌}
use mathlib.Core.Logic.{◌↔◌}
use lib.ListN.{length}
use lib.Ieee.{Float, nan}
use Rattle.std.specs.Prelude.{Ok}
use Rattle.dense.specs.Interpolate.{interpolate_of}
use Rattle.shelf.specs.declared.answers.Shelf.{Shelf}
use Rattle.shelf.specs.Shelf.{Step, holds, empty_shelf, steps_before, kept_of}
use Rattle.shelf.specs.Answers.{placing_number, asked, asking_number}
use Rattle.shelf.specs.Refusals.{Room, Fit}
use Rattle.shelf.specs.Put.{put_of}
use Rattle.shelf.specs.Ask.{answer_of, ask_of, NoneHolds}
use Rattle.shelf.proofs.Outcomes.{Kept, put-length-proof, put-shelf-proof, put-kept-proof}
use Rattle.shelf.proofs.Outcomes.{put-keeps-proof, newest-proof, ask-length-proof, ask-shelf-proof}
use Rattle.shelf.proofs.Outcomes.{ask-point-proof, ask-kept-proof, ask-answer-proof, nan-none-proof}

-- ---- what stands on a shelf

-- Nothing stands on an empty shelf, whatever the memory holds.
pub empty-keeps : (n : ℕ) (coefficients ends : List Float) → kept_of empty_shelf n coefficients ends ≡ []
unfolding steps_before
empty-keeps n coefficients ends = refl

-- A step that is put on a shelf is the newest there; of the others the oldest gives up its room where all 48 were
-- taken. The shelf is fit again, and the parts keep their lengths.
pub put_keeps : (s s' : Shelf) (cont : List Float) (xold h : Float) (coefficients ends : List Float)
    → (put_of s cont xold h coefficients ends).answer ≡ Ok s' → Kept s cont xold h coefficients ends s'
put_keeps s s' cont xold h coefficients ends = put-keeps-proof s cont xold h coefficients ends s'

-- ---- when putting refuses

-- 2 exactly when the coefficients are not four for each amount, or a part hasn't room for just 48 such steps.
pub put-length : (s : Shelf) (cont : List Float) (xold h : Float) (coefficients ends : List Float)
    → (placing_number (put_of s cont xold h coefficients ends).answer ≡ 2)
    ↔ ((length cont ≡ 4 * (length cont / 4)) × Room (length cont / 4) (length coefficients) (length ends) → ⊥)
put-length = put-length-proof

-- 13 exactly when the lengths are right and the shelf has over 48 steps, or a place above 47.
pub put-shelf : (s : Shelf) (cont : List Float) (xold h : Float) (coefficients ends : List Float)
    → (placing_number (put_of s cont xold h coefficients ends).answer ≡ 13)
    ↔ (((length cont ≡ 4 * (length cont / 4)) × Room (length cont / 4) (length coefficients) (length ends))
    × (Fit s → ⊥))
put-shelf = put-shelf-proof

-- A refused step leaves both parts as they were.
pub put-kept : (s : Shelf) (cont : List Float) (xold h : Float) (coefficients ends : List Float)
    → (placing_number (put_of s cont xold h coefficients ends).answer ≡ 0 → ⊥)
    → ((put_of s cont xold h coefficients ends).coefficients ≡ coefficients)
    × ((put_of s cont xold h coefficients ends).ends ≡ ends)
put-kept = put-kept-proof

-- ---- asking

-- Of a fit shelf in its room, asking equals the definition over the list of the kept steps, for every x.
pub ask-answer : (s : Shelf) (x : Float) (target coefficients ends : List Float)
    → Room (length target) (length coefficients) (length ends) → Fit s
    → ask_of s x target coefficients ends ≡ answer_of x target (kept_of s (length target) coefficients ends)
ask-answer = ask-answer-proof

-- Of a list of steps, the newest that holds x answers, with what `interpolate` gives there.
pub newest-answers : (x : Float) (target : List Float) (newer : List Step) (s : Step) (older : List Step)
    → NoneHolds x newer → holds x s.xold s.h ≡ true
    → answer_of x target (newer ++ s ∷ older)
    ≡ asked (Ok tt) (interpolate_of x target s.coefficients s.xold s.h).yi
newest-answers = newest-proof

-- 2 exactly when a part hasn't room for just 48 steps of as many amounts as the target has entries.
pub ask-length : (s : Shelf) (x : Float) (target coefficients ends : List Float)
    → (asking_number (ask_of s x target coefficients ends).answer ≡ 2)
    ↔ (Room (length target) (length coefficients) (length ends) → ⊥)
ask-length = ask-length-proof

-- 13 exactly when the lengths are right and the shelf has over 48 steps, or a place above 47.
pub ask-shelf : (s : Shelf) (x : Float) (target coefficients ends : List Float)
    → (asking_number (ask_of s x target coefficients ends).answer ≡ 13)
    ↔ (Room (length target) (length coefficients) (length ends) × (Fit s → ⊥))
ask-shelf = ask-shelf-proof

-- 25 exactly when the lengths and the shelf are right and no kept step holds x.
pub ask-point : (s : Shelf) (x : Float) (target coefficients ends : List Float)
    → (asking_number (ask_of s x target coefficients ends).answer ≡ 25)
    ↔ (Room (length target) (length coefficients) (length ends) × Fit s
    × NoneHolds x (kept_of s (length target) coefficients ends))
ask-point = ask-point-proof

-- A NaN is held by none.
pub nan-held-by-none : (steps : List Step) → NoneHolds nan steps
nan-held-by-none = nan-none-proof

-- A refusal leaves the target as it was.
pub ask-kept : (s : Shelf) (x : Float) (target coefficients ends : List Float)
    → (asking_number (ask_of s x target coefficients ends).answer ≡ 0 → ⊥)
    → (ask_of s x target coefficients ends).target ≡ target
ask-kept = ask-kept-proof
