-- The laws of bytes that are held against others: one pair more, and the end of either.
use Rattle.std.proofs.Common.{◌≡◌, ℕ, List, [], ◌∷◌, ◌⊎◌, ⊎_elim, refl, ap, ◌∙◌, sym}
use Rattle.replay.specs.declared.found.Found.{Found}
use Rattle.replay.specs.Found.{compared_of, bytes_behind}

pub bytes_on : {g w : ℕ} {gave gave' wanted wanted' : List ℕ} (f r all : Found)
    → gave ≡ g ∷ gave'
    → wanted ≡ w ∷ wanted'
    → r ≡ compared_of f g w
    → bytes_behind f gave wanted ≡ all
    → bytes_behind r gave' wanted' ≡ all
bytes_on {g} {w} {gave} {gave'} {wanted} {wanted'} f r all e d c i =
    ap (λ (x : Found). bytes_behind x gave' wanted') c
    ∙ sym (ap (λ (xs : List ℕ). bytes_behind f xs wanted) e ∙ ap (λ (ys : List ℕ). bytes_behind f (g ∷ gave') ys) d)
    ∙ i

bytes_none : (f : Found) (gave : List ℕ) → bytes_behind f gave [] ≡ f
bytes_none f [] = refl
bytes_none f (g ∷ gave) = refl

pub bytes_done : {gave wanted : List ℕ} (f all : Found) → (gave ≡ []) ⊎ (wanted ≡ [])
    → bytes_behind f gave wanted ≡ all
    → f ≡ all
bytes_done {gave} {wanted} f all h i =
    sym (⊎_elim (λ e. ap (λ (xs : List ℕ). bytes_behind f xs wanted) e)
    (λ e. ap (λ (ys : List ℕ). bytes_behind f gave ys) e ∙ bytes_none f gave) h) ∙ i
