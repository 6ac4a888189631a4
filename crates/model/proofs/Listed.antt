-- The reactions that `derivative` reads are those of a list, where each rate and each four numbers
-- of species are the list's.
use Prim.Native.Nat.{ℕ, zero, suc, ◌<◌}
use mathlib.Core.Path.{◌≡◌, refl, ◌∙◌}
use mathlib.Core.List.{List, [], ◌∷◌}
use mathlib.Core.Logic.{⊎_elim}
use native.Mathlib.Nat.{eq-or-lt_of_le}
use native.Mathlib.Omega.{arith}
use lib.ListN.{length, get_or, length-append, get_or-append}
use lib.Seq.{get_or_at, ext_get_or}
use lib.Ieee.{Float}
use Rattle.model.specs.Model.{Reaction}
use Rattle.model.specs.Derivative.{reaction_at, reactions_of}

module _ (rates : List Float) (species : List ℕ) where
  reactions-length : (n : ℕ) → length (reactions_of rates species n) ≡ n
  reactions-length zero = refl
  reactions-length (suc n) = simp length-append (omega (arith, reactions-length n))

  reaction-listed : (default : Reaction) (n i : ℕ) → i < n
      → get_or (reactions_of rates species n) i default ≡ reaction_at rates species i
  reaction-listed default zero i h = absurd (omega arith)
  reaction-listed default (suc n) i h =
      ⊎_elim
      (λ (e : i ≡ n).
      rw e (get_or_at (reactions_of rates species n) (reaction_at rates species n) [] default n (reactions-length n)))
      (λ (b : i < n). get_or-append (reactions_of rates species n) (reaction_at rates species n ∷ []) default i
      (omega (arith, reactions-length n))
      ∙ reaction-listed default n i b)
      (eq-or-lt_of_le (omega arith))

  pub reactions-of-list : (default : Reaction) (rs : List Reaction)
      → ((i : ℕ) → i < length rs → reaction_at rates species i ≡ get_or rs i default)
      → reactions_of rates species (length rs) ≡ rs
  reactions-of-list default rs same =
      ext_get_or default (reactions_of rates species (length rs)) rs (reactions-length (length rs))
      (λ i h. reaction-listed default (length rs) i (omega (arith, reactions-length (length rs)))
      ∙ same i (omega (arith, reactions-length (length rs))))
