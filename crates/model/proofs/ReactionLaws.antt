-- One reaction more is one turn more, and no reaction changes how many numbers the derivative has.
use Prim.Native.Nat.{ℕ, ◌+◌}
use mathlib.Core.Path.{◌≡◌, refl, sym, ap, ◌∙◌}
use mathlib.Core.List.{List, [], ◌∷◌, ◌++◌}
use native.Mathlib.Numerals.{add-one}
use lib.Dec.{eqb}
use lib.ListN.{length, length-set, length-replicate}
use lib.Ieee.{Float, neg, sub}
use Rattle.words.proofs.Branch.{pick_all}
use Rattle.state.specs.Memory.{zeros}
use Rattle.model.specs.Model.{Reaction, lessened, raised, reacted, all_reacted, derivative_of}
use Rattle.model.specs.Derivative.{reaction_at, reactions_of}

module _ (y : List Float) where
  pub one-more : (rs : List Reaction) (r : Reaction) (dy : List Float)
      → reacted y r (all_reacted y rs dy) ≡ all_reacted y (rs ++ (r ∷ [])) dy
  one-more [] r dy = refl
  one-more (q ∷ rs) r dy = one-more rs r (reacted y q dy)

  -- the loop's turn i, in the code's numbers
  pub turn : (rates : List Float) (species : List ℕ) (i : ℕ) (dy₀ : List Float) {dy dy' : List Float}
      → dy ≡ all_reacted y (reactions_of rates species i) dy₀ → dy' ≡ reacted y (reaction_at rates species i) dy
      → dy' ≡ all_reacted y (reactions_of rates species (i + 1)) dy₀
  turn rates species i dy₀ before now =
      now ∙ ap (reacted y (reaction_at rates species i)) before
      ∙ one-more (reactions_of rates species i) (reaction_at rates species i) dy₀
      ∙ ap (λ (k : ℕ). all_reacted y (reactions_of rates species k) dy₀) (sym (add-one i))

-- to subtract is to add with the other sign
pub raised-minus : (v : Float) (s : ℕ) (dy : List Float) → raised (neg v) s dy ≡ lessened v s dy
unfolding raised lessened sub
raised-minus v s dy = refl

pub lessened-length : (v : Float) (s : ℕ) (dy : List Float) → length (lessened v s dy) ≡ length dy
unfolding lessened
lessened-length v s dy =
    pick_all (λ (l : List Float). length l ≡ length dy) (eqb s 0) _ _ (λ _. refl) (λ _. simp length-set)

pub raised-length : (v : Float) (s : ℕ) (dy : List Float) → length (raised v s dy) ≡ length dy
unfolding raised
raised-length v s dy =
    pick_all (λ (l : List Float). length l ≡ length dy) (eqb s 0) _ _ (λ _. refl) (λ _. simp length-set)

module _ (y : List Float) where
  reacted-length : (r : Reaction) (dy : List Float) → length (reacted y r dy) ≡ length dy
  unfolding reacted
  reacted-length r dy = simp (raised-length, lessened-length)

  -- the loop's turn, of lengths
  pub turn-length : (r : Reaction) (dy : List Float) {dy' : List Float} {n : ℕ}
      → length dy ≡ n → dy' ≡ reacted y r dy → length dy' ≡ n
  turn-length r dy before now = ap length now ∙ reacted-length r dy ∙ before

  all-reacted-length : (rs : List Reaction) (dy : List Float) → length (all_reacted y rs dy) ≡ length dy
  all-reacted-length [] dy = refl
  all-reacted-length (r ∷ rs) dy = all-reacted-length rs (reacted y r dy) ∙ reacted-length r dy

  -- The derivative has a number for each amount.
  pub derivative-length : (rs : List Reaction) → length (derivative_of y rs) ≡ length y
  unfolding derivative_of zeros
  derivative-length rs = all-reacted-length rs (zeros (length y)) ∙ simp length-replicate
