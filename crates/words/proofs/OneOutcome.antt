-- Laws by which a contract settles its call, for every form that a contract has here: the outcome is read off a record
-- that equals a definition, or off two, three or four things, each with an equation of its own. There is one NaN here.
use Prim.Native.Nat.{ℕ}
use mathlib.Core.Path.{◌≡◌, sym, ap, ◌∙◌}
use mathlib.Core.List.{List}
use contract.Lifetimes.{Lfts}
use borrow.Fn.Kinds.{ParamKind, ResultKind, Out, Dens}
use Rattle.words.specs.Contract.{Outcome, Allows, Gives}

infixr 20 ◌▹◌
-- an outcome is written as its parts in a row, `tt` for each that is not lent to be written, and at the end
abbrev pub ◌▹◌ : {A B : Type 0} → A → B → A × B
a ▹ b = (a, b)

module _ {A : Type 0} {definition outcome outcome' : A} where
  pub one-outcome : outcome ≡ definition → outcome' ≡ definition → outcome ≡ outcome'
  one-outcome p q = p ∙ sym q

  pub one-part : {B : Type 0} (part : A → B)
      → outcome ≡ definition → outcome' ≡ definition → part outcome ≡ part outcome'
  one-part part p q = ap part (one-outcome p q)

  -- the same where nothing is lent to be written
  pub one-result : {B : Type 0} (lent : B)
      → outcome ≡ definition → outcome' ≡ definition → (outcome ▹ lent) ≡ (outcome' ▹ lent)
  one-result lent = one-part (λ r. r ▹ lent)

module _ {A B Z : Type 0} (part : A → B → Z) {a₀ a a' : A} {b₀ b b' : B} where
  pub two-parts : (a ≡ a₀) × (b ≡ b₀) → (a' ≡ a₀) × (b' ≡ b₀) → part a b ≡ part a' b'
  two-parts (p, q) (p', q') = λ i. part (one-outcome p p' i) (one-outcome q q' i)

module _ {A B C Z : Type 0} (part : A → B → C → Z) {a₀ a a' : A} {b₀ b b' : B} {c₀ c c' : C} where
  pub three-parts : (a ≡ a₀) × (b ≡ b₀) × (c ≡ c₀) → (a' ≡ a₀) × (b' ≡ b₀) × (c' ≡ c₀) → part a b c ≡ part a' b' c'
  three-parts (p, q, r) (p', q', r') = λ i. part (one-outcome p p' i) (one-outcome q q' i) (one-outcome r r' i)

module _ {A B C D Z : Type 0} (part : A → B → C → D → Z)
    {a₀ a a' : A} {b₀ b b' : B} {c₀ c c' : C} {d₀ d d' : D} where
  pub four-parts : (a ≡ a₀) × (b ≡ b₀) × (c ≡ c₀) × (d ≡ d₀)
      → (a' ≡ a₀) × (b' ≡ b₀) × (c' ≡ c₀) × (d' ≡ d₀)
      → part a b c d ≡ part a' b' c' d'
  four-parts (p, q, r, s) (p', q', r', s') =
      λ i. part (one-outcome p p' i) (one-outcome q q' i) (one-outcome r r' i) (one-outcome s s' i)

-- what a call gives is what the contract's definition says, where the contract is an equation with it
module _ {n : ℕ} (ps : List (ParamKind n)) (r : ResultKind n) (Post : Out n ps r) {I X : Type 0}
    (asks : (κs : Lfts n) → Dens κs ps → I) (tells : (κs : Lfts n) (a : Dens κs ps) → Outcome ps r κs a → X)
    (definition : I → X) where
  pub gives-defined :
      ((κs : Lfts n) (a : Dens κs ps) (o : Outcome ps r κs a)
      → Allows ps r Post κs a o → tells κs a o ≡ definition (asks κs a))
      → (i : I) (x : X) → Gives ps r Post asks tells i x → x ≡ definition i
  gives-defined equals i x g =
      sym g.told ∙ equals g.lifetimes g.arguments g.outcome g.allowed ∙ ap definition g.asked
