-- Texts of a form, part by part.
use Rattle.std.proofs.Common.{◌≡◌, ℕ, suc, ◌+◌, ◌<◌, ◌≤◌, Bool, true, false, eqb, List, [], ◌∷◌, ◌++◌, get_or, set, sym}
use Rattle.std.proofs.Common.{Option, None, Some, refl, ap, ◌∙◌, append_assoc, arith, get_or-set_other}
use Rattle.words.specs.Loop.{pick}
use Rattle.words.proofs.Branch.{pick_yes, pick_no}
use Rattle.forecast_text.specs.Printed.{numeral_of}
use Rattle.night_totals.specs.Form.{spelt}
use Rattle.night_totals.specs.declared.filling.Number.{Number}
use Rattle.night_totals.specs.declared.filling.Number.TheVariants as numbers

module _ {G : Type 0} where
  pub split : (b : Bool) → (b ≡ true → G) → (b ≡ false → G) → G
  split true p q = p refl
  split false p q = q refl

-- what stands in an option, where something does
module _ {A G : Type 0} where
  pub opened : (o : Option A) → (o ≡ None → G) → ((x : A) → o ≡ Some x → G) → G
  opened None p q = p refl
  opened (Some x) p q = q x refl

-- a number that has begun, or not
module _ {G : Type 0} where
  pub by_number : (n : Number) → ((v : ℕ) → n ≡ numbers.Awaited v → G) → ((v : ℕ) → n ≡ numbers.Begun v → G) → G
  by_number (numbers.Awaited v) p q = p v refl
  by_number (numbers.Begun v) p q = q v refl

pub none-some : {A : Type 0} {x : A} → None ≡ Some x → ⊥
none-some e = let z : ◌≡◌ {A = ℕ} 0 1 = cc in omega arith

-- how many numbers a form has
unfoldable pub slots_in : List ℕ → ℕ
slots_in [] = 0
slots_in (x ∷ form) = pick (eqb x 35) 1 0 + slots_in form

pub spelt-append : (f g : List ℕ) (k : ℕ) (vs : List ℕ)
    → spelt (f ++ g) k vs ≡ spelt f k vs ++ spelt g (k + slots_in f) vs
unfolding spelt slots_in
spelt-append [] g k vs = let z : k ≡ k + 0 = omega arith in ap (λ j. spelt g j vs) z
spelt-append (x ∷ f) g k vs =
    let piece = pick (eqb x 35) (numeral_of (get_or vs k 0)) (x ∷ []) in
    let next = k + pick (eqb x 35) 1 0 in
    let z : next + slots_in f ≡ k + (pick (eqb x 35) 1 0 + slots_in f) = omega arith in
    ap (λ l. piece ++ l) (spelt-append f g next vs ∙ ap (λ j. spelt f next vs ++ spelt g j vs) z)
    ∙ sym (append_assoc piece (spelt f next vs) (spelt g (k + (pick (eqb x 35) 1 0 + slots_in f)) vs))

-- a number that is set behind those of the form is not seen
pub spelt-set : (f : List ℕ) (k j v : ℕ) (vs : List ℕ) → k + slots_in f ≤ j → spelt f k (set vs j v) ≡ spelt f k vs
unfolding spelt slots_in
spelt-set [] k j v vs h = refl
spelt-set (x ∷ f) k j v vs h =
    let next = k + pick (eqb x 35) 1 0 in
    let same : pick (eqb x 35) (numeral_of (get_or (set vs j v) k 0)) (x ∷ [])
    ≡ pick (eqb x 35) (numeral_of (get_or vs k 0)) (x ∷ []) =
    split (eqb x 35)
    (λ e. let l : k < j = omega (arith, pick_yes {A = ℕ} 1 0 e) in
    ap (λ n. pick (eqb x 35) (numeral_of n) (x ∷ [])) (get_or-set_other vs j k v 0 (λ q. omega arith)))
    (λ e. pick_no _ _ e ∙ sym (pick_no _ _ e)) in
    ap (λ l. l ++ spelt f next (set vs j v)) same
    ∙ ap (λ l. pick (eqb x 35) (numeral_of (get_or vs k 0)) (x ∷ []) ++ l) (spelt-set f next j v vs (omega arith))

-- a byte of the form, and a number's place
pub spelt-byte : (x : ℕ) (f : List ℕ) (k : ℕ) (vs : List ℕ) → eqb x 35 ≡ false → spelt (x ∷ f) k vs ≡ x ∷ spelt f k vs
unfolding spelt
spelt-byte x f k vs e =
    let z : k + pick (eqb x 35) 1 0 ≡ k = omega (arith, pick_no {A = ℕ} 1 0 e) in
    ap (λ l. l ++ spelt f (k + pick (eqb x 35) 1 0) vs) (pick_no _ _ e) ∙ ap (λ j. x ∷ spelt f j vs) z

pub spelt-number : (f : List ℕ) (k : ℕ) (vs : List ℕ)
    → spelt (35 ∷ f) k vs ≡ numeral_of (get_or vs k 0) ++ spelt f (suc k) vs
unfolding spelt pick
spelt-number f k vs = let z : k + 1 ≡ suc k = omega arith in ap (λ j. numeral_of (get_or vs k 0) ++ spelt f j vs) z

pub slots-append : (f g : List ℕ) → slots_in (f ++ g) ≡ slots_in f + slots_in g
unfolding slots_in
slots-append [] g = let z : slots_in g ≡ 0 + slots_in g = omega arith in z
slots-append (x ∷ f) g = omega (arith, slots-append f g)

-- a form with one byte more, which is a number's place or not
pub slots-one : (f : List ℕ) (x : ℕ) → eqb x 35 ≡ false → slots_in (f ++ (x ∷ [])) ≡ slots_in f
unfolding slots_in
slots-one f x e = omega (arith, slots-append f (x ∷ []), pick_no {A = ℕ} 1 0 e)

pub slots-number : (f : List ℕ) → slots_in (f ++ (35 ∷ [])) ≡ slots_in f + 1
unfolding slots_in
slots-number f = omega (arith, slots-append f (35 ∷ []), pick_yes {A = ℕ} {b = eqb 35 35} 1 0 refl)
