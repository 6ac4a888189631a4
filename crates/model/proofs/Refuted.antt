-- Wrong readings of 01's sentence, each shut out by one computed case in which it gives other bits.
use Prim.Native.Nat.{ℕ}
use mathlib.Core.Path.{◌≡◌, refl, sym, ap, ◌∙◌}
use mathlib.Core.List.{List, [], ◌∷◌}
use native.Mathlib.Omega.{arith}
use lib.ListN.{length, replicate}
use lib.Ieee.{Float, binary64, add, sub, mul, of_bits, to_bits}
use Rattle.words.specs.Words.{◌⊗◌, ◌!◌, double}
use Rattle.words.specs.Loop.{pick}
use Rattle.state.specs.Memory.{zeros}
use Rattle.model.specs.Model.{Reaction, reaction, times_amount, speed_of, lessened}
use Rattle.model.specs.Model.{raised, reacted, all_reacted, derivative_of}

-- what a reading makes of amounts, reactions and what stood in the target, and what the definition asks of it
abbrev pub Reading : Type 0
Reading = List Float → List Reaction → List Float → List Float

abbrev pub Meets : Reading → Type 0
Meets reading = (y : List Float) (rs : List Reaction) (dy : List Float) → reading y rs dy ≡ derivative_of y rs

abbrev first : List Float → ℕ
first dy = to_bits binary64 (dy ! 0)

shut_out : (reading : Reading) (y : List Float) (rs : List Reaction) (dy : List Float) (wrong right : ℕ)
    → first (reading y rs dy) ≡ wrong → first (derivative_of y rs) ≡ right → (wrong ≡ right → ⊥) → Meets reading → ⊥
shut_out reading y rs dy wrong right p q differ meets = differ (sym p ∙ ap first (meets y rs dy) ∙ q)

-- ---- the numbers of the cases

abbrev one : ℕ
one = 0x3ff0_0000_0000_0000

-- 2 ^ 53
abbrev large : ℕ
large = 0x4340_0000_0000_0000

-- 2 ^ 600, 2 ^ -600 and - 2 ^ 601
abbrev huge : ℕ
huge = 0x6570_0000_0000_0000

abbrev tiny : ℕ
tiny = 0x1a70_0000_0000_0000

abbrev lost : ℕ
lost = 0xe580_0000_0000_0000

-- ---- what stood in the target is kept and added to: with no reaction a 1 stays a 1

abbrev pub keeps_old : Reading
keeps_old y rs dy = all_reacted y rs dy

pub old-contents : Meets keeps_old → ⊥
unfolding derivative_of zeros of_bits to_bits
old-contents = shut_out keeps_old (double one ∷ []) [] (double one ∷ []) one 0 refl refl (λ e. omega arith)

-- ---- the start is -0: with no reaction it stays -0

abbrev pub starts_below : Reading
starts_below y rs dy = all_reacted y rs (replicate (length y) (double 0x8000_0000_0000_0000))

pub minus-zero : Meets starts_below → ⊥
unfolding derivative_of zeros of_bits to_bits
minus-zero = shut_out starts_below (double one ∷ []) [] [] 0x8000_0000_0000_0000 0 refl refl (λ e. omega arith)

-- ---- another share of each reaction, in order from +0

abbrev sharing : (List Float → Reaction → List Float → List Float) → Reading
sharing share y rs dy = all rs (zeros (length y))
  where
    all : List Reaction → List Float → List Float
    all [] d = d
    all (r ∷ rs) d = all rs (share y r d)

-- ---- products are added before reactants are subtracted: a first reaction gives 1; in a second, whose product is its
-- reactant, 2 ^ 53 comes and goes

abbrev pub products_first : Reading
products_first =
    sharing (λ y r d. let v = speed_of y r in
    lessened v r.reactant2 (lessened v r.reactant1 (raised v r.product2 (raised v r.product1 d))))

pub products-first : Meets products_first → ⊥
unfolding derivative_of zeros times_amount speed_of lessened raised reacted pick add sub mul of_bits to_bits
products-first =
    shut_out products_first (double one ∷ [])
    (reaction (double one) 0 0 1 0 ∷ reaction (double large) 1 0 1 0 ∷ []) [] 0
    one refl refl (λ e. omega arith)

-- ---- the first product is added before the second reactant is subtracted: the same with the
-- species as second reactant

abbrev pub product_between : Reading
product_between =
    sharing (λ y r d. let v = speed_of y r in
    raised v r.product2 (lessened v r.reactant2 (raised v r.product1 (lessened v r.reactant1 d))))

pub product-between : Meets product_between → ⊥
unfolding derivative_of zeros times_amount speed_of lessened raised reacted pick add sub mul of_bits to_bits
product-between =
    shut_out product_between (double one ∷ []) (reaction (double one) 0 0 1 0 ∷ reaction (double large) 0 1 1 0 ∷ []) []
    0 one refl refl (λ e. omega arith)

-- ---- the amounts are multiplied first, and the rate last: their product overflows, where the rate
-- would have brought it down

abbrev pub rate_last : Reading
rate_last =
    sharing
    (λ y r d.
    let v = times_amount y r.reactant2 (times_amount y r.reactant1 (double one)) ⊗ r.rate in
    raised v r.product2 (raised v r.product1 (lessened v r.reactant2 (lessened v r.reactant1 d))))

pub rate-last : Meets rate_last → ⊥
unfolding derivative_of zeros times_amount speed_of lessened raised reacted pick add sub mul of_bits to_bits
rate-last =
    shut_out rate_last (double huge ∷ []) (reaction (double tiny) 1 1 0 0 ∷ []) []
    0xfff0_0000_0000_0000 lost refl refl (λ e. omega arith)
