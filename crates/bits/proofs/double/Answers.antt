-- `double` meets its contract, and is safe: a pattern that is not above infinity's, its sign dropped, is no NaN's.
use mathlib.Core.Path.{◌≡◌, refl, sym, subst, ◌∙◌}
use mathlib.Core.Bool.{Bool, true, not}
use lib.Dec.{T}
use lib.Ieee.{Float, nan, inf, fin, binary64, is_nan, div, of_bits}
use Rattle.words.specs.Words.{double, ◌⊘◌}
use lib.Ieee.Bits.{nan_bits_is, nan_bits_above}
use borrow.Author.Tests.{le-ltb, lt-ltb}
use Rattle.bits.proofs.double.Goals as goal

is-nan : (x : Float) → is_nan x ≡ true → x ≡ nan
unfolding is_nan
is-nan nan h = refl
is-nan (inf s) h = absurd (subst T (sym h) tt)
is-nan (fin s m e) h = absurd (subst T (sym h) tt)

made : double 0 ⊘ double 0 ≡ nan
unfolding div of_bits
made = refl

pub returns-then-pattern-gt9218868437227405312 : goal.returns-then-pattern-gt9218868437227405312
returns-then-pattern-gt9218868437227405312 c = made ∙ sym
    (is-nan _ (sym (nan_bits_is binary64 _) ∙ nan_bits_above binary64 _ ∙ lt-ltb _ _
    c.if-pattern-gt9218868437227405312.true))

pub float_from_bits-result : goal.float_from_bits-result
float_from_bits-result c = subst (λ (b : Bool). T (not b))
    (sym (nan_bits_above binary64 _ ∙ le-ltb _ _ c.if-pattern-gt9218868437227405312.false)) tt
