-- `pattern` meets its contract, and is safe: what equals itself is no NaN.
use mathlib.Core.Path.{◌≡◌, refl, subst}
use mathlib.Core.Bool.{false, not}
use lib.Dec.{T}
use lib.Ieee.{Float, nan, inf, fin, ne, is_nan}
use Rattle.words.proofs.Branch.{yes, no}
use Rattle.bits.proofs.pattern.Goals as goal

no_nan : (x : Float) → ne x x ≡ false → T (not (is_nan x))
unfolding is_nan ne
no_nan nan h = absurd (subst T h tt)
no_nan (inf s) h = tt
no_nan (fin s m e) h = tt

pub returns-then-x : goal.returns-then-x
returns-then-x c = yes _ _ _ c.if-x.true refl

pub float_to_bits-result : goal.float_to_bits-result
float_to_bits-result c = no_nan _ c.if-x.false

pub returns : goal.returns
returns c = no _ _ _ c.if-x.false refl
