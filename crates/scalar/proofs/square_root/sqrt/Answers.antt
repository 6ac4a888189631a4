-- `sqrt` meets its contract: each early return is a case of the definition; and every double fits binary64, so that
-- what the definition gives is a root.
use Rattle.std.proofs.Common.{ℕ, sym, ap, subst, ◌∙◌, arith}
use lib.Dec.{T}
use lib.Ieee.{binary64, fits}
use lib.Ieee.Positive.{positive}
use Rattle.words.specs.Words.{double}
use Rattle.scalar.proofs.Tests.{below-zero, equals-zero, equals-infinity, past-tests, nan_is}
use Rattle.scalar.proofs.PatternLaws.{no_nan, pattern-above, pattern-under}
use Rattle.scalar.proofs.SquareRoots.{sqrt-of-nan, sqrt-of-negative, sqrt-of-zero, sqrt-of-infinity}
use Rattle.scalar.proofs.SquareRoots.{sqrt-of-positive, sqrt-both}
use Rattle.scalar.proofs.square_root.sqrt.Goals.{then-is_nan-via-then-is_nan, then-is_nan-via-else-is_nan+then-x-2}
use Rattle.scalar.proofs.square_root.sqrt.Goals.{then-is_nan-via-else-is_nan+else-x-2+then-x-3}
use Rattle.scalar.proofs.square_root.sqrt.Goals as goal

pub returns-then-x : goal.returns-then-x
returns-then-x c =
    let fit : T (fits binary64 c.args.x) = subst T (sym c.well_formed.0.1) tt in
    sqrt-both _ fit (nan_is ∙ sym (sqrt-of-negative _ (sym (below-zero _) ∙ c.if-x.true)))

pub returns-then-is_nan : goal.returns-then-is_nan
returns-then-is_nan c =
    let fit : T (fits binary64 c.args.x) = subst T (sym c.well_formed.0.1) tt in
    elim c.then-is_nan.branch [
      | then-is_nan-via-then-is_nan w ↦ sqrt-both _ fit (sqrt-of-nan _ (sym c.is_nan.ensures.value ∙ w.if-is_nan.true))
      | then-is_nan-via-else-is_nan+then-x-2 w ↦ sqrt-both _ fit (sqrt-of-zero _ (sym (equals-zero _) ∙ w.if-x-2.true))
      | then-is_nan-via-else-is_nan+else-x-2+then-x-3 w ↦
          sqrt-both _ fit (sqrt-of-infinity _ (sym (equals-infinity _) ∙ w.if-x-3.true))
    ]

pub root_pattern-requires : goal.root_pattern-requires
root_pattern-requires c =
    let fit : T (fits binary64 c.args.x) = subst T (sym c.well_formed.0.1) tt in
    let above : T (positive c.args.x) = past-tests _
    (sym c.is_nan.ensures.value ∙ c.if-is_nan.false)
    (sym (below-zero _) ∙ c.if-x.false)
    (sym (equals-zero _) ∙ c.if-x-2.false)
    (sym (equals-infinity _) ∙ c.if-x-3.false) in
    (pattern-above _ fit above, pattern-under _ fit above)

pub float_from_bits-result : goal.float_from_bits-result
float_from_bits-result c = no_nan _ (omega (arith, c.root_pattern.ensures.1))

pub returns : goal.returns
returns c =
    let fit : T (fits binary64 c.args.x) = subst T (sym c.well_formed.0.1) tt in
    let above : T (positive c.args.x) = past-tests _
    (sym c.is_nan.ensures.value ∙ c.if-is_nan.false)
    (sym (below-zero _) ∙ c.if-x.false)
    (sym (equals-zero _) ∙ c.if-x-2.false)
    (sym (equals-infinity _) ∙ c.if-x-3.false) in
    sqrt-both _ fit
    (ap (λ (b : ℕ). double b) c.root_pattern.ensures.0 ∙ sym (sqrt-of-positive _ above))
