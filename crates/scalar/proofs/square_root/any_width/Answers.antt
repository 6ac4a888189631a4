-- `any_width` meets its contract: by a shift for a subnormal number, by the two fields for any other.
use Prim.Native.Nat.{ℕ, ◌+◌, ◌*◌, ◌/◌, ◌%◌, ◌^◌, ◌≤◌, ◌<◌}
use mathlib.Core.Path.{sym, ap, subst, ◌∙◌}
use native.Mathlib.Omega.{arith}
use Rattle.words.specs.Patterns.{units, units_in_one, infinity_pattern}
use Rattle.scalar.specs.Steps.{FullWidth}
use Rattle.scalar.proofs.PatternLaws.{units-low, units-high}
use Rattle.scalar.proofs.DigitLaws.{field-place}
use Rattle.scalar.proofs.square_root.any_width.Goals as goal

from_fields : (b : ℕ) → 2 ^ 52 ≤ b → b < infinity_pattern → FullWidth (units b) (2 ^ 52 + b % 2 ^ 52)
    (1073 + b / 2 ^ 52)
from_fields b h g =
    record {
      same = field-place (2 ^ 52 + b % 2 ^ 52) (b / 2 ^ 52) (omega arith)
          ∙ ap (λ (x : ℕ). x * units_in_one) (sym (units-high b h));
      full = omega arith;
      fits = omega arith;
      least = omega arith;
      most = omega arith;
    }

pub returns-then-b-lt4503599627370496 : goal.returns-then-b-lt4503599627370496
returns-then-b-lt4503599627370496 c = subst (λ (u : ℕ). FullWidth u c.full_width.result.m c.full_width.result.w)
    (sym (units-low _ c.if-b-lt4503599627370496.true)) c.full_width.ensures

pub returns : goal.returns
returns c = from_fields _ c.if-b-lt4503599627370496.false (omega arith)
