-- `even_place` meets its contract.
use mathlib.Core.Path.{◌∙◌}
use native.Mathlib.Omega.{arith}
use Rattle.scalar.proofs.DigitLaws.{doubled}
use Rattle.scalar.proofs.square_root.even_place.Goals as goal

pub returns : goal.returns
returns c = let s = c.any_width-s in
    record {
      same = doubled s.result.m s.result.w (omega arith) ∙ s.ensures.same;
      full = omega arith;
      fits = omega arith;
      even = omega arith;
      least = omega arith;
      most = omega arith;
    }
