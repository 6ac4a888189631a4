-- What the loop of `put_digits` keeps.
use mathlib.Core.Path.{◌≡◌}
use lib.Seq.{sets}
use Rattle.forecast_text.specs.Numerals.{lowest}
use Rattle.forecast_text.proofs.numerals.put_digits.Given as goal

abbrev pub invariant-loop-place : goal.invariant-loop-place
invariant-loop-place l = sets l.out l.at (lowest l.base l.place l.rest)
    ≡ sets l.initial.out l.at (lowest l.base l.width l.value)
