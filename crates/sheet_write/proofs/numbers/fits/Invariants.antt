-- What the loop of `fits` keeps.
use Rattle.std.proofs.Common.{◌≡◌, drop}
use Rattle.sheet.specs.Kinds.{kind_of}
use Rattle.sheet_write.specs.Writer.{fit_of}
use Rattle.sheet_write.proofs.numbers.fits.Given as goal

abbrev pub invariant-loop-i : goal.invariant-loop-i
invariant-loop-i l =
    fit_of (kind_of l.phase l.species) l.i (drop l.i l.values) ≡ fit_of (kind_of l.phase l.species) 0 l.values
