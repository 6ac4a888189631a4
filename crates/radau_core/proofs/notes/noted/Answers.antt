-- `noted` meets its contract.
use mathlib.Core.Path.{refl}
use lib.ListN.{length-set}
use Rattle.radau_core.proofs.PlaceLaws.{words-at, resized, singular-back}
use Rattle.radau_core.proofs.notes.noted.Goals as goal

pub returns : goal.returns
returns c = record {
  sized = resized c.requires (simp length-set) refl;
  doubles_after = rw (
    words-at c.requires,
    c.singular_kind.ensures,
    c.singular_column.ensures,
    singular-back,
  );
}
