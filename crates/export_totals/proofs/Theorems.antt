-- What a user in C cites: each theorem in words, its statement, and where it is proved.
use Rattle.std.proofs.Common.{Result}
use Prim.Native.Nat.{ℕ}
use mathlib.Core.Path.{◌≡◌}
use mathlib.Core.Logic.{◌↔◌}
use mathlib.Core.List.{List}
use Rattle.night_totals.specs.Night.{start_of, fed_of, told_of}
use Rattle.night_totals.specs.Reads.{Reads}
use Rattle.night_totals.specs.declared.night.Night.{Night}
use Rattle.night_totals.specs.declared.totals.Totals.{Totals}
use Rattle.night_totals.specs.declared.night.NightError.{NightError}
use Rattle.export_totals.specs.Record.{words_of, night_from, fed_words}
use Rattle.export_totals.specs.Border.{taken_of, whole_of}
use Rattle.export_totals.proofs.RecordLaws.{unpacked, fed-words, taken, told-of-pieces-proof}

-- What one call packs the next unpacks.
pub read_back : (n : Night) → night_from (words_of n) ≡ n
read_back = unpacked

-- Of any words, also those that no call made, the night goes on by the piece.
pub words-fed : (words piece : List ℕ) → night_from (fed_words words piece) ≡ fed_of (night_from words) piece
words-fed = fed-words

-- Pieces that are handed over one after the other come to the record of their bytes in one.
pub pieces-taken : (pieces : List (List ℕ)) → night_from (taken_of pieces) ≡ fed_of start_of (whole_of pieces)
pieces-taken = taken

-- What is told of them is what the bytes in one come to by their lines, and nothing else.
pub told-of-pieces : (pieces : List (List ℕ)) (a : Result Totals NightError)
    → (told_of (night_from (taken_of pieces)) ≡ a) ↔ Reads (whole_of pieces) a
told-of-pieces = told-of-pieces-proof
