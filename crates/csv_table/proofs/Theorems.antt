-- What is promised of a table, beside the contracts of its two functions: what a user cites, in words, as a statement,
-- and where it is proved.
use Prim.Native.Nat.{ℕ, ◌≤◌}
use mathlib.Core.Path.{◌≡◌}
use mathlib.Core.List.{List, ◌∷◌, ◌++◌, map}
use lib.Dec.{T}
use lib.ListN.{length}
use lib.Ieee.{Float, binary64, fits, to_bits}
use lib.Ieee.Scale.{finite}
use Rattle.sheet.specs.Sheet.{Every}
use Rattle.csv_table.specs.NumberText.{number_text}
use Rattle.csv_table.specs.Table.{Plain, header_text, amounts_text, record_text}
use Rattle.csv_table.specs.ReadBack.{ReadsBack, fields_of}
use Rattle.csv_table.proofs.Lengths.{header-few-proof, record-few-proof}
use Rattle.csv_table.proofs.PlainText.{text-plain-proof}
use Rattle.csv_table.proofs.Fields.{record-fields-proof}
use Rattle.csv_table.proofs.ReadBackLaws.{reads-back-proof, one-text-proof}

-- The text of a finite double, read as C reads it, stands for that very number, its sign too.
pub reads-back : (x : Float) → T (fits binary64 x) → T (finite x) → ReadsBack x
reads-back = reads-back-proof

-- Two finite doubles share a text only if they share their bits.
pub one-text : (x y : Float) → T (fits binary64 x) → T (fits binary64 y) → T (finite x) → T (finite y)
    → number_text x ≡ number_text y → to_bits binary64 x ≡ to_bits binary64 y
one-text = one-text-proof

-- No text of a number, a NaN's and an infinity's too, has a comma, a quote, CR or LF.
pub text-plain : (x : Float) → Every Plain (number_text x)
text-plain = text-plain-proof

-- A record before its CRLF, cut at its commas, is the text of x and those of the amounts, in their order.
pub record-fields : (x : Float) (ys : List Float)
    → fields_of (number_text x ++ amounts_text ys) ≡ number_text x ∷ map number_text ys
record-fields = record-fields-proof

-- No header and no record for at most 32 amounts has more than 826 bytes: a buffer of as many is never refused with 24.
pub header-few : (n : ℕ) → n ≤ 32 → length (header_text n) ≤ 826
header-few = header-few-proof

pub record-few : (x : Float) (ys : List Float) → length ys ≤ 32 → length (record_text x ys) ≤ 826
record-few = record-few-proof
