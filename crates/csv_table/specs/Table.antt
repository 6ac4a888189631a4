-- A table of points as CSV by RFC 4180 (02, [9]): 'a header x and y1 to yn, then a record a point, CRLF after each, no
-- quotes'. Into a lent buffer goes one line at a time: 'refusals: 1, then 24, header or record doesn't fit the buffer;
-- nothing written'.
use Rattle.std.specs.Prelude.{ℕ, zero, suc, ◌&&◌, ◌≡◌, List, [], ◌∷◌, ◌++◌, leb, Float, length, Result, Ok, Err}
use Rattle.words.specs.Loop.{pick}
use Rattle.sheet.specs.Digits.{decimal_of}
use Rattle.sheet.specs.Sheet.{line_feed}
use Rattle.sheet.specs.Reader.{over}
use Rattle.forecast_text.specs.Printed.{text}
use Rattle.csv_table.specs.NumberText.{number_text}
use Rattle.csv_table.specs.declared.answers.ExportError.{ExportError}
use Rattle.csv_table.specs.declared.answers.ExportError.TheVariants.{Order, Room}

-- ---- lines

abbrev pub comma_byte : ℕ
comma_byte = 44

abbrev pub quote_byte : ℕ
quote_byte = 34

abbrev pub carriage_return : ℕ
carriage_return = 13

-- CR and LF
abbrev pub line_end : List ℕ
line_end = carriage_return ∷ line_feed ∷ []

-- `,y1` to `,yn`
unfoldable pub names_text : ℕ → List ℕ
names_text zero = []
names_text (suc k) = names_text k ++ (text ",y" ++ decimal_of (suc k))

abbrev pub header_text : ℕ → List ℕ
header_text n = text "x" ++ names_text n ++ line_end

unfoldable pub amounts_text : List Float → List ℕ
amounts_text [] = []
amounts_text (y ∷ ys) = text "," ++ number_text y ++ amounts_text ys

abbrev pub record_text : Float → List Float → List ℕ
record_text x ys = number_text x ++ amounts_text ys ++ line_end

-- a byte that RFC 4180 lets stand in a field without quotes: no comma, quote, CR or LF
pub record Plain (byte : ℕ) : Type 0 where
  pub comma : byte ≡ comma_byte → ⊥
  pub quote : byte ≡ quote_byte → ⊥
  pub cr : byte ≡ carriage_return → ⊥
  pub lf : byte ≡ line_feed → ⊥

-- ---- what is answered, and how the buffer is left

-- 02's number, and 0 where nothing is refused
abbrev pub exported_number : Result ℕ ExportError → ℕ
exported_number (Ok n) = 0
exported_number (Err Order) = 1
exported_number (Err Room) = 24

-- how many bytes were written, or why none
pub record Export : Type 0 where
  pub answer : Result ℕ ExportError
  pub buffer : List ℕ

abbrev pub export : Result ℕ ExportError → List ℕ → Export
export r buffer = record { answer = r; buffer = buffer }

-- a line over the first bytes of a buffer that it fits; what stands behind it stays
unfoldable pub line_of : List ℕ → List ℕ → Export
line_of line buffer =
    pick (leb (length line) (length buffer)) (export (Ok (length line)) (over line buffer))
    (export (Err Room) buffer)

-- a line for n amounts
unfoldable pub ordered_of : ℕ → List ℕ → List ℕ → Export
ordered_of n line buffer = pick (leb 1 n && leb n 32) (line_of line buffer) (export (Err Order) buffer)

abbrev pub header_of : ℕ → List ℕ → Export
header_of n buffer = ordered_of n (header_text n) buffer

abbrev pub record_of : Float → List Float → List ℕ → Export
record_of x ys buffer = ordered_of (length ys) (record_text x ys) buffer
