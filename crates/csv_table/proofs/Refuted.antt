-- Wrong makers of a record, each shut out by one computed byte that the contract of `put_record` wants otherwise.
use Prim.Native.Nat.{ℕ}
use mathlib.Core.Path.{◌≡◌, refl, sym, ap, ◌∙◌}
use mathlib.Core.List.{List, [], ◌∷◌, ◌++◌}
use native.Mathlib.Omega.{arith}
use lib.Ieee.{Float, binary64, ne, of_bits, to_bits}
use lib.ListN.{length, get_or, replicate}
use Rattle.words.specs.Loop.{pick}
use Rattle.words.specs.Words.{double}
use Rattle.sheet.specs.Digits.{byte_of, power, digits, width_of}
use Rattle.sheet.specs.Reader.{over}
use Rattle.forecast_text.specs.Printed.{text}
use Rattle.csv_table.specs.NumberText.{exponent_of, fraction_of, trimmed, pointed, exponent_text, magnitude_text}
use Rattle.csv_table.specs.NumberText.{sign_text, number_text}
use Rattle.csv_table.specs.Table.{line_end, amounts_text, line_of, ordered_of, record_of}

-- the text that a maker of records has for x, and what the contract asks of the record that begins with it
abbrev pub Maker : Type 0
Maker = Float → List ℕ

abbrev record_by : Maker → Float → List Float → List ℕ
record_by maker x ys = maker x ++ amounts_text ys ++ line_end

abbrev pub Meets : Maker → Type 0
Meets maker =
    (x : Float) (ys : List Float) (buffer : List ℕ)
    → ordered_of (length ys) (record_by maker x ys) buffer ≡ record_of x ys buffer

-- a point with one amount, and a buffer that its record fits
abbrev made : Maker → Float → List ℕ
made maker x = (ordered_of 1 (record_by maker x (double 0 ∷ [])) (replicate 64 0)).buffer

shut_out : (maker : Maker) (x : Float) (i wrong right : ℕ) → get_or (made maker x) i 0 ≡ wrong
    → get_or (made number_text x) i 0 ≡ right → (wrong ≡ right → ⊥) → Meets maker → ⊥
shut_out maker x i wrong right p q differ meets =
    differ (sym p ∙ ap (λ e. get_or e.buffer i 0) (meets x (double 0 ∷ []) (replicate 64 0)) ∙ q)

-- ---- -0 without its sign

abbrev pub unsigned : Maker
unsigned x =
    let bits = to_bits binary64 x in
    pick (ne x x) (text "nan") (magnitude_text (exponent_of bits) (fraction_of bits))

-- the first byte: a 0, where a minus is wanted
pub zero-signed : Meets unsigned → ⊥
unfolding ordered_of line_of over amounts_text text sign_text magnitude_text trimmed pointed exponent_text width_of
    digits byte_of power pick ne of_bits to_bits
zero-signed = shut_out unsigned (double 0x8000_0000_0000_0000) 0 48 45 refl refl (λ e. omega arith)

-- ---- all thirteen digits of a fraction, as Python's float.hex has them

abbrev pub padded : Maker
padded x =
    let bits = to_bits binary64 x in
    text "0x1." ++ digits 16 13 (fraction_of bits) ++ exponent_text (exponent_of bits)

-- of 3, `0x1.8p+1`, the byte behind the 8: a 0, where the `p` is wanted
pub zeros-dropped : Meets padded → ⊥
unfolding ordered_of line_of over amounts_text text sign_text magnitude_text trimmed pointed exponent_text width_of
    digits byte_of power pick ne of_bits to_bits
zeros-dropped = shut_out padded (double 0x4008_0000_0000_0000) 5 48 112 refl refl (λ e. omega arith)
