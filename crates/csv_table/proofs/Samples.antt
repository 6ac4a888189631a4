-- Numbers with their texts, those that document 02 gives among them, and two lines.
use mathlib.Core.Path.{◌≡◌, refl}
use mathlib.Core.List.{[], ◌∷◌, ◌++◌}
use lib.Ieee.{nan, inf, ne, of_bits, to_bits}
use mathlib.Core.Bool.{true, false}
use Rattle.words.specs.Loop.{pick}
use Rattle.words.specs.Words.{double}
use Rattle.sheet.specs.Digits.{byte_of, power, digits, width_of}
use Rattle.forecast_text.specs.Printed.{text}
use Rattle.csv_table.specs.NumberText.{trimmed, pointed, exponent_text, magnitude_text, sign_text, number_text}
use Rattle.csv_table.specs.Table.{line_end, names_text, header_text, amounts_text, record_text}

pub three : number_text (double 0x4008_0000_0000_0000) ≡ text "0x1.8p+1"
unfolding text sign_text magnitude_text trimmed pointed exponent_text width_of digits byte_of power pick ne of_bits
    to_bits
three = refl

pub one : number_text (double 0x3ff0_0000_0000_0000) ≡ text "0x1p+0"
unfolding text sign_text magnitude_text trimmed pointed exponent_text width_of digits byte_of power pick ne of_bits
    to_bits
one = refl

pub minus-zero : number_text (double 0x8000_0000_0000_0000) ≡ text "-0x0p+0"
unfolding text sign_text magnitude_text trimmed pointed exponent_text width_of digits byte_of power pick ne of_bits
    to_bits
minus-zero = refl

pub smallest-number : number_text (double 1) ≡ text "0x0.0000000000001p-1022"
unfolding text sign_text magnitude_text trimmed pointed exponent_text width_of digits byte_of power pick ne of_bits
    to_bits
smallest-number = refl

pub largest : number_text (double 0x7fef_ffff_ffff_ffff) ≡ text "0x1.fffffffffffffp+1023"
unfolding text sign_text magnitude_text trimmed pointed exponent_text width_of digits byte_of power pick ne of_bits
    to_bits
largest = refl

pub minus-infinity : number_text (inf true) ≡ text "-inf"
unfolding text sign_text magnitude_text trimmed pointed exponent_text width_of digits byte_of power pick ne of_bits
    to_bits
minus-infinity = refl

pub not-a-number : number_text nan ≡ text "nan"
unfolding text pick ne
not-a-number = refl

pub header-of-two : header_text 2 ≡ text "x,y1,y2" ++ line_end
unfolding text names_text width_of digits byte_of power pick
header-of-two = refl

pub record-of-one : record_text (inf false) (nan ∷ []) ≡ text "inf,nan" ++ line_end
unfolding text amounts_text sign_text magnitude_text pick ne to_bits
record-of-one = refl
