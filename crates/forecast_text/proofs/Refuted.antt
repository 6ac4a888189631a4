-- Wrong printers, each shut out by one computed byte that the contract of `print` wants otherwise.
use Prim.Native.Nat.{ℕ}
use mathlib.Core.Path.{◌≡◌, refl, sym, ap, ◌∙◌}
use mathlib.Core.List.{List, ◌++◌}
use native.Mathlib.Omega.{arith}
use lib.Ieee.{Float, nan, ne, of_bits, to_bits}
use lib.ListN.{length, get_or, take, replicate}
use Rattle.words.specs.Loop.{pick}
use Rattle.sheet.specs.Digits.{byte_of, power, digits, hex_of}
use Rattle.sheet.specs.Reader.{over}
use Rattle.std.specs.Prelude.{Ok, Err}
use Rattle.forecast_text.specs.declared.ending.Reached.{Reached}
use Rattle.forecast_text.specs.declared.ending.ForecastError.TheVariants.{Opening, Malformed, TooLong}
use Rattle.forecast_text.specs.Printed.{text, width_in, float_of, status_line, amounts_text, stride_line}
use Rattle.forecast_text.specs.Printed.{reached_text, refusal_text, Forecast, printed_of}
use Rattle.forecast_text.proofs.Samples.{one, ended}

-- the bytes that a printer makes of a forecast, and what the contract asks of them
abbrev pub Printer : Type 0
Printer = Forecast → List ℕ

abbrev pub Meets : Printer → Type 0
Meets printer =
    (f : Forecast) (memory : List ℕ) → length memory ≡ 1024
    → (over (printer f) memory ≡ over (printed_of f) memory) × (length (printer f) ≡ length (printed_of f))

abbrev byte : List ℕ → ℕ → ℕ
byte bytes i = get_or (over bytes (replicate 1024 0)) i 0

shut_out : (printer : Printer) (f : Forecast) (i wrong right : ℕ) → byte (printer f) i ≡ wrong
    → byte (printed_of f) i ≡ right → (wrong ≡ right → ⊥) → Meets printer → ⊥
shut_out printer f i wrong right p q differ meets =
    differ (sym p ∙ ap (λ l. get_or l i 0) (meets f (replicate 1024 0) refl).0 ∙ q)

-- a printer that is wrong only where a run ended
abbrev at_end : (Reached → List ℕ) → Printer
at_end wrong (Ok e) = wrong e
at_end wrong (Err x) = refusal_text x

-- ---- a NaN with the sign that a machine's own NaN has: fff8000000000000

abbrev signed : Float → List ℕ
signed x = pick (ne x x) (hex_of 0xfff8_0000_0000_0000) (float_of x)

abbrev pub own_bits : Printer
own_bits =
    at_end (λ e. status_line e.result ++ text "x " ++ signed e.result.x ++ text "\ny"
    ++ amounts_text (take e.species e.amounts) ++ text "\n" ++ stride_line e.result)

-- the byte behind `x `: an f, where a 7 is wanted
pub own-bits : Meets own_bits → ⊥
unfolding printed_of text amounts_text width_in digits byte_of power pick ne of_bits to_bits over
own-bits = shut_out own_bits (ended nan 0) 60 102 55 refl refl (λ e. omega arith)

-- ---- all that the array has, whatever the number of amounts

abbrev pub all_amounts : Printer
all_amounts = at_end (λ e. reached_text (record e { species = length e.amounts }))

-- the byte behind the only amount: a space, where LF is wanted
pub all-amounts : Meets all_amounts → ⊥
unfolding printed_of text amounts_text width_in digits byte_of power pick ne of_bits to_bits over
all-amounts = shut_out all_amounts (ended one 1) 95 32 10 refl refl (λ e. omega arith)

-- ---- the largest stride first

abbrev pub largest_first : Printer
largest_first =
    at_end (λ e. status_line e.result ++ text "x " ++ float_of e.result.x ++ text "\ny"
    ++ amounts_text (take e.species e.amounts) ++ text "\nh " ++ float_of e.result.largest ++ text " "
    ++ float_of e.result.smallest ++ text "\n")

-- the third digit behind `h `: an f, where a 5 is wanted
pub largest-first : Meets largest_first → ⊥
unfolding printed_of text amounts_text width_in digits byte_of power pick ne of_bits to_bits over
largest-first = shut_out largest_first (ended one 1) 100 102 53 refl refl (λ e. omega arith)

-- ---- the number 20 without its line

abbrev pub no_line : Printer
no_line (Ok e) = reached_text e
no_line (Err (Opening x)) = refusal_text (Opening x)
no_line (Err (Malformed k)) = text "refused 20\n"
no_line (Err TooLong) = refusal_text TooLong

-- the byte behind 20: LF, where a space is wanted
pub no-line : Meets no_line → ⊥
unfolding printed_of refusal_text text width_in digits byte_of power pick over
no-line = shut_out no_line (Err (Malformed 7)) 10 10 32 refl refl (λ e. omega arith)
