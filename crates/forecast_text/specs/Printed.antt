-- The bytes that are printed of a forecast (01, 'Sheet and program'): 'status, six counts, the point reached, all
-- amounts on one line; one space between, a NaN as 7ff8000000000000', then the two strides (02, [7]); or `refused` and
-- the number, with the line after 20. Each line is ended by LF.
use Rattle.std.specs.Prelude.{ℕ, zero, suc, ◌+◌, ◌/◌, List, [], ◌∷◌, ◌++◌, ltb, take, Float, Result, Ok, Err}
use Prim.Native.Char.{code}
use Prim.Native.String.{String, [] as nothing, ◌∷◌ as ◌then◌}
use Rattle.words.specs.Loop.{pick}
use Rattle.state.specs.declared.talk.IntegrationResult.{IntegrationResult}
use Rattle.state.specs.Numbers.{refusal_number, status_number}
use Rattle.bits.specs.Pattern.{pattern_of}
use Rattle.sheet.specs.Digits.{digits, hex_of}
use Rattle.forecast_text.specs.declared.ending.Reached.{Reached}
use Rattle.forecast_text.specs.declared.ending.ForecastError.{ForecastError}
use Rattle.forecast_text.specs.declared.ending.ForecastError.TheVariants.{Opening, Malformed, TooLong}

-- ---- words and numbers

-- a text by its bytes; all of ours are below 128
unfoldable pub text : String → List ℕ
text nothing = []
text (character then rest) = code character ∷ text rest

-- how many decimal digits v has, where it has no more than k + 1
unfoldable pub width_in : ℕ → ℕ → ℕ
width_in zero v = 1
width_in (suc k) v = pick (ltb v 10) 1 (width_in k (v / 10) + 1)

-- a number below 10^20, which every u64 is, with as many decimal digits as it has
abbrev pub numeral_of : ℕ → List ℕ
numeral_of v = digits 10 (width_in 19 v) v

-- a double by its bits
abbrev pub float_of : Float → List ℕ
float_of x = hex_of (pattern_of x)

-- ---- lines

abbrev pub status_line : IntegrationResult → List ℕ
status_line r =
    let c = r.counts in
    text "status " ++ numeral_of (status_number r.status) ++ text " accepted " ++ numeral_of c.accepted
    ++ text " rejected " ++ numeral_of c.rejected
    ++ text " total " ++ numeral_of c.total ++ text " ode " ++ numeral_of c.ode ++ text " jac "
    ++ numeral_of c.jac ++ text " lu " ++ numeral_of c.lu ++ text "\n"

unfoldable pub amounts_text : List Float → List ℕ
amounts_text [] = []
amounts_text (y ∷ ys) = text " " ++ float_of y ++ amounts_text ys

-- the smallest and the largest stride
abbrev pub stride_line : IntegrationResult → List ℕ
stride_line r = text "h " ++ float_of r.smallest ++ text " " ++ float_of r.largest ++ text "\n"

-- all amounts, of those that stand in the array
abbrev pub reached_text : Reached → List ℕ
reached_text e =
    status_line e.result ++ text "x " ++ float_of e.result.x ++ text "\n" ++ text "y"
    ++ amounts_text (take e.species e.amounts) ++ text "\n" ++ stride_line e.result

unfoldable pub refusal_text : ForecastError → List ℕ
refusal_text (Opening x) = text "refused " ++ numeral_of (refusal_number x) ++ text "\n"
refusal_text (Malformed k) = text "refused 20 " ++ numeral_of k ++ text "\n"
refusal_text TooLong = text "refused 21\n"

-- what became of a sheet: the end of its run, or why it has none
abbrev pub Forecast : Type 0
Forecast = Result Reached ForecastError

unfoldable pub printed_of : Forecast → List ℕ
printed_of (Ok e) = reached_text e
printed_of (Err x) = refusal_text x
