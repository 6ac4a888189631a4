-- Forecasts with what is printed of them, text by text: the one that 01 gives, one with a NaN and no amounts, and
-- the three kinds of refusal.
use Prim.Native.Nat.{ℕ}
use mathlib.Core.Path.{◌≡◌, refl}
use mathlib.Core.List.{◌++◌}
use lib.Ieee.{Float, nan, ne, of_bits, to_bits}
use lib.ListN.{replicate}
use Rattle.words.specs.Words.{double}
use Rattle.words.specs.Loop.{pick}
use Rattle.state.specs.declared.run.Counts.{Counts}
use Rattle.state.specs.declared.run.Status.TheVariants.{Success}
use Rattle.state.specs.declared.talk.Blame.TheVariants.{Untold}
use Rattle.state.specs.declared.talk.Refusal.TheVariants.{MinStep}
use Rattle.sheet.specs.Digits.{byte_of, power, digits}
use Rattle.std.specs.Prelude.{Ok, Err}
use Rattle.forecast_text.specs.declared.ending.ForecastError.TheVariants.{Opening, Malformed, TooLong}
use Rattle.forecast_text.specs.Printed.{text, width_in, amounts_text, refusal_text, Forecast, printed_of}

abbrev counted : Counts
counted = record { ode = 33; jac = 8; lu = 24; total = 8; accepted = 8; rejected = 0 }

abbrev pub one : Float
one = double 0x3ff0_0000_0000_0000

-- the end of a run with these counts, at x, with so many amounts, each 1, and strides from 2^-10 to 1
abbrev pub ended : Float → ℕ → Forecast
ended x n =
    Ok (record {
      result = record {
        h = one;
        x = x;
        status = Success;
        counts = counted;
        blame = Untold;
        smallest = double 0x3f50_0000_0000_0000;
        largest = one;
      };
      species = n;
      amounts = replicate 32 one;
    })

pub decayed-printed : printed_of (ended one 1)
    ≡ text "status 0 accepted 8 rejected 0 total 8 ode 33 jac 8 lu 24\nx 3ff0000000000000\ny 3ff0000000000000\n"
    ++ text "h 3f50000000000000 3ff0000000000000\n"
unfolding printed_of text amounts_text width_in digits byte_of power pick ne of_bits to_bits
decayed-printed = refl

pub nan-printed : printed_of (ended nan 0)
    ≡ text "status 0 accepted 8 rejected 0 total 8 ode 33 jac 8 lu 24\nx 7ff8000000000000\ny\n"
    ++ text "h 3f50000000000000 3ff0000000000000\n"
unfolding printed_of text amounts_text width_in digits byte_of power pick ne of_bits to_bits
nan-printed = refl

pub refused-printed : printed_of (Err (Opening MinStep)) ≡ text "refused 12\n"
unfolding printed_of refusal_text text width_in digits byte_of power pick
refused-printed = refl

pub malformed-printed : printed_of (Err (Malformed 107)) ≡ text "refused 20 107\n"
unfolding printed_of refusal_text text width_in digits byte_of power pick
malformed-printed = refl

pub too-long-printed : printed_of (Err TooLong) ≡ text "refused 21\n"
unfolding printed_of refusal_text text
too-long-printed = refl
