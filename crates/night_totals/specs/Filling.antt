-- What a byte does to a text of a fixed form that has come so far: the code's own definition. What a text of a form is
-- stands in Form. `None` is a text that is not of the form.
use Rattle.std.specs.Prelude.{ℕ, ◌+◌, ◌-◌, ◌*◌, ◌%◌, ◌^◌, Bool, List, length, replicate, ◌==◌, nat_le}
use Rattle.std.specs.Prelude.{nat_lt, ◌&&◌, slice_index, slice_set, Option, None, Some}
use Rattle.words.specs.Loop.{pick}
use Rattle.bits.specs.Digit.{byte0, byte9}
use Rattle.night_totals.specs.declared.filling.Filling.{Filling}
use Rattle.night_totals.specs.declared.filling.Number.{Number}
use Rattle.night_totals.specs.declared.filling.Number.TheVariants as numbers
use Rattle.night_totals.specs.Form.{slot}

-- nothing has come yet
abbrev pub blank_of : Filling
blank_of = record { at = 0; number = numbers.Awaited 0; filled = 0; values = replicate 16 0 }

-- whether a number stands at a place of the form
unfoldable pub numbered_at : List ℕ → ℕ → Bool
numbered_at form at = nat_lt at (length form) && (slice_index form at == slot)

-- the place behind
abbrev pub onward : Filling → Filling
onward q = record { at = q.at + 1; number = q.number; filled = q.filled; values = q.values }

abbrev pub valued_of : Filling → ℕ → Filling
valued_of q v = record { at = q.at; number = numbers.Begun v; filled = q.filled; values = q.values }

abbrev pub kept : Filling → ℕ → Filling
kept q v =
    record {
      at = (q.at + 1) % 2 ^ 64;
      number = numbers.Awaited 0;
      filled = q.filled + 1;
      values = slice_set q.values q.filled v;
    }

-- the byte that stands in the form
unfoldable pub passed_of : List ℕ → Filling → ℕ → Option Filling
passed_of form q b =
    pick (nat_le (length form) q.at) None (pick (slice_index form q.at == b) (Some (onward q)) None)

-- one digit more: behind a 0 there is none, and a number has no more than sixteen
unfoldable pub longer_of : Number → ℕ → Option ℕ
longer_of (numbers.Awaited v) d = Some d
longer_of (numbers.Begun v) d = pick (v == 0) None (pick (nat_le 1000000000000000 v) None (Some (v * 10 + d)))

abbrev pub grown : Filling → Option ℕ → Option Filling
grown q None = None
grown q (Some v) = Some (valued_of q v)

unfoldable pub digit_of : Filling → ℕ → Option Filling
digit_of q d = grown q (longer_of q.number d)

-- the number has ended
unfoldable pub stored_of : Filling → ℕ → Option Filling
stored_of q v = pick (nat_le 16 q.filled) None (Some (kept q v))

abbrev pub passed_from : List ℕ → Option Filling → ℕ → Option Filling
passed_from form None b = None
passed_from form (Some q) b = passed_of form q b

abbrev pub behind_from : List ℕ → Filling → Number → ℕ → Option Filling
behind_from form q (numbers.Awaited v) b = None
behind_from form q (numbers.Begun v) b = passed_from form (stored_of q v) b

unfoldable pub behind_of : List ℕ → Filling → ℕ → Option Filling
behind_of form q b = behind_from form q q.number b

unfoldable pub number_of : List ℕ → Filling → ℕ → Option Filling
number_of form q b =
    pick (nat_lt b byte0) (behind_of form q b) (pick (nat_lt byte9 b) (behind_of form q b) (digit_of q (b - byte0)))

unfoldable pub filled_of : List ℕ → Filling → ℕ → Option Filling
filled_of form q b =
    pick (b == slot) None (pick (numbered_at form q.at) (number_of form q b) (passed_of form q b))
