-- What the words of a case stand for.
use Rattle.std.specs.Prelude.{ℕ, ◌+◌, ◌*◌, ◌/◌, ◌%◌, Bool, List, [], ◌∷◌, length, ◌==◌, nat_lt, slice_range}
use Rattle.std.specs.Prelude.{Option, Some, None, Result, Ok, Err, option_and_then}
use Rattle.words.specs.Loop.{pick}
use Rattle.bits.specs.Digit.{digit_of}
use Rattle.replay.specs.declared.word.ReadError.{ReadError}
use Rattle.replay.specs.declared.word.ReadError.TheVariants.{Malformed}

-- one digit more behind a number
abbrev pub one_digit_more : ℕ → ℕ → ℕ
one_digit_more value next = value % 0x1000_0000_0000_0000 * 16 + next % 16

-- the number that bytes spell behind the digits of another, if all of them are digits
abbrev pub spelled_behind : ℕ → List ℕ → Option ℕ
spelled_behind value [] = Some value
spelled_behind value (byte ∷ bytes) =
    option_and_then (λ next. spelled_behind (one_digit_more value next) bytes) (digit_of byte)

unfoldable pub spelled_of : List ℕ → ℕ → ℕ → Option ℕ
spelled_of text from end =
    pick (nat_lt (length text) end) None
    (pick (nat_lt end from) None (spelled_behind 0 (slice_range text from end)))

-- one of the four numbers of four digits that a word holds, the first being 0
abbrev pub quarter_of : ℕ → ℕ → ℕ
quarter_of word place =
    pick (place == 0) (word / 0x1_0000_0000_0000)
    (pick (place == 1) (word / 0x1_0000_0000 % 0x1_0000)
    (pick (place == 2) (word / 0x1_0000 % 0x1_0000) (word % 0x1_0000)))

-- what is answered for words: whether all are there
abbrev pub reading_of : Bool → Result (Unit {0}) ReadError
reading_of good = pick good (Ok tt) (Err Malformed)
