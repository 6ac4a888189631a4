-- What may come of reading words. Which bytes standard input has no contract can say; these say what is made of them,
-- and what of a lent block is written and what stays.
use Rattle.std.specs.Prelude.{◌≡◌, ℕ, min, ◌%◌, ◌<◌, ◌≤◌, ◌⊎◌, List, length, ◌==◌, nat_le, slice_index, slice_set}
use Rattle.std.specs.Prelude.{Result, Ok, Err, ok_or}
use Rattle.words.specs.Loop.{pick}
use Rattle.replay.specs.declared.word.ReadError.{ReadError}
use Rattle.replay.specs.declared.word.ReadError.TheVariants.{Malformed, End}
use Rattle.replay.specs.Word.{spelled_of, reading_of}

-- the word that 17 bytes stand for, of which the last is to be `after`
abbrev pub ended_by : List ℕ → ℕ → Result ℕ ReadError
ended_by text after =
    pick (slice_index text 16 == after) (ok_or (spelled_of text 0 16) Malformed) (Err Malformed)

-- standard input has ended, or 17 bytes of it are taken and the word is theirs
pub data WordRead (after : ℕ) : Result ℕ ReadError → Type 0 where
  none : WordRead after (Err End)
  taken : (text : List ℕ) → length text ≡ 17 → WordRead after (ended_by text after)

-- what follows the word at a place of a block: four words stand on a line, so it is LF or a space
abbrev pub after_of : ℕ → ℕ
after_of place = pick (place % 4 == 3) 10 32

-- a block at whose places from `from` up to `to` words were put as they were read, and nothing else changed
pub record Filled (from to : ℕ) (before after : List ℕ) : Type 0 where
  pub long : length after ≡ length before
  pub words : (k : ℕ) → from ≤ k → k < to → WordRead (after_of k) (Ok (slice_index after k))
  pub others : (k : ℕ) → (k < from) ⊎ (to ≤ k) → slice_index after k ≡ slice_index before k

-- words were read up to the place `to`: none, or up to the end at most. The answer is `Ok` exactly where those are all
-- that were asked for
pub record WordsRead (from end : ℕ) (before after : List ℕ) (answered : Result (Unit {0}) ReadError) : Type 0 where
  pub to : ℕ
  pub high : (to ≡ from) ⊎ (to ≤ min end (length before))
  pub filled : Filled from to before after
  pub answer : answered ≡ reading_of (nat_le (min end (length before)) to)

-- standard input has ended before the block; its first word is wrong, or there is no room for one; or that word was put
-- and the others were read behind it. In the first two cases the block stays as it was
pub data BlockRead (end : ℕ) (before : List ℕ) : List ℕ → Result (Unit {0}) ReadError → Type 0 where
  ended : BlockRead end before before (Err End)
  wrong : BlockRead end before before (Err Malformed)
  begun : (first : ℕ) (after : List ℕ) (answered : Result (Unit {0}) ReadError)
      → WordRead (after_of 0) (Ok first)
      → WordsRead 1 end (slice_set before 0 first) after answered
      → BlockRead end before after answered
