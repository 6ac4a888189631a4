-- What a whole text comes to (02, [13]), from the totals in it alone; nothing here says how a text is taken.
use Rattle.std.specs.Prelude.{◌≡◌, ℕ, suc, ◌+◌, ◌*◌, ◌%◌, ◌^◌, ◌<◌, List, [], ◌∷◌, ◌++◌, length, Result, Ok, Err}
use Rattle.night_totals.specs.Night.{no_totals}
use Rattle.night_totals.specs.declared.totals.Totals.{Totals}
use Rattle.night_join.specs.Join.{then_join}
use Rattle.night_join.specs.declared.joining.JoinError.{JoinError}
use Rattle.night_chain.specs.Texts.{AllShort, printed_all, Begins}
use Rattle.night_chain.specs.declared.chain.ChainError.{ChainError}
use Rattle.night_chain.specs.declared.chain.ChainError.TheVariants as chain_error

-- joined from left to right behind what was joined before; the first refused join ends it
unfoldable pub joined_from : Result Totals JoinError → List Totals → Result Totals JoinError
joined_from j [] = j
joined_from j (t ∷ ts) = joined_from (then_join j t) ts

-- of none the totals of no lines
abbrev pub joined_of : List Totals → Result Totals JoinError
joined_of ts = joined_from (Ok no_totals) ts

unfoldable pub answer_of : Result Totals JoinError → Result Totals ChainError
answer_of (Ok t) = Ok t
answer_of (Err e) = Err (chain_error.Join e)

pub data Reads (s : List ℕ) : Result Totals ChainError → Type 0 where
  -- totals one after another and nothing else: what they come to
  joined : (ts : List Totals) → s ≡ printed_all ts → AllShort ts → Reads s (answer_of (joined_of ts))
  -- behind totals something that goes on as totals do for n of their fourteen lines and for no more: the number of the
  -- line that is wrong or missing, in 64 bits
  malformed : (ts : List Totals) (c : List ℕ) (n : ℕ) → s ≡ printed_all ts ++ c → AllShort ts → 0 < length c → n < 14
      → Begins n c → (Begins (suc n) c → ⊥) → Reads s (Err (chain_error.Malformed ((14 * length ts + suc n) % 2 ^ 64)))
