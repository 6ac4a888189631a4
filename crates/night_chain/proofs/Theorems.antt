-- What a user cites: each theorem in words, its statement, and where it is proved. What is read is `printed_all` with
-- `AllShort` (specs/Texts.antt), and what a text comes to `Reads` (specs/Reads.antt).
use Rattle.std.proofs.Common.{Result, Ok, Err}
use Rattle.std.proofs.Common.{◌≡◌, ℕ, ltb, ◌↔◌, List, ◌++◌, length}
use Rattle.words.specs.Loop.{pick}
use Rattle.night_totals.specs.Entries.{most_lines}
use Rattle.night_totals.specs.Totals.{totals_of}
use Rattle.night_totals.specs.declared.entry.Entry.{Entry}
use Rattle.night_totals.specs.declared.totals.Totals.{Totals}
use Rattle.night_join.specs.Join.{Fit}
use Rattle.night_join.specs.declared.joining.JoinError.TheVariants as join_error
use Rattle.night_chain.specs.Texts.{Short, printed_all}
use Rattle.night_chain.specs.Nights.{AllNights, lines_in, totals_in}
use Rattle.night_chain.specs.Reads.{Reads, answer_of}
use Rattle.night_chain.specs.Chain.{start_of, fed_of, told_of}
use Rattle.night_chain.specs.declared.chain.Chain.{Chain}
use Rattle.night_chain.specs.declared.chain.ChainError.{ChainError}
use Rattle.night_chain.proofs.FedLaws.{fed_then}
use Rattle.night_chain.proofs.TellLaws.{one-outcome-proof, told-exactly-proof}
use Rattle.night_chain.proofs.NightLaws.{fit-short-proof, nights-told-proof}

-- The borders of the pieces don't show: two pieces one after the other come to what both in one come to.
pub borders-hidden : (c : Chain) (first second : List ℕ) → fed_of (fed_of c first) second ≡ fed_of c (first ++ second)
borders-hidden = fed_then

-- What is told of a text is what it comes to, for all bytes: all of it are totals as `totals` prints them, and it is
-- what they come to, joined from left to right; or it is the number of its first line that is wrong or missing.
pub told-exactly : (s : List ℕ) (a : Result Totals ChainError) → (told_of (fed_of start_of s) ≡ a) ↔ Reads s a
told-exactly = told-exactly-proof

-- A text comes to one thing only.
pub one-outcome : (s : List ℕ) (a b : Result Totals ChainError) → Reads s a → Reads s b → a ≡ b
one-outcome = one-outcome-proof

-- Totals that 28 leaves have no number with more than 16 digits: what `totals` and `joined` print is read.
pub fit-short : (t : Totals) → Fit t → Short t
fit-short = fit-short-proof

-- The totals of nights, printed one after another, are told as the totals of all their lines, or as 26.
pub nights-told : (nights : List (List Entry)) → AllNights nights
    → told_of (fed_of start_of (printed_all (totals_in nights)))
    ≡ answer_of (pick (ltb most_lines (length (lines_in nights))) (Err join_error.TooMany)
    (Ok (totals_of (lines_in nights))))
nights-told = nights-told-proof
