-- What a user cites: each theorem in words, its statement, and where it is proved. What joined totals are is `join_of`
-- (specs/Join.antt), and what is refused by 28 `Unfit` there.
use Rattle.std.proofs.Common.{Ok, Err}
use Rattle.std.proofs.Common.{◌≡◌, ℕ, ◌+◌, ◌<◌, ◌≤◌, ltb, ◌⊎◌, ◌↔◌, List, ◌++◌, length}
use Rattle.words.specs.Loop.{pick}
use Rattle.night_totals.specs.Entries.{AllFit, most_lines}
use Rattle.night_totals.specs.Totals.{totals_of}
use Rattle.night_totals.specs.Reads.{Reads}
use Rattle.night_totals.specs.Night.{no_totals}
use Rattle.night_totals.specs.declared.entry.Entry.{Entry}
use Rattle.night_totals.specs.declared.totals.Totals.{Totals}
use Rattle.night_join.specs.declared.joining.JoinError.TheVariants as join_error
use Rattle.night_join.specs.Join.{Fit, Unfit, join_of, then_join, join_then, but_place}
use Rattle.night_join.proofs.AssociativeLaws.{associative-proof}
use Rattle.night_join.proofs.NeutralLaws.{no-lines-proof, neutral-proof, exchanged-proof}
use Rattle.night_join.proofs.LinesLaws.{lines-joined-proof, never-unfit-proof}
use Rattle.night_join.proofs.ExactLaws.{unfit-exactly-proof, many-exactly-proof}

-- Of three totals that are not refused by 28, either pair may be joined first: both orders come to the same totals, or
-- both to 26.
pub associative : (a b c : Totals) → Fit a → Fit b → Fit c → then_join (join_of a b) c ≡ join_then a (join_of b c)
associative = associative-proof

-- Totals of no lines are neutral on either side.
pub neutral : (n t : Totals) → Fit n → n.lines ≡ 0 → Fit t
    → (join_of n t ≡ Ok t) × (join_of t n ≡ Ok t)
neutral = neutral-proof

-- There is one such: all its numbers are 0.
pub no_lines : (t : Totals) → Fit t → t.lines ≡ 0 → t ≡ no_totals
no_lines = no-lines-proof

-- Joined totals are those of the lines put one after the other, or there are more than 65,535.
pub lines-joined : (a b : List Entry) → AllFit a → AllFit b → length a ≤ most_lines → length b ≤ most_lines
    → join_of (totals_of a) (totals_of b)
    ≡ pick (ltb most_lines (length (a ++ b))) (Err join_error.TooMany) (Ok (totals_of (a ++ b)))
lines-joined = lines-joined-proof

-- With the sides exchanged all but the place of the largest ode is the same, refusals too.
pub exchanged : (a b : Totals) → but_place (join_of a b) ≡ but_place (join_of b a)
exchanged = exchanged-proof

-- Totals that a night is told are never refused by 28.
pub never-unfit : (s : List ℕ) (t : Totals) → Reads s (Ok t) → Fit t
never-unfit = never-unfit-proof

-- 28 is given exactly where a side fails one of the tests.
pub unfit-exactly : (a b : Totals) → (join_of a b ≡ Err join_error.Unfit) ↔ (Unfit a ⊎ Unfit b)
unfit-exactly = unfit-exactly-proof

-- 26 is given, of sides that 28 leaves, exactly where there are more than 65,535 lines.
pub many-exactly : (a b : Totals) → Fit a → Fit b → (join_of a b
    ≡ Err join_error.TooMany) ↔ (most_lines < a.lines + b.lines)
many-exactly = many-exactly-proof
