-- How cases are counted, by rows.
use Rattle.std.specs.Prelude.{ℕ, List, replicate, get_or, nat_le, slice_set, is_none}
use Rattle.words.specs.Loop.{pick}
use Rattle.replay.specs.declared.count.Row.{Row}
use Rattle.replay.specs.declared.count.Counts.{Counts}
use Rattle.replay.specs.declared.found.Found.{Found}
use Rattle.replay.specs.Found.{one_more}

abbrev pub counted_row : ℕ → ℕ → Row
counted_row agree differ = record { agree = agree; differ = differ }

abbrev pub counts : List Row → ℕ → ℕ → ℕ → Counts
counts rows malformed seen missed = record { rows = rows; malformed = malformed; seen = seen; missed = missed }

abbrev pub none_of : Counts
none_of = counts (replicate 32 (counted_row 0 0)) 0 0 0

abbrev pub unread_of : Counts → Counts
unread_of c = counts c.rows (one_more c.malformed) (one_more c.seen) (one_more c.missed)

abbrev pub row_at : List Row → ℕ → Row
row_at rows row = get_or rows row (counted_row 0 0)

-- a row that is none makes the case malformed
abbrev pub agreed_of : Counts → ℕ → Counts
agreed_of c row =
    let before = row_at c.rows row in
    pick (nat_le 32 row) (unread_of c)
    (counts (slice_set c.rows row (counted_row (one_more before.agree) before.differ)) c.malformed (one_more c.seen)
    c.missed)

abbrev pub differed_of : Counts → ℕ → Counts
differed_of c row =
    let before = row_at c.rows row in
    pick (nat_le 32 row) (unread_of c)
    (counts (slice_set c.rows row (counted_row before.agree (one_more before.differ))) c.malformed (one_more c.seen)
    (one_more c.missed))

abbrev pub counted_of : Counts → ℕ → Found → Counts
counted_of c row f = pick f.malformed (unread_of c) (pick (is_none f.first) (agreed_of c row) (differed_of c row))
