-- What kind of number stands where in a sheet.
use Rattle.std.specs.Prelude.{ℕ, ◌%◌, eqb, ltb}
use Rattle.words.specs.Loop.{pick}
use Rattle.sheet.specs.declared.spelling.Notation.TheVariants.{Decimal, Hexadecimal}
use Rattle.sheet.specs.declared.kind.Kind.{Kind}
use Rattle.sheet.specs.declared.kind.Phase.{Phase}
use Rattle.sheet.specs.declared.kind.Phase.TheVariants as phase
use Rattle.sheet.specs.Sheet.{line_feed, space, most_steps}

abbrev pub hex_kind : ℕ → Kind
hex_kind mark = record { notation = Hexadecimal; low = 0; high = 0xffff_ffff_ffff_ffff; mark = mark }

abbrev pub decimal_kind : ℕ → ℕ → ℕ → Kind
decimal_kind low high mark = record { notation = Decimal; low = low; high = high; mark = mark }

-- x0, xend, rtol and atol are the four floats; then max_steps, the rule and the number of species
unfoldable pub setting_of : ℕ → Kind
setting_of i =
    pick (eqb i 0) (decimal_kind 6 6 line_feed)
    (pick (ltb i 5) (hex_kind line_feed)
    (pick (eqb i 5) (decimal_kind 0 most_steps line_feed)
    (pick (eqb i 6) (decimal_kind 0 1 line_feed) (decimal_kind 1 32 line_feed))))

-- five numbers to a reaction
unfoldable pub reaction_of : ℕ → ℕ → Kind
reaction_of species i =
    pick (eqb (i % 5) 0) (hex_kind space)
    (pick (ltb (i % 5) 4) (decimal_kind 0 species space) (decimal_kind 0 species line_feed))

-- the kind of a part's number i, counted from 0
unfoldable pub kind_of : Phase → ℕ → ℕ → Kind
kind_of phase.Settings species i = setting_of i
kind_of phase.Amounts species i = hex_kind line_feed
kind_of phase.Count species i = decimal_kind 0 64 line_feed
kind_of phase.Reactions species i = reaction_of species i
