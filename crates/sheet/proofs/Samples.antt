-- Two sheets, byte by byte, to hold the grammar against: the one that docs/ gives, and one with a reaction.
use mathlib.Core.Path.{◌≡◌, refl}
use mathlib.Core.List.{[], ◌∷◌}
use Rattle.words.specs.Loop.{pick}
use Rattle.state.specs.declared.settings.Rule.TheVariants.{Rust, Book}
use Rattle.sheet.specs.Digits.{byte_of, power, digits, width_of}
use Rattle.sheet.specs.Sheet.{Model, written}

abbrev pub decaying : Model
decaying =
    record {
      x0 = 0x0000_0000_0000_0000;
      xend = 0x3ff0_0000_0000_0000;
      rtol = 0x3f50_0000_0000_0000;
      atol = 0x3eb0_0000_0000_0000;
      max_steps = 100000;
      rule = Rust;
      amounts = 0x3ff0_0000_0000_0000 ∷ [];
      reactions = [];
    }

abbrev pub reacting : Model
reacting =
    record {
      x0 = 0x0000_0000_0000_0000;
      xend = 0x4024_0000_0000_0000;
      rtol = 0x3eb0_0000_0000_0000;
      atol = 0x3d71_9799_812d_ea11;
      max_steps = 500;
      rule = Book;
      amounts = 0x4000_0000_0000_0000 ∷ 0x4008_0000_0000_0000 ∷ [];
      reactions =
          record { rate = 0x3fe0_0000_0000_0000; reactant1 = 1; reactant2 = 2; product1 = 1; product2 = 0 } ∷ [];
    }

pub decaying-written : written decaying
    ≡ 54 ∷ 10 ∷ 48 ∷ 48 ∷ 48 ∷ 48 ∷ 48 ∷ 48 ∷ 48 ∷ 48 ∷ 48 ∷ 48 ∷ 48 ∷ 48 ∷ 48 ∷ 48 ∷ 48 ∷ 48 ∷ 10 ∷ 51 ∷ 102 ∷ 102 ∷ 48
    ∷ 48 ∷ 48 ∷ 48 ∷ 48 ∷ 48 ∷ 48 ∷ 48 ∷ 48 ∷ 48 ∷
    48 ∷ 48 ∷ 48 ∷ 10 ∷ 51 ∷ 102 ∷ 53 ∷ 48 ∷ 48 ∷ 48 ∷ 48 ∷ 48 ∷ 48 ∷ 48 ∷ 48 ∷ 48 ∷ 48 ∷ 48 ∷ 48 ∷ 48 ∷ 10 ∷ 51 ∷ 101
    ∷ 98 ∷ 48 ∷ 48 ∷ 48 ∷ 48 ∷ 48 ∷ 48 ∷ 48 ∷ 48 ∷
    48 ∷ 48 ∷ 48 ∷ 48 ∷ 48 ∷ 10 ∷ 49 ∷ 48 ∷ 48 ∷ 48 ∷ 48 ∷ 48 ∷ 10 ∷ 48 ∷ 10 ∷ 49 ∷ 10 ∷ 51 ∷ 102 ∷ 102 ∷ 48 ∷ 48 ∷ 48
    ∷ 48 ∷ 48 ∷ 48 ∷ 48 ∷ 48 ∷ 48 ∷ 48 ∷ 48 ∷ 48 ∷
    48 ∷ 10 ∷ 48 ∷ 10 ∷ []
unfolding written digits byte_of power width_of pick
decaying-written = refl

pub reacting-written : written reacting
    ≡ 54 ∷ 10 ∷ 48 ∷ 48 ∷ 48 ∷ 48 ∷ 48 ∷ 48 ∷ 48 ∷ 48 ∷ 48 ∷ 48 ∷ 48 ∷ 48 ∷ 48 ∷ 48 ∷ 48 ∷ 48 ∷ 10 ∷ 52 ∷ 48 ∷ 50 ∷ 52
    ∷ 48 ∷ 48 ∷ 48 ∷ 48 ∷ 48 ∷ 48 ∷ 48 ∷ 48 ∷ 48 ∷ 48 ∷
    48 ∷ 48 ∷ 10 ∷ 51 ∷ 101 ∷ 98 ∷ 48 ∷ 48 ∷ 48 ∷ 48 ∷ 48 ∷ 48 ∷ 48 ∷ 48 ∷ 48 ∷ 48 ∷ 48 ∷ 48 ∷ 48 ∷ 10 ∷ 51 ∷ 100 ∷ 55
    ∷ 49 ∷ 57 ∷ 55 ∷ 57 ∷ 57 ∷ 56 ∷ 49 ∷ 50 ∷ 100 ∷
    101 ∷ 97 ∷ 49 ∷ 49 ∷ 10 ∷ 53 ∷ 48 ∷ 48 ∷ 10 ∷ 49 ∷ 10 ∷ 50 ∷ 10 ∷ 52 ∷ 48 ∷ 48 ∷ 48 ∷ 48 ∷ 48 ∷ 48 ∷ 48 ∷ 48 ∷ 48
    ∷ 48 ∷ 48 ∷ 48 ∷ 48 ∷ 48 ∷ 48 ∷ 10 ∷ 52 ∷ 48 ∷ 48 ∷
    56 ∷ 48 ∷ 48 ∷ 48 ∷ 48 ∷ 48 ∷ 48 ∷ 48 ∷ 48 ∷ 48 ∷ 48 ∷ 48 ∷ 48 ∷ 10 ∷ 49 ∷ 10 ∷ 51 ∷ 102 ∷ 101 ∷ 48 ∷ 48 ∷ 48 ∷ 48
    ∷ 48 ∷ 48 ∷ 48 ∷ 48 ∷ 48 ∷ 48 ∷ 48 ∷ 48 ∷ 48 ∷
    32 ∷ 49 ∷ 32 ∷ 50 ∷ 32 ∷ 49 ∷ 32 ∷ 48 ∷ 10 ∷ []
unfolding written digits byte_of power width_of pick
reacting-written = refl
