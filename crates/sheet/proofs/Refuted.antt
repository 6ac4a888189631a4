-- Wrong readers: a routine that takes each wrong reading, refuted where it differs from the definition that the
-- contract ties the code to; and the sheet on which it would go astray, with what the offered reader answers.
--     not-zeros-allowed    a decimal that has zeros in front
--     not-ends-anywhere    bytes behind the last line
--     not-any-species      a species that the sheet doesn't have
use Prim.Native.Nat.{ℕ, ◌%◌}
use mathlib.Core.Bool.{Bool, true, false, true≢false}
use mathlib.Core.Path.{◌≡◌, refl, sym, ap}
use mathlib.Core.List.{List, [], ◌∷◌, ◌++◌}
use lib.Dec.{eqb, ltb}
use lib.ListN.{length}
use Rattle.words.specs.Loop.{pick}
use Rattle.bits.specs.Digit.{digit_of}
use Rattle.std.proofs.Common.{Option, None, Some, Result, Ok, Err}
use Rattle.sheet.specs.declared.kind.Kind.{Kind}
use Rattle.sheet.specs.declared.numbers.Progress.{Progress}
use Rattle.sheet.specs.declared.sheet.SheetError.TheVariants as error
use Rattle.sheet.specs.Digits.{byte_of, power, digits, width_of, hex_of}
use Rattle.sheet.specs.Digits.{decimal_of, after_digit, spelled_of, base_of, width_by, found_of}
use Rattle.sheet.specs.Sheet.{Model, line, written}
use Rattle.sheet.specs.Kinds.{hex_kind, decimal_kind, setting_of, reaction_of, kind_of}
use Rattle.sheet.specs.Numbers.{judged_of, number_of, followed, piece_of, ends_of, numbers_of}
use Rattle.sheet.specs.Reader.{at_end, after_reactions, after_count, after_amounts}
use Rattle.sheet.specs.Reader.{after_settings, sheet_of, ended_of, told_of, read_of, answer_of}
use Rattle.sheet.proofs.Samples.{decaying, reacting}

-- ---- zeros in front

abbrev any_width : Kind → ℕ → Option ℕ → Option ℕ
any_width k n None = None
any_width k n (Some v) =
    pick (ltb n (width_by k.notation v)) None (pick (ltb v k.low) None (pick (ltb k.high v) None (Some v)))

abbrev pub zeros_allowed : Kind → List ℕ → Option ℕ
zeros_allowed k text =
    pick (ltb 16 (length text)) None (any_width k (length text) (spelled_of (base_of k.notation) 0 text))

abbrev is_wrong : Option ℕ → Bool
is_wrong None = true
is_wrong (Some v) = false

-- 01 as the number of species
pub not-zeros-allowed : ((k : Kind) (text : List ℕ) → zeros_allowed k text ≡ number_of k text) → ⊥
unfolding number_of judged_of spelled_of after_digit digit_of base_of width_by width_of pick
not-zeros-allowed meets = true≢false (sym (ap is_wrong (meets (decimal_kind 1 32 10) (48 ∷ 49 ∷ []))))

abbrev zero_in_front : List ℕ
zero_in_front =
    line (decimal_of 6) ++ line (hex_of 0) ++ line (hex_of 0) ++ line (hex_of 0)
    ++ line (hex_of 0) ++ line (decimal_of 500) ++ line (decimal_of 0)
    ++ line (48 ∷ 49 ∷ []) ++ line (hex_of 0) ++ line (decimal_of 0)

pub zero-in-front : answer_of (read_of zero_in_front) ≡ Err (error.Malformed 8)
unfolding written digits byte_of power width_of pick digit_of after_digit spelled_of base_of width_by found_of
    setting_of reaction_of kind_of judged_of number_of followed piece_of ends_of numbers_of at_end after_reactions
    after_count after_amounts after_settings sheet_of told_of read_of answer_of
zero-in-front = refl

-- ---- bytes behind the last line

abbrev pub ends_anywhere : Progress → Result Unit ℕ
ends_anywhere p = Ok tt

abbrev is_well : Result Unit ℕ → Bool
is_well (Ok done) = true
is_well (Err lines) = false

-- one byte behind the one line that was read
pub not-ends-anywhere : ((p : Progress) → ends_anywhere p ≡ ended_of p) → ⊥
unfolding ended_of pick
not-ends-anywhere meets =
    true≢false (ap is_well (meets (record { rest = record { ref_ptr = (0, 0); now = 10 ∷ [] }; lines = 1 })))

-- one LF more than the ten lines of the sheet
pub further-line : answer_of (read_of (written decaying ++ (10 ∷ []))) ≡ Err (error.Malformed 11)
unfolding written digits byte_of power width_of pick digit_of after_digit spelled_of base_of width_by found_of
    setting_of reaction_of kind_of judged_of number_of followed piece_of ends_of numbers_of at_end after_reactions
    after_count after_amounts after_settings sheet_of told_of read_of answer_of
further-line = refl

-- ---- a species that isn't there

abbrev pub any_species : ℕ → ℕ → Kind
any_species species i =
    pick (eqb (i % 5) 0) (hex_kind 32) (pick (ltb (i % 5) 4) (decimal_kind 0 32 32) (decimal_kind 0 species 10))

abbrev two_highest : Kind → Bool
two_highest k = eqb k.high 2

pub not-any-species : ((species i : ℕ) → any_species species i ≡ reaction_of species i) → ⊥
unfolding reaction_of pick
not-any-species meets = true≢false (sym (ap two_highest (meets 2 1)))

-- the third of two, as a reactant
abbrev unknown : Model
unknown =
    record {
      x0 = reacting.x0;
      xend = reacting.xend;
      rtol = reacting.rtol;
      atol = reacting.atol;
      max_steps = reacting.max_steps;
      rule = reacting.rule;
      amounts = reacting.amounts;
      reactions = record { rate = 0; reactant1 = 3; reactant2 = 0; product1 = 0; product2 = 0 } ∷ [];
    }

pub unknown-species : answer_of (read_of (written unknown)) ≡ Err (error.Malformed 12)
unfolding written digits byte_of power width_of pick digit_of after_digit spelled_of base_of width_by found_of
    setting_of reaction_of kind_of judged_of number_of followed piece_of ends_of numbers_of at_end after_reactions
    after_count after_amounts after_settings sheet_of told_of read_of answer_of
unknown-species = refl
