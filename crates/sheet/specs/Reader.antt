-- What the reader makes of any bytes: the model of a sheet, the first wrong line, or that there are more than 4,096
-- bytes. The parts of a sheet are read in order, and the line of the first number that is wrong or missing is the wrong
-- line; where all is right, nothing may follow.
use Rattle.std.specs.Prelude.{ℕ, zero, suc, ◌+◌, ◌*◌, Result, Ok, Err, List, [], ◌∷◌, eqb, ltb, length}
use Rattle.std.specs.Prelude.{get_or, take, drop}
use Rattle.words.specs.Loop.{pick}
use Rattle.state.specs.declared.settings.Rule.{Rule}
use Rattle.state.specs.declared.settings.Rule.TheVariants.{Rust, Book}
use Rattle.sheet.specs.Sheet.{Reaction, Model}
use Rattle.sheet.specs.Numbers.{Passage, passed, stuck, part_of}
use Rattle.sheet.specs.declared.kind.Phase.TheVariants as phase
use Rattle.sheet.specs.declared.numbers.Progress.{Progress}
use Rattle.sheet.specs.declared.sheet.Heading.{Heading}
use Rattle.sheet.specs.declared.sheet.SheetError.{SheetError}
use Rattle.sheet.specs.declared.sheet.SheetError.TheVariants as error

-- ---- the parts, one after the other

-- the numbers of the four parts; or how many lines had ended before the wrong one
pub data Judged : Type 0 where
  whole : List ℕ → List ℕ → List ℕ → List ℕ → Judged
  broken : ℕ → Judged

unfoldable pub at_end : List ℕ → List ℕ → List ℕ → List ℕ → ℕ → List ℕ → Judged
at_end h a n r lines [] = whole h a n r
at_end h a n r lines (x ∷ rest) = broken lines

unfoldable pub after_reactions : List ℕ → List ℕ → List ℕ → Passage → Judged
after_reactions h a n (passed r lines rest) = at_end h a n r lines rest
after_reactions h a n (stuck lines) = broken lines

unfoldable pub after_count : List ℕ → List ℕ → Passage → Judged
after_count h a (passed n lines rest) =
    after_reactions h a n (part_of phase.Reactions (get_or h 7 0) (get_or n 0 0 * 5) lines rest)
after_count h a (stuck lines) = broken lines

unfoldable pub after_amounts : List ℕ → Passage → Judged
after_amounts h (passed a lines rest) = after_count h a (part_of phase.Count 0 1 lines rest)
after_amounts h (stuck lines) = broken lines

unfoldable pub after_settings : Passage → Judged
after_settings (passed h lines rest) = after_amounts h (part_of phase.Amounts 0 (get_or h 7 0) lines rest)
after_settings (stuck lines) = broken lines

unfoldable pub sheet_of : List ℕ → Judged
sheet_of s = after_settings (part_of phase.Settings 0 8 0 s)

-- what the code has of it: the numbers that it read, and how it went
unfoldable pub judged_at : List ℕ → List ℕ → List ℕ → List ℕ → Result Unit ℕ → Judged
judged_at h a n r (Ok done) = whole h a n r
judged_at h a n r (Err lines) = broken lines

-- the same of the reader's memory, of which the counts say how much was read
abbrev pub judged_in : List ℕ → List ℕ → List ℕ → List ℕ → Result Unit ℕ → Judged
judged_in h a n r p = judged_at h (take (get_or h 7 0) a) n (take (get_or n 0 0 * 5) r) p

-- nothing may follow the last number
unfoldable pub ended_of : Progress → Result Unit ℕ
ended_of p = pick (eqb (length p.rest.now) 0) (Ok tt) (Err p.lines)

-- ---- the model

abbrev pub reaction_from : List ℕ → Reaction
reaction_from r = record {
  rate = get_or r 0 0;
  reactant1 = get_or r 1 0;
  reactant2 = get_or r 2 0;
  product1 = get_or r 3 0;
  product2 = get_or r 4 0;
}

unfoldable pub reactions_from : ℕ → List ℕ → List Reaction
reactions_from zero r = []
reactions_from (suc n) r = reaction_from r ∷ reactions_from n (drop 5 r)

unfoldable pub rule_from : ℕ → Rule
rule_from v = pick (eqb v 0) Rust Book

unfoldable pub model_from : List ℕ → List ℕ → List ℕ → List ℕ → Model
model_from h a n r =
    record {
      x0 = get_or h 1 0;
      xend = get_or h 2 0;
      rtol = get_or h 3 0;
      atol = get_or h 4 0;
      max_steps = get_or h 5 0;
      rule = rule_from (get_or h 6 0);
      amounts = a;
      reactions = reactions_from (get_or n 0 0) r;
    }

pub data Read : Type 0 where
  accepted : Model → Read
  malformed : ℕ → Read
  too_long : Read

unfoldable pub told_of : Judged → Read
told_of (whole h a n r) = accepted (model_from h a n r)
told_of (broken lines) = malformed (lines + 1)

unfoldable pub read_of : List ℕ → Read
read_of s = pick (ltb 4096 (length s)) too_long (told_of (sheet_of s))

-- ---- what the code answers, and leaves in lent memory: a refusal leaves it as it was

unfoldable pub heading_of : Model → Heading
heading_of m =
    record {
      x0 = m.x0;
      xend = m.xend;
      rtol = m.rtol;
      atol = m.atol;
      max_steps = m.max_steps;
      rule = m.rule;
      species = length m.amounts;
      reactions = length m.reactions;
    }

unfoldable pub heading_from : List ℕ → ℕ → Heading
heading_from h reactions =
    record {
      x0 = get_or h 1 0;
      xend = get_or h 2 0;
      rtol = get_or h 3 0;
      atol = get_or h 4 0;
      max_steps = get_or h 5 0;
      rule = rule_from (get_or h 6 0);
      species = get_or h 7 0;
      reactions = reactions;
    }

unfoldable pub answer_of : Read → Result Heading SheetError
answer_of (accepted m) = Ok (heading_of m)
answer_of (malformed k) = Err (error.Malformed k)
answer_of too_long = Err error.TooLong

-- values over the first entries of a memory
unfoldable pub over : List ℕ → List ℕ → List ℕ
over [] memory = memory
over (v ∷ values) [] = []
over (v ∷ values) (x ∷ memory) = v ∷ over values memory

unfoldable pub rates_of : List Reaction → List ℕ
rates_of [] = []
rates_of (r ∷ rs) = r.rate ∷ rates_of rs

unfoldable pub species_of : List Reaction → List ℕ
species_of [] = []
species_of (r ∷ rs) = r.reactant1 ∷ r.reactant2 ∷ r.product1 ∷ r.product2 ∷ species_of rs

unfoldable pub amounts_left : Read → List ℕ → List ℕ
amounts_left (accepted m) memory = over m.amounts memory
amounts_left (malformed k) memory = memory
amounts_left too_long memory = memory

unfoldable pub rates_left : Read → List ℕ → List ℕ
rates_left (accepted m) memory = over (rates_of m.reactions) memory
rates_left (malformed k) memory = memory
rates_left too_long memory = memory

unfoldable pub species_left : Read → List ℕ → List ℕ
species_left (accepted m) memory = over (species_of m.reactions) memory
species_left (malformed k) memory = memory
species_left too_long memory = memory
