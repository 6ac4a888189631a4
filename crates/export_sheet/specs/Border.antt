-- What the exported reader and writer of sheets answer and leave, on plain numbers: six settings (x0, xend, rtol and
-- atol by their bits, max_steps, the rule's number), and two counts (species, reactions).
use Rattle.std.specs.Prelude.{ℕ, Ok, Err, List, [], ◌∷◌, ltb, get_or}
use Rattle.words.specs.Loop.{pick}
use Rattle.sheet.specs.declared.sheet.Heading.{Heading}
use Rattle.sheet.specs.Sheet.{rule_number}
use Rattle.sheet.specs.Reader.{Read, accepted, malformed, too_long, heading_of, over, rule_from}
use Rattle.sheet.specs.Reader.{amounts_left, rates_left, species_left}
use Rattle.sheet_write.specs.declared.writing.WritingError.TheVariants.{NoModel}
use Rattle.sheet_write.specs.Writer.{Writing, number_of, answer_of, bytes_left}

abbrev pub setting_words : Heading → List ℕ
setting_words h = h.x0 ∷ h.xend ∷ h.rtol ∷ h.atol ∷ h.max_steps ∷ rule_number h.rule ∷ []

abbrev pub count_words : Heading → List ℕ
count_words h = h.species ∷ h.reactions ∷ []

-- ---- read

pub record SheetRead : Type 0 where
  pub number : ℕ
  pub settings : List ℕ
  pub counts : List ℕ
  pub amounts : List ℕ
  pub rates : List ℕ
  pub species : List ℕ
  pub line : ℕ

abbrev pub sheet_read : ℕ → List ℕ → List ℕ → List ℕ → List ℕ → List ℕ → ℕ → SheetRead
sheet_read n settings counts amounts rates species line = record {
  number = n;
  settings = settings;
  counts = counts;
  amounts = amounts;
  rates = rates;
  species = species;
  line = line;
}

-- the line is told with 20 alone; a refusal leaves all else as it was
unfoldable pub read_left : Read → List ℕ → List ℕ → List ℕ → List ℕ → List ℕ → ℕ → SheetRead
read_left (accepted m) settings counts amounts rates species line =
    sheet_read 0 (over (setting_words (heading_of m)) settings) (over (count_words (heading_of m)) counts)
    (amounts_left (accepted m) amounts) (rates_left (accepted m) rates) (species_left (accepted m) species) line
read_left (malformed k) settings counts amounts rates species line =
    sheet_read 20 settings counts amounts rates species k
read_left too_long settings counts amounts rates species line =
    sheet_read 21 settings counts amounts rates species line

-- ---- written

pub record SheetWritten : Type 0 where
  pub number : ℕ
  pub sheet : List ℕ
  pub long : ℕ

abbrev pub sheet_written : ℕ → List ℕ → ℕ → SheetWritten
sheet_written n sheet long = record { number = n; sheet = sheet; long = long }

unfoldable pub heading_given : List ℕ → List ℕ → Heading
heading_given settings counts =
    record {
      x0 = get_or settings 0 0;
      xend = get_or settings 1 0;
      rtol = get_or settings 2 0;
      atol = get_or settings 3 0;
      max_steps = get_or settings 4 0;
      rule = rule_from (get_or settings 5 0);
      species = get_or counts 0 0;
      reactions = get_or counts 1 0;
    }

-- the length is told of a sheet that was written
unfoldable pub length_left : Writing → ℕ → ℕ
length_left (Ok n) long = n
length_left (Err refused) long = long

-- a rule above 1 is unknown: 23, as all else that is no model
unfoldable pub written_left : List ℕ → List ℕ → List ℕ → List ℕ → List ℕ → List ℕ → ℕ → SheetWritten
written_left settings counts amounts rates species sheet long =
    let h = heading_given settings counts in
    let answer = answer_of h amounts rates species sheet in
    pick (ltb 1 (get_or settings 5 0)) (sheet_written (number_of (Err NoModel)) sheet long)
    (sheet_written (number_of answer) (bytes_left h amounts rates species sheet) (length_left answer long))
