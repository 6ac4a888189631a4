-- What the writer answers, and what it leaves in lent memory: 23 where memory holds no model of document 01, then 24
-- where its sheet is longer than the lent memory; neither writes anything. That the first test is right is a theorem
-- (`refused-exactly`, proofs/Theorems.antt).
use Rattle.std.specs.Prelude.{ℕ, ◌+◌, Bool, true, false, Result, Ok, Err, List, [], ◌∷◌, ltb, length, get_or, take}
use Rattle.words.specs.Loop.{pick}
use Rattle.sheet.specs.declared.kind.Kind.{Kind}
use Rattle.sheet.specs.declared.kind.Phase.TheVariants as phase
use Rattle.sheet.specs.declared.sheet.Heading.{Heading}
use Rattle.sheet.specs.Sheet.{written}
use Rattle.sheet.specs.Kinds.{kind_of}
use Rattle.sheet.specs.Reader.{over}
use Rattle.sheet.specs.Writes.{Fit}
use Rattle.sheet_write.specs.Memory.{settings_in, listed_in, model_in}
use Rattle.sheet_write.specs.declared.writing.WritingError.{WritingError}
use Rattle.sheet_write.specs.declared.writing.WritingError.TheVariants.{NoModel, TooShort}

-- how many bytes a sheet has that was written, or why none was
abbrev pub Writing : Type 0
Writing = Result ℕ WritingError

-- the numbers by which 02 refuses; a sheet that was written is no refusal
abbrev pub number_of : Writing → ℕ
number_of (Ok length) = 0
number_of (Err NoModel) = 23
number_of (Err TooShort) = 24

-- whether each number is of its kind, the first of the kind `k i`
unfoldable pub fit_of : (ℕ → Kind) → ℕ → List ℕ → Bool
fit_of k i [] = true
fit_of k i (v ∷ us) = pick (ltb v (k i).low) false (pick (ltb (k i).high v) false (fit_of k (i + 1) us))

-- what a test tells: numbers that are of their kinds, or that there is no model
unfoldable pub tested : Bool → Result Unit WritingError
tested fit = pick fit (Ok tt) (Err NoModel)

-- the four parts of a sheet, as numbers, of which each is of its kind
pub record Fits (h a n r : List ℕ) : Type 0 where
  pub settings : Fit (kind_of phase.Settings 0) 0 h
  pub amounts : Fit (kind_of phase.Amounts 0) 0 a
  pub count : Fit (kind_of phase.Count 0) 0 n
  pub reactions : Fit (kind_of phase.Reactions (get_or h 7 0)) 0 r

-- a sheet is put over the first bytes where it fits; where it is longer, all is left as it was
unfoldable pub answer_for : List ℕ → List ℕ → Writing
answer_for sheet out = pick (ltb (length out) (length sheet)) (Err TooShort) (Ok (length sheet))

unfoldable pub left_for : List ℕ → List ℕ → List ℕ
left_for sheet out = pick (ltb (length out) (length sheet)) out (over sheet out)

module _ (h : Heading) (amounts rates species : List ℕ) where
  -- the settings, the counts, the amounts and the reactions, each number by its kind
  unfoldable pub held_in : Bool
  held_in =
      pick (fit_of (kind_of phase.Settings 0) 0 (settings_in h))
      (pick (fit_of (kind_of phase.Count 0) 0 (h.reactions ∷ []))
      (pick (fit_of (kind_of phase.Amounts 0) 0 (take h.species amounts))
      (fit_of (kind_of phase.Reactions h.species) 0 (listed_in h.reactions rates species)) false) false) false

  -- the bytes of the sheet
  abbrev pub sheet_in : List ℕ
  sheet_in = written (model_in h amounts rates species)

  module _ (out : List ℕ) where
    unfoldable pub answer_of : Writing
    answer_of = pick held_in (answer_for sheet_in out) (Err NoModel)

    unfoldable pub bytes_left : List ℕ
    bytes_left = pick held_in (left_for sheet_in out) out
