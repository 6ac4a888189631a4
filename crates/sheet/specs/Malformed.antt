-- What it means that a text is malformed, and at which line (01, 'Sheet and program'): k is one more than the most
-- lines with which the text and some valid sheet begin. So a line that is missing, one without LF, and one too many
-- each have their own number. Nothing here says how a sheet is read.
use Rattle.std.specs.Prelude.{ℕ, ◌≤◌, ◌<◌, ◌≡◌, List, ◌++◌, length}
use Rattle.sheet.specs.Lines.{lines_in}
use Rattle.sheet.specs.Sheet.{Model, Valid, written}

-- the text and some valid sheet begin alike, with a text in which so many lines end
pub record Begun (s : List ℕ) (lines : ℕ) : Type 0 where
  pub model : Model
  pub valid : Valid model
  pub first : List ℕ
  pub rest : List ℕ
  pub other : List ℕ
  pub here : s ≡ first ++ rest
  pub there : written model ≡ first ++ other
  pub counted : lines_in first ≡ lines

pub record Malformed (s : List ℕ) (k : ℕ) : Type 0 where
  -- a longer one is refused for that
  pub short : length s ≤ 4096
  -- it is no sheet of a valid model
  pub none : (m : Model) → Valid m → s ≡ written m → ⊥
  -- a valid sheet begins with any fewer lines, and none with k
  pub reached : (j : ℕ) → j < k → Begun s j
  pub first : (j : ℕ) → Begun s j → j < k
