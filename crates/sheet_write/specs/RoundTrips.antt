-- What is promised of a writer that is held against the reader.
use Rattle.std.specs.Prelude.{ℕ, ◌<◌, ◌≡◌, List, length}
use Rattle.sheet.specs.declared.sheet.Heading.{Heading}
use Rattle.sheet.specs.Sheet.{Model}
use Rattle.sheet.specs.Reader.{read_of, accepted}
use Rattle.sheet_write.specs.Memory.{Holds}

-- some bytes are read as a model that memory holds
pub record Readable (h : Heading) (a r s : List ℕ) : Type 0 where
  pub bytes : List ℕ
  pub model : Model
  pub read : read_of bytes ≡ accepted model
  pub holds : Holds model h a r s

-- and they are more than there is room for
pub record Longer (h : Heading) (a r s out : List ℕ) : Type 0 where
  pub held : Readable h a r s
  pub longer : length out < length held.bytes
