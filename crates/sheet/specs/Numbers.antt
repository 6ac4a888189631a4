-- Numbers read one after the other, each ended by its mark.
use Rattle.std.specs.Prelude.{ℕ, zero, suc, ◌+◌, Option, None, Some, Result, Ok, Err, List, [], ◌∷◌, ◌++◌}
use Rattle.std.specs.Prelude.{eqb, ltb, length, take, drop}
use Rattle.words.specs.Loop.{pick}
use Rattle.sheet.specs.Digits.{spelled_of, base_of, width_by, found_of}
use Rattle.sheet.specs.Sheet.{line_feed}
use Rattle.sheet.specs.Kinds.{kind_of}
use Rattle.sheet.specs.declared.kind.Kind.{Kind}
use Rattle.sheet.specs.declared.kind.Phase.{Phase}
use Rattle.sheet.specs.declared.numbers.Token.{Token}
use Rattle.sheet.specs.declared.numbers.Progress.{Progress}

-- a value of the kind, written with as many digits as it has
unfoldable pub judged_of : Kind → ℕ → Option ℕ → Option ℕ
judged_of k n None = None
judged_of k n (Some v) =
    pick (eqb n (width_by k.notation v)) (pick (ltb v k.low) None (pick (ltb k.high v) None (Some v))) None

-- the number that a text is
unfoldable pub number_of : Kind → List ℕ → Option ℕ
number_of k text = pick (ltb 16 (length text)) None (judged_of k (length text) (spelled_of (base_of k.notation) 0 text))

-- a number and what follows it
pub data Piece : Type 0 where
  got : ℕ → List ℕ → Piece
  wrong : Piece

unfoldable pub followed : Option ℕ → List ℕ → Piece
followed (Some v) rest = got v rest
followed None rest = wrong

-- the number is what stands before the first mark
unfoldable pub piece_of : Kind → List ℕ → Piece
piece_of k s =
    let n = found_of k.mark s in
    pick (ltb n (length s)) (followed (number_of k (take n s)) (drop (n + 1) s)) wrong

unfoldable pub piece_at : Option Token → Piece
piece_at (Some t) = got t.value t.rest.now
piece_at None = wrong

-- how many lines a mark ends
unfoldable pub ends_of : ℕ → ℕ
ends_of mark = pick (eqb mark line_feed) 1 0

-- numbers, how many lines had ended where they end, and what follows them; or how many had ended
-- before one that is wrong
pub data Passage : Type 0 where
  passed : List ℕ → ℕ → List ℕ → Passage
  stuck : ℕ → Passage

abbrev pub pursued : Piece → ℕ → (ℕ → List ℕ → Passage) → Passage
pursued (got v rest) lines then = then v rest
pursued wrong lines then = stuck lines

-- n numbers, the first of the kind `k i`, after the numbers vs
unfoldable pub numbers_of : (ℕ → Kind) → ℕ → ℕ → ℕ → List ℕ → List ℕ → Passage
numbers_of k i zero lines vs s = passed vs lines s
numbers_of k i (suc n) lines vs s =
    pursued (piece_of (k i) s) lines
    (λ v rest. numbers_of k (i + 1) n (lines + ends_of (k i).mark) (vs ++ (v ∷ [])) rest)

-- a part of a sheet
abbrev pub part_of : Phase → ℕ → ℕ → ℕ → List ℕ → Passage
part_of phase species n lines s = numbers_of (kind_of phase species) 0 n lines [] s

-- what the code has of it: the numbers that it read, and how it went
unfoldable pub passage_at : List ℕ → Result Progress ℕ → Passage
passage_at vs (Ok p) = passed vs p.lines p.rest.now
passage_at vs (Err lines) = stuck lines
