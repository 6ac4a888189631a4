-- What is promised of the writer, beside its contract: what a user cites, each theorem in words, its statement, and
-- where it is proved. Memory is the arrays that reading fills, of 32 amounts, 64 rates and 256 species.
use Prim.Native.Nat.{ℕ, ◌≤◌}
use mathlib.Core.Path.{◌≡◌}
use mathlib.Core.Logic.{◌↔◌}
use mathlib.Core.List.{List, ◌++◌}
use lib.ListN.{length, take, drop}
use Rattle.sheet.specs.declared.sheet.Heading.{Heading}
use Rattle.sheet.specs.Sheet.{Model}
use Rattle.sheet.specs.Reader.{heading_of, accepted, read_of, amounts_left, rates_left, species_left}
use Rattle.sheet_write.specs.Memory.{Holds, Arrays, model_in}
use Rattle.sheet_write.specs.Writer.{answer_of, bytes_left}
use Rattle.sheet_write.specs.RoundTrips.{Readable, Longer}
use Rattle.sheet_write.specs.Rewritten.{rewritten_of}
use Rattle.std.proofs.Common.{Ok, Err}
use Rattle.sheet_write.specs.declared.writing.WritingError.TheVariants.{NoModel, TooShort}
use Rattle.sheet_write.proofs.RoundTripLaws.{refused-exactly-proof, short-exactly-proof, written-back-proof}
use Rattle.sheet_write.proofs.RoundTripLaws.{read-back-proof, nothing-written-proof, sheet-back-proof}
use Rattle.sheet_write.proofs.RewriteLaws.{rewritten-same-proof}

module _ (h : Heading) (a r s out : List ℕ) where
  -- Memory is refused by 23 exactly when no sheet reads to what it holds.
  pub refused-exactly : Arrays a r s → (answer_of h a r s out ≡ Err NoModel) ↔ (Readable h a r s → ⊥)
  refused-exactly = refused-exactly-proof h a r s out

  -- It is refused by 24 exactly when a sheet reads to what it holds, and that sheet is longer than the lent bytes.
  pub short-exactly : Arrays a r s → (answer_of h a r s out ≡ Err TooShort) ↔ Longer h a r s out
  short-exactly = short-exactly-proof h a r s out

  -- Where a sheet reads to what memory holds, and has room, the writer gives that sheet; what stands behind it stays.
  pub written_back : Arrays a r s → (q : Readable h a r s) → length q.bytes ≤ length out
      → (answer_of h a r s out ≡ Ok (length q.bytes))
      × (bytes_left h a r s out ≡ q.bytes ++ drop (length q.bytes) out)
  written_back = written-back-proof h a r s out

  -- What was written is read back as the model that memory holds.
  pub read_back : Arrays a r s → (n : ℕ) → answer_of h a r s out ≡ Ok n
      → (read_of (take n (bytes_left h a r s out)) ≡ accepted (model_in h a r s)) × Holds (model_in h a r s) h a r s
  read_back = read-back-proof h a r s out

  -- A refusal writes nothing.
  pub nothing_written : ((n : ℕ) → answer_of h a r s out ≡ Ok n → ⊥) → bytes_left h a r s out ≡ out
  nothing_written = nothing-written-proof h a r s out

-- Every sheet that the reader accepts is written back byte for byte, out of the memory that reading leaves.
pub sheet-back : (bytes : List ℕ) (m : Model) → read_of bytes ≡ accepted m → (a r s out : List ℕ) → Arrays a r s
    → length bytes ≤ length out
    → (answer_of (heading_of m) (amounts_left (read_of bytes) a) (rates_left (read_of bytes) r)
    (species_left (read_of bytes) s)
    out ≡ Ok (length bytes))
    × (bytes_left (heading_of m) (amounts_left (read_of bytes) a) (rates_left (read_of bytes) r)
    (species_left (read_of bytes) s) out ≡ bytes ++ drop (length bytes) out)
sheet-back = sheet-back-proof

-- What is printed of an accepted sheet that is rewritten is that sheet.
pub rewritten-same : (bytes : List ℕ) (m : Model) → read_of bytes ≡ accepted m → rewritten_of (read_of bytes) ≡ bytes
rewritten-same = rewritten-same-proof
