-- What is promised of the points of a sheet: what a user cites, in words, as a statement, and where it is proved.
-- `Accounts`, by which a forecast that tells an end is accounted for, stands in specs/Account.antt of `forecast`;
-- `forecast-accounts` there gives one of every such forecast.
use Prim.Native.Nat.{ℕ, ◌≤◌}
use mathlib.Core.Bool.{Bool}
use mathlib.Core.Path.{◌≡◌}
use mathlib.Core.List.{List}
use lib.Ieee.{Float}
use lib.ListN.{length}
use Rattle.state.specs.declared.talk.Request.TheVariants.{Report}
use Rattle.state.specs.Memory.{noughts}
use Rattle.sheet.specs.Reader.{over, read_of}
use Rattle.csv_table.specs.Table.{export, header_text, record_text, header_of}
use Rattle.std.specs.Prelude.{None, Some, Ok}
use Rattle.forecast_text.specs.declared.ending.Reached.{Reached}
use Rattle.forecast.specs.Account.{Accounts}
use Rattle.reports.specs.declared.beginning.Begun.{Begun}
use Rattle.reports.specs.Beginning.{begin_of}
use Rattle.reports.specs.Line.{noted, line_at}
use Rattle.reports.specs.Reports.{reports_in, points_read}
use Rattle.reports.proofs.SheetReports.{points-reported-proof, begun-told-proof}
use Rattle.reports.proofs.WrittenLaws.{header-written-proof, report-written-proof}

-- The points that are met, from the beginning of a sheet's run to its end, are the reports of the journal by which the
-- forecast of the same bytes is accounted for, all of them and in their order.
pub points-reported : (bytes : List ℕ) (e : Reached) (a : Accounts bytes e) (b : Begun)
    → begin_of (read_of bytes) (noughts 32) ≡ Some b
    → points_read b (read_of bytes) ≡ reports_in a.accounted.journal.turns
points-reported = points-reported-proof

-- A sheet that begins no run has a forecast that refuses it: one that tells an end would be accounted for.
pub begun-told : (bytes : List ℕ) (e : Reached) → Accounts bytes e
    → begin_of (read_of bytes) (noughts 32) ≡ None → ⊥
begun-told = begun-told-proof

-- No line is refused: of a sheet whose run begins, the header and the record of each report with as many amounts are
-- written over the first bytes of any buffer that has 826.
pub header-written : (bytes amounts buffer : List ℕ) (b : Begun)
    → begin_of (read_of bytes) amounts ≡ Some b → 826 ≤ length buffer
    → header_of b.n buffer ≡ export (Ok (length (header_text b.n))) (over (header_text b.n) buffer)
header-written = header-written-proof

pub report-written : (bytes amounts buffer : List ℕ) (b : Begun)
    → begin_of (read_of bytes) amounts ≡ Some b → 826 ≤ length buffer
    → (xold x : Float) (offered : Bool) (y : List Float) → length y ≡ b.n
    → line_at (Report xold x offered) y buffer
    ≡ noted (Some (Ok (length (record_text x y)))) (over (record_text x y) buffer)
report-written = report-written-proof
