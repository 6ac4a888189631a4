-- Wrong readings of what is told and of what a table has, each shut out by one case of its definition.
use Prim.Native.Nat.{ℕ}
use mathlib.Core.Bool.{Bool, false, true≢false}
use mathlib.Core.Path.{◌≡◌, sym, ap}
use mathlib.Core.List.{List, [], ◌∷◌}
use native.Mathlib.Omega.{arith}
use lib.Ieee.{Float, nan, ne, of_bits, to_bits}
use lib.ListN.{length, get_or, replicate}
use Rattle.words.specs.Loop.{pick}
use Rattle.words.specs.Words.{double}
use Rattle.state.specs.declared.run.Status.TheVariants.{Success}
use Rattle.state.specs.declared.talk.Request.{Request}
use Rattle.state.specs.declared.talk.Request.TheVariants.{Derivative, Report, Ended}
use Rattle.history.specs.Host.{is_end}
use Rattle.sheet.specs.Digits.{byte_of, power, digits, width_of}
use Rattle.sheet.specs.Reader.{over}
use Rattle.forecast_text.specs.Printed.{text}
use Rattle.csv_table.specs.NumberText.{trimmed, pointed, exponent_text, magnitude_text, sign_text}
use Rattle.csv_table.specs.Table.{amounts_text, line_of, ordered_of, record_of}
use Rattle.std.specs.Prelude.{Some}
use Rattle.reports.specs.Line.{Noted, noted, line_at}
use Rattle.reports.specs.Step.{is_told}
use Rattle.reports.specs.Reports.{reported, report_at}

-- only the end is told, and every report is passed over
pub reports-passed-over : ((q : Request) → is_end q ≡ is_told q) → ⊥
unfolding is_end is_told
reports-passed-over same = true≢false (sym (same (Report nan nan false)))

-- the end is put once more, behind the last report
pub end-put-again : ((x : Float) (y : List Float) → report_at (Ended Success) y ≡ reported x y ∷ []) → ⊥
unfolding report_at
end-put-again same =
    let z : ◌≡◌ {A = ℕ} 0 1 = ap length (same nan []) in omega arith

-- the opening is a point of the table already: it asks for a derivative there, and its report comes later
pub opening-put : ((x : Float) (y : List Float) → report_at (Derivative x) y ≡ reported x y ∷ []) → ⊥
unfolding report_at
opening-put same =
    let z : ◌≡◌ {A = ℕ} 0 1 = ap length (same nan []) in omega arith

-- the record of a report with the point that it comes from
abbrev pub record_of_old : Float → List Float → List ℕ → Noted
record_of_old xold y buffer = let e = record_of xold y buffer in noted (Some e.answer) e.buffer

-- of a report from -0 to +0 the first byte: a minus, where a 0 is wanted
pub old-point-put : ((xold x : Float) (offered : Bool) (y : List Float) (buffer : List ℕ)
    → record_of_old xold y buffer ≡ line_at (Report xold x offered) y buffer) → ⊥
unfolding line_at ordered_of line_of over amounts_text text sign_text magnitude_text trimmed pointed exponent_text
    width_of digits byte_of power pick ne of_bits to_bits
old-point-put same =
    let row = same (double 0x8000_0000_0000_0000) (double 0) false (double 0 ∷ []) (replicate 64 0) in
    let z : ◌≡◌ {A = ℕ} 45 48 = ap (λ e. get_or e.buffer 0 0) row in omega arith
