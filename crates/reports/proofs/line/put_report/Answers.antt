-- `put_report` meets its contract: each request is a case of the definition.
use Prim.Native.Nat.{ℕ}
use mathlib.Core.Bool.{Bool}
use mathlib.Core.Path.{◌≡◌, refl, sym, ap, ◌∙◌}
use mathlib.Core.List.{List}
use lib.Ieee.{Float}
use Rattle.state.specs.declared.talk.Request.{Request}
use Rattle.state.specs.declared.talk.Request.TheVariants as request
use Rattle.std.specs.Prelude.{Some, None, Result}
use Rattle.csv_table.specs.declared.answers.ExportError.{ExportError}
use Rattle.csv_table.specs.Table.{Export, export, record_of}
use Rattle.reports.specs.Line.{noted, line_at}
use Rattle.reports.proofs.line.put_report.Goals as goal

reported : (q : Request) (xold x : Float) (offered : Bool) (y : List Float)
    (out : List ℕ) {r : Result ℕ ExportError} {left : List ℕ}
    → q ≡ request.Report xold x offered → export r left ≡ record_of x y out
    → noted (Some r) left ≡ line_at q y out
unfolding line_at
reported q xold x offered y out is put =
    ap (λ (e : Export). noted (Some e.answer) e.buffer) put ∙ ap (λ (p : Request). line_at p y out) (sym is)

nothing : (q : Request) (y : List Float) (out : List ℕ)
    → ((xold x : Float) (offered : Bool) → q ≡ request.Report xold x offered → ⊥) → noted None out ≡ line_at q y out
unfolding line_at
nothing (request.Derivative x) y out other = refl
nothing (request.Jacobian x) y out other = refl
nothing (request.Report xold x offered) y out other = absurd (other xold x offered refl)
nothing (request.Ended s) y out other = refl

pub returns-in-Report : goal.returns-in-Report
returns-in-Report c = reported _ _ _ _ _ _ c.in-Report.is
    c.put_record.ensures

pub returns-in_default : goal.returns-in_default
returns-in_default c = nothing _ _ _ c.in_default.not-Report
