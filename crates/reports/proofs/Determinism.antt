-- Each contract settles its call: it asks nothing, and two outcomes that it allows for one input are the same.
use Prim.Native.Nat.{ℕ}
use mathlib.Core.List.{List}
use Rattle.words.specs.Contract.{Settles}
use Rattle.words.proofs.OneOutcome.{◌▹◌, one-part, four-parts}
use Rattle.history.specs.History.{Point}
use Rattle.state.specs.declared.talk.Call.{Call}
use Rattle.reports.specs.declared.beginning.Begun.{Begun}
use Rattle.reports.specs.Line.{Noted}
use Rattle.reports.proofs.beginning.begin as begin
use Rattle.reports.proofs.line.put_report as put_report
use Rattle.reports.proofs.step.next_report as next_report
use Rattle.std.specs.Prelude.{Option}

pub begin-once : Settles begin.Kinds.ps begin.Kinds.r begin.Reads.Asked begin.Reads.Post
begin-once κs a = (
  tt,
  λ o p. λ e f. four-parts (λ (answer : Option Begun) (amounts rates species : List ℕ).
      answer ▹ tt ▹ amounts ▹ rates ▹ species ▹ tt)
      (e.0, e.1.0, e.1.1.0, e.1.1.1) (f.0, f.1.0, f.1.1.0, f.1.1.1),
)

pub put-report-once : Settles put_report.Kinds.ps put_report.Kinds.r put_report.Reads.Asked put_report.Reads.Post
put-report-once κs a = (tt, λ o p. one-part (λ (e : Noted). e.answer ▹ tt ▹ tt ▹ e.buffer ▹ tt))

-- what is pending at a point, its memory apart
abbrev pending_at : Point → Call
pending_at x = record { run = x.run; request = x.request; place = x.place }

pub next-report-once : Settles next_report.Kinds.ps next_report.Kinds.r next_report.Reads.Asked next_report.Reads.Post
next-report-once κs a = (
  tt,
  λ o p. one-part (λ (x : Point).
      pending_at x ▹ tt ▹ tt ▹ tt ▹ tt
      ▹ x.memory.amounts.y ▹ x.memory.amounts.f0 ▹ x.memory.amounts.scal ▹ x.memory.amounts.cont
      ▹ x.memory.newton.z1 ▹ x.memory.newton.z2 ▹ x.memory.newton.z3 ▹ x.memory.newton.f1
      ▹ x.memory.newton.f2 ▹ x.memory.newton.f3 ▹ tt ▹ tt ▹ tt ▹ x.memory.given.jac ▹ x.memory.factors.e1
      ▹ x.memory.factors.e2r ▹ x.memory.factors.e2i ▹ x.memory.factors.ip1 ▹ x.memory.factors.ip2
      ▹ x.memory.differences.y_perturbed ▹ x.memory.differences.f_perturbed
      ▹ x.memory.differences.f_origin ▹ tt),
)
