-- Demand 3 of 00, from the proofs of Journals.antt.
use mathlib.Core.Path.{◌≡◌, refl, sym, ap, ◌∙◌, subst}
use mathlib.Core.Bool.{true, true≢false}
use Rattle.state.specs.declared.run.Counts.{Counts}
use Rattle.state.specs.declared.run.Notes.{Notes}
use Rattle.state.specs.declared.run.Stage.TheVariants as stage
use Rattle.state.specs.declared.run.Status.{Status}
use Rattle.state.specs.declared.run.Status.TheVariants.{Success}
use Rattle.state.specs.declared.talk.Request.{Request}
use Rattle.state.specs.declared.talk.Request.TheVariants as request
use Rattle.state.specs.Result.{result_at}
use Rattle.opening.specs.Rows.{Opening}
use Rattle.opening.specs.Opening.{open_of}
use Rattle.history.specs.Host.{is_end}
use Rattle.account.specs.Journal.{Journal, Starts, JournalOf}
use Rattle.account.specs.Reading.{counts_of}
use Rattle.account.specs.Account.{Strategy, played, FairHost, EndsWithin, Limits}
use Rattle.account.specs.Demand.{tells, Demand3}
use Rattle.account.proofs.Matches.{Matches, ended-matches}
use Rattle.account.proofs.Journals.{sound, ends-proof, counts-told-proof, limits-proof, success-exactly-proof}
use Rattle.account.proofs.Journals.{events-true-proof, notes-kept-proof, ledger-proof}
use Rattle.account.proofs.Fresh.{fresh-proof}
use Rattle.account.proofs.Played.{played-of}
use Rattle.std.specs.Prelude.{Some}

record Status-of (q : Request) : Type 0 where
  status : Status
  is : q ≡ request.Ended status

status-of : (q : Request) → is_end q ≡ true → Status-of q
unfolding is_end
status-of (request.Derivative x) e = absurd (true≢false (sym e))
status-of (request.Jacobian x) e = absurd (true≢false (sym e))
status-of (request.Report xold x offered) e = absurd (true≢false (sym e))
status-of (request.Ended s) e = record { status = s; is = refl }

pub demand-3-proof : (o : Opening) (start : Journal) → Starts (open_of o) start → (h : Strategy) → FairHost h start
    → Demand3 o start h
unfolding result_at is_end
demand-3-proof o start starts h fair =
    let e : EndsWithin _ h start = ends-proof o start starts h fair in
    let j : Journal = played h start e.advances in
    let w : JournalOf o j = played-of o start h e.advances starts (λ i l. fair i (e.going i l)) in
    let s : Status-of j.point.request = status-of j.point.request e.ended in
    let told = counts-told-proof o j w in
    let b : Limits o.settings (counts_of j) j.point.request =
    subst (λ (c : Counts). Limits o.settings c j.point.request) told (limits-proof o j w) in
    let at : j.point.run.stage ≡ stage.Ended s.status =
    ended-matches (subst (λ (q : Request). Matches j.point.run.stage q j.point.place) s.is
    (sound o j w).held.matches) in
    record {
      advances = e.advances;
      few = e.few;
      answered = e.answered;
      end = j;
      at = refl;
      status = s.status;
      result =
          ap (result_at j.point.run) at
          ∙ ap
          (λ (c : Counts). Some (tells j.point.run s.status c j.point.run.notes)) told
          ∙ ap (λ (notes : Notes). Some (tells j.point.run s.status (counts_of j) notes))
          (notes-kept-proof o j w);
      events = events-true-proof o j w;
      ledger = ledger-proof o j w;
      accepted = b.accepted;
      total = b.total;
      ode = b.ode;
      jac = b.jac;
      judged = b.book;
      fresh = λ book. (fresh-proof o book j w).few;
      success = (
        λ is. ((success-exactly-proof o j w).0 (s.is ∙ ap request.Ended is)).1,
        λ landed. let same : request.Ended s.status ≡ request.Ended Success =
            sym s.is ∙ (success-exactly-proof o j w).1 (e.ended, landed) in cc,
      );
    }
