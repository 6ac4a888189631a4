-- The account speaks of what the functions return: a history of calls that the contracts allow, by fair actions of a
-- host, is a journal of its opening, and stands where the journal does.
use mathlib.Core.Path.{◌≡◌, refl, sym, ap, ◌∙◌, subst}
use mathlib.Core.List.{List, [], ◌∷◌}
use Rattle.opening.specs.Rows.{Opening}
use Rattle.opening.specs.Opening as opened
use Rattle.solve_blocks.specs.Advance.{AdvanceOutcome}
use Rattle.history.specs.Host.{Action, wrote}
use Rattle.history.specs.History.{Point, next_point}
use Rattle.account.specs.Journal.{Journal, journal, next, FairFrom, after, Starts, JournalOf}
use Rattle.calls.specs.History.{Allowed, Follows, History, behind, FairAlong}
use Rattle.calls.proofs.Defined.{open-defined, advance-defined}

follows-journal : (j : Journal) (acts : List Action) (xs : List AdvanceOutcome)
    → Follows j.point acts xs → FairAlong j.point acts xs
    → FairFrom j acts × ((after j acts).point ≡ behind j.point xs)
unfolding Allowed Follows FairAlong FairFrom next after behind
follows-journal j [] [] f fair = (tt, refl)
follows-journal j [] (x ∷ xs) f fair = absurd f
follows-journal j (a ∷ acts) [] f fair = absurd f
follows-journal j (a ∷ acts) (x ∷ xs) f fair =
    let here = j.point in
    let e = advance-defined here.run a.reply (wrote here.request here.place a here.memory) x f.0 in
    let f' = subst (λ (y : AdvanceOutcome). Follows (next_point here y.answer y.memory) acts xs) e f.1 in
    let fair' =
    subst (λ (y : AdvanceOutcome). FairAlong (next_point here y.answer y.memory) acts xs) e fair.1 in
    let more = follows-journal (next j a) acts xs f' fair' in (
      (fair.0, more.0),
      more.1 ∙ ap (λ (y : AdvanceOutcome). behind (next_point here y.answer y.memory) xs) (sym e),
    )

pub calls-journal-proof : (o : Opening) (first : Point) (acts : List Action) (xs : List AdvanceOutcome)
    → History o first acts xs → FairAlong first acts xs
    → (let j = after (journal first []) acts in JournalOf o j × (j.point ≡ behind first xs))
unfolding Starts
calls-journal-proof o first acts xs h fair =
    let e = sym (open-defined o _ h.opens) in
    let goes = follows-journal (journal first []) acts xs h.follows fair in (
      record {
        first = journal first [];
        starts = (
          ap (λ (x : opened.OpeningOutcome). x.answer) e,
          ap (λ (x : opened.OpeningOutcome). x.memory) e,
          refl,
        );
        acts = acts;
        fair = goes.0;
        is = refl;
      },
      goes.1,
    )
