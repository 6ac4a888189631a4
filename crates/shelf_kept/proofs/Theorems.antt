-- What a user cites, each theorem in words, its statement, and its proof from the files before.
use mathlib.Core.Path.{◌≡◌}
use mathlib.Core.Bool.{true, false}
use mathlib.Core.List.{List}
use lib.ListN.{length, take}
use lib.Ieee.{Float}
use Rattle.opening.specs.Rows.{Opening}
use Rattle.account.specs.Journal.{Journal, JournalOf}
use Rattle.shelf.specs.Shelf.{empty_shelf, kept_of}
use Rattle.shelf.specs.Refusals.{Room}
use Rattle.shelf.specs.Ask.{answer_of, ask_of}
use Rattle.shelf_kept.specs.Kept.{steps_accepted, unreported, beside, put_with, beside_after, beside_now}
use Rattle.shelf_kept.proofs.Journals.{kept-proof, answers-proof, pending-proof, pending-answers-proof}

-- A host's shelf (a held step put at each report after the first, emptied at a reply 'modified') keeps, in order, the
-- newest 48 of the steps accepted since the last modified point, but between an acceptance and its report.
pub shelf-keeps : (o : Opening) (j : Journal) → JournalOf o j → (coefficients ends : List Float)
    → Room o.n (length coefficients) (length ends) → unreported j.turns ≡ false
    → kept_of (beside_now (beside empty_shelf coefficients ends) j).shelf o.n
    (beside_now (beside empty_shelf coefficients ends) j).coefficients
    (beside_now (beside empty_shelf coefficients ends) j).ends
    ≡ take 48 (steps_accepted j.point j.turns)
shelf-keeps = kept-proof

-- And asking that shelf equals the definition over that list of steps, for every x.
pub shelf-answers : (o : Opening) (j : Journal) → JournalOf o j → (coefficients ends : List Float)
    → Room o.n (length coefficients) (length ends) → unreported j.turns ≡ false
    → (x : Float) (target : List Float) → length target ≡ o.n
    → ask_of (beside_now (beside empty_shelf coefficients ends) j).shelf x target
    (beside_now (beside empty_shelf coefficients ends) j).coefficients
    (beside_now (beside empty_shelf coefficients ends) j).ends
    ≡ answer_of x target (take 48 (steps_accepted j.point j.turns))
shelf-answers = answers-proof

-- Between an acceptance and its report the same holds once the step that is held is put there, as at an end that
-- comes before the report.
pub shelf-keeps-unreported : (o : Opening) (j : Journal) → JournalOf o j → (coefficients ends : List Float)
    → Room o.n (length coefficients) (length ends) → unreported j.turns ≡ true
    → kept_of (put_with j.point j.point.run.numbers.xold
    (beside_after (beside empty_shelf coefficients ends) j.turns)).shelf o.n
    (put_with j.point j.point.run.numbers.xold
    (beside_after (beside empty_shelf coefficients ends) j.turns)).coefficients
    (put_with j.point j.point.run.numbers.xold
    (beside_after (beside empty_shelf coefficients ends) j.turns)).ends
    ≡ take 48 (steps_accepted j.point j.turns)
shelf-keeps-unreported = pending-proof

-- And asking is asking that list there too.
pub shelf-answers-unreported : (o : Opening) (j : Journal) → JournalOf o j → (coefficients ends : List Float)
    → Room o.n (length coefficients) (length ends) → unreported j.turns ≡ true
    → (x : Float) (target : List Float) → length target ≡ o.n
    → ask_of (put_with j.point j.point.run.numbers.xold
    (beside_after (beside empty_shelf coefficients ends) j.turns)).shelf x target
    (put_with j.point j.point.run.numbers.xold
    (beside_after (beside empty_shelf coefficients ends) j.turns)).coefficients
    (put_with j.point j.point.run.numbers.xold
    (beside_after (beside empty_shelf coefficients ends) j.turns)).ends
    ≡ answer_of x target (take 48 (steps_accepted j.point j.turns))
shelf-answers-unreported = pending-answers-proof
