-- Totals that pass 28 are short, so that what `totals` and `joined` print is read; and the totals of nights come to
-- those of all their lines.
use Rattle.std.proofs.Common.{Result, Ok, Err}
use Rattle.std.proofs.Common.{◌≡◌, ◌<◌, ◌≤◌, ltb, List, [], ◌∷◌, ◌++◌, length, sym, refl, ap, ◌∙◌, append_assoc}
use Rattle.std.proofs.Common.{append-nil, arith, length-append, ltb-false, ltb-true, le-ltb, lt-ltb}
use Rattle.words.specs.Loop.{pick}
use Rattle.words.proofs.Branch.{pick_yes, pick_no}
use Rattle.night_totals.specs.Entries.{AllFit, none, and}
use Rattle.night_totals.specs.Totals.{sum_of, runs_of, largest_of, first_of, totals_of}
use Rattle.night_totals.specs.Night.{no_totals}
use Rattle.night_totals.specs.Printed.{totals_numbers}
use Rattle.night_totals.specs.declared.entry.Entry.{Entry}
use Rattle.night_totals.specs.declared.totals.Totals.{Totals}
use Rattle.night_totals.proofs.FormLaws.{split}
use Rattle.night_join.specs.Join.{runs_in, Fit, then_join}
use Rattle.night_join.specs.declared.joining.JoinError.{JoinError}
use Rattle.night_join.specs.declared.joining.JoinError.TheVariants as join_error
use Rattle.night_join.proofs.JoinLaws.{good}
use Rattle.night_join.proofs.LinesLaws.{lines_fit}
use Rattle.night_join.proofs.Theorems.{lines-joined}
use Rattle.night_chain.specs.Texts.{Short, AllShort, nothing, another, printed_all}
use Rattle.night_chain.specs.Nights.{AllNights, no_night, and_night, lines_in, totals_in}
use Rattle.night_chain.specs.Reads.{joined_from, joined_of, answer_of, joined}
use Rattle.night_chain.specs.Chain.{start_of, fed_of, told_of}
use Rattle.night_chain.proofs.FewLaws.{last, then, small_by}
use Rattle.night_chain.proofs.TellLaws.{told-right, one-outcome-proof}

pub fit-short-proof : (t : Totals) → Fit t → Short t
fit-short-proof t h =
    let x = good t h in
    let l : t.lines ≤ 65535 = x.lines in
    let r : runs_in t ≡ t.lines = x.runs in
    small_by (totals_numbers t)
    (then (omega arith) (then (omega arith) (then (omega arith)
    (then (omega arith) (then (omega arith) (then (omega arith)
    (then (omega arith) (then (omega (arith, x.accepted)) (then (omega (arith, x.rejected))
    (then (omega (arith, x.total)) (then (omega (arith, x.ode)) (then (omega (arith, x.jac))
    (then (omega (arith, x.lu)) (then (omega (arith, x.ode, x.largest)) (then (omega (arith, x.place))
    (then (omega arith) last))))))))))))))))

-- ---- nights

fit-both : {es fs : List Entry} → AllFit es → AllFit fs → AllFit (es ++ fs)
fit-both none h = h
fit-both (and p g) h = and p (fit-both g h)

many-stays : (ts : List Totals) → joined_from (Err join_error.TooMany) ts ≡ Err join_error.TooMany
unfolding joined_from then_join
many-stays [] = refl
many-stays (t ∷ ts) = many-stays ts

-- the totals of lines, or 26
abbrev all_of : List Entry → Result Totals JoinError
all_of es = pick (ltb 65535 (length es)) (Err join_error.TooMany) (Ok (totals_of es))

module _ (es fs : List Entry) (ts : List Totals) where
  further : AllFit es → AllFit fs → length es ≤ 65535 → length fs ≤ 65535
      → joined_from (Ok (totals_of es)) (totals_of fs ∷ ts) ≡ joined_from (all_of (es ++ fs)) ts
  unfolding joined_from then_join
  further g h l m = ap (λ (j : Result Totals JoinError). joined_from j ts) (lines-joined es fs g h l m)

joined-behind : (es : List Entry) (nights : List (List Entry)) → AllFit es → length es ≤ 65535 → AllNights nights
    → joined_from (Ok (totals_of es)) (totals_in nights) ≡ all_of (es ++ lines_in nights)
unfolding joined_from totals_in lines_in
joined-behind es [] g l no_night =
    rw (append-nil es) (sym (pick_no _ _ (le-ltb 65535 (length es) l)))
joined-behind es (fs ∷ nights) g l (and_night h m x) =
    let all = es ++ fs in
    let a : all ++ lines_in nights ≡ es ++ (fs ++ lines_in nights) = append_assoc es fs (lines_in nights) in
    further es fs (totals_in nights) g h l m
    ∙ split (ltb 65535 (length all))
    (λ e. let u : 65535 < length all = ltb-true _ _ e in
    ap (λ (j : Result Totals JoinError). joined_from j (totals_in nights)) (pick_yes _ _ e)
    ∙ many-stays (totals_in nights)
    ∙ sym (pick_yes _ _ (lt-ltb 65535 (length (es ++ (fs ++ lines_in nights)))
    (omega (arith, length-append all (lines_in nights), ap length a)))))
    (λ e. ap (λ (j : Result Totals JoinError). joined_from j (totals_in nights)) (pick_no _ _ e)
    ∙ joined-behind all nights (fit-both g h) (ltb-false _ _ e) x ∙ ap all_of a)

no_lines : no_totals ≡ totals_of []
unfolding sum_of runs_of largest_of first_of
no_lines = refl

pub nights-joined-proof : (nights : List (List Entry)) → AllNights nights
    → joined_of (totals_in nights) ≡ all_of (lines_in nights)
nights-joined-proof nights x =
    ap (λ t. joined_from (Ok t) (totals_in nights)) no_lines
    ∙ joined-behind [] nights none (omega arith) x

nights-short : (nights : List (List Entry)) → AllNights nights → AllShort (totals_in nights)
unfolding totals_in
nights-short [] no_night = nothing
nights-short (es ∷ nights) (and_night h m x) =
    another (fit-short-proof (totals_of es) (lines_fit es h m)) (nights-short nights x)

pub nights-told-proof : (nights : List (List Entry)) → AllNights nights
    → told_of (fed_of start_of (printed_all (totals_in nights))) ≡ answer_of (all_of (lines_in nights))
nights-told-proof nights x =
    let s = printed_all (totals_in nights) in
    one-outcome-proof s (told_of (fed_of start_of s)) (answer_of (joined_of (totals_in nights))) (told-right s)
    (joined (totals_in nights) refl (nights-short nights x))
    ∙ ap answer_of (nights-joined-proof nights x)
