-- `write` meets its contract, way by way.
use Rattle.std.proofs.Common.{◌≡◌, true, refl, sym}
use native.Mathlib.Omega.{arith}
use lib.Seq.{length-take-le}
use Rattle.std.proofs.lemmas.Result.{err_from_is_err_and}
use Rattle.sheet_write.proofs.KindLaws.{passed, refused}
use Rattle.sheet_write.proofs.AnswerLaws.{SettingsFit, CountFit, AmountsFit, ReactionsFit, few-species, few-reactions}
use Rattle.sheet_write.proofs.AnswerLaws.{no-settings, no-count, no-amounts, no-reactions}
use Rattle.sheet_write.proofs.AnswerLaws.{Right, right-held, right-fits, model-same, outcome-held}
use Rattle.sheet_write.proofs.MemoryLaws.{length-listed}
use Rattle.sheet_write.proofs.writing.write.Goals as goal
use Rattle.sheet_write.proofs.writing.write.Goals.{In_ok-fits, In_ok-fits-2, In_ok-fits-3, In_ok-fits-4}

settings-right : (c : In_ok-fits)
    → SettingsFit c.args.heading c.args.amounts.now c.args.rates.now c.args.species.now ≡ true
settings-right c = passed _ (rw c.settings_of-settings.ensures at c.fits.ensures) c.in_ok-fits.was

count-right : (c : In_ok-fits-2)
    → CountFit c.args.heading c.args.amounts.now c.args.rates.now c.args.species.now ≡ true
count-right c = passed _ c.fits-2.ensures c.in_ok-fits-2.was

amounts-right : (c : In_ok-fits-3)
    → AmountsFit c.args.heading c.args.amounts.now c.args.rates.now c.args.species.now ≡ true
amounts-right c = passed _ c.fits-3.ensures c.in_ok-fits-3.was

reactions-right : (c : In_ok-fits-4)
    → ReactionsFit c.args.heading c.args.amounts.now c.args.rates.now c.args.species.now ≡ true
reactions-right c =
    passed _ (rw (c.settings_of-settings.ensures, c.list_reactions.ensures) at c.fits-4.ensures) c.in_ok-fits-4.was

pub returns-in_err-fits : goal.returns-in_err-fits
returns-in_err-fits c =
    let p = err_from_is_err_and c.from_residual.result c.from_residual.ensures.1 in
    let t = refused _ (rw c.settings_of-settings.ensures at c.fits.ensures) c.in_err-fits.was in
    let all = no-settings c.args.heading c.args.amounts.now c.args.rates.now c.args.species.now
    c.args.out.now t.0 in
    rw (p.1, p.2, t.1) (record { value = all.0; out_after = all.1 })

pub returns-in_err-fits-2 : goal.returns-in_err-fits-2
returns-in_err-fits-2 c =
    let q = goal.at.returns-in_err-fits-2 c in
    let p = err_from_is_err_and c.from_residual-in_err-fits-2.result c.from_residual-in_err-fits-2.ensures.1 in
    let t = refused _ c.fits-2.ensures c.in_err-fits-2.was in
    let all = no-count c.args.heading c.args.amounts.now c.args.rates.now c.args.species.now
    c.args.out.now (settings-right q.In_ok-fits) t.0 in
    rw (p.1, p.2, t.1) (record { value = all.0; out_after = all.1 })

pub shared_ref_as_front-given : goal.shared_ref_as_front-given
shared_ref_as_front-given c =
    let q = goal.at.shared_ref_as_front-given c in
    few-species c.args.heading c.args.amounts.now c.args.rates.now c.args.species.now (settings-right q.In_ok-fits)

pub returns-in_err-fits-3 : goal.returns-in_err-fits-3
returns-in_err-fits-3 c =
    let q = goal.at.returns-in_err-fits-3 c in
    let p = err_from_is_err_and c.from_residual-in_err-fits-3.result c.from_residual-in_err-fits-3.ensures.1 in
    let t = refused _ c.fits-3.ensures c.in_err-fits-3.was in
    let all = no-amounts c.args.heading c.args.amounts.now c.args.rates.now c.args.species.now
    c.args.out.now (settings-right q.In_ok-fits) (count-right q.In_ok-fits-2) t.0 in
    rw (p.1, p.2, t.1) (record { value = all.0; out_after = all.1 })

pub list_reactions-requires : goal.list_reactions-requires
list_reactions-requires c =
    let q = goal.at.list_reactions-requires c in (
      few-reactions c.args.heading c.args.amounts.now c.args.rates.now c.args.species.now (count-right q.In_ok-fits-2),
      refl,
    )

pub overflow_mul-room : goal.overflow_mul-room
overflow_mul-room c =
    let q = goal.at.overflow_mul-room c in
    omega (
      arith,
      few-reactions c.args.heading c.args.amounts.now c.args.rates.now c.args.species.now
          (count-right q.In_ok-fits-2),
    )

pub slice_bounds-room-end : goal.slice_bounds-room-end
slice_bounds-room-end c =
    let q = goal.at.slice_bounds-room-end c in
    omega (
      arith,
      few-reactions c.args.heading c.args.amounts.now c.args.rates.now c.args.species.now
          (count-right q.In_ok-fits-2),
    )

pub slice_bounds-listed-end : goal.slice_bounds-listed-end
slice_bounds-listed-end c =
    let q = goal.at.slice_bounds-listed-end c in
    sym (length-take-le _ _ (omega (
      arith,
      few-reactions c.args.heading c.args.amounts.now c.args.rates.now c.args.species.now
          (count-right q.In_ok-fits-2),
    )))

pub returns-in_err-fits-4 : goal.returns-in_err-fits-4
returns-in_err-fits-4 c =
    let q = goal.at.returns-in_err-fits-4 c in
    let p = err_from_is_err_and c.from_residual-in_err-fits-4.result c.from_residual-in_err-fits-4.ensures.1 in
    let t = refused _ (rw (c.settings_of-settings.ensures, c.list_reactions.ensures) at c.fits-4.ensures)
    c.in_err-fits-4.was in
    let all = no-reactions c.args.heading c.args.amounts.now c.args.rates.now c.args.species.now
    c.args.out.now (settings-right q.In_ok-fits) (count-right q.In_ok-fits-2)
    (amounts-right q.In_ok-fits-3) t.0 in
    rw (p.1, p.2, t.1) (record { value = all.0; out_after = all.1 })

pub sheet_of-requires : goal.sheet_of-requires
sheet_of-requires c =
    let q = goal.at.sheet_of-requires c in
    let t : Right c.args.heading c.args.amounts.now c.args.rates.now c.args.species.now = record {
      settings = settings-right q.In_ok-fits;
      count = count-right q.In_ok-fits-2;
      amounts = amounts-right q.In_ok-fits-3;
      reactions = reactions-right q.In_ok-fits-4;
    } in
    rw (c.settings_of-settings.ensures, c.list_reactions.ensures) (record {
      lengths = (
        refl,
        length-take-le _ _ (omega (
          arith,
          few-species c.args.heading c.args.amounts.now c.args.rates.now c.args.species.now t.settings,
        )),
        refl,
        length-listed c.args.heading.reactions c.args.rates.now c.args.species.now,
      );
      fits = right-fits c.args.heading c.args.amounts.now c.args.rates.now c.args.species.now t;
    })

pub returns : goal.returns
returns c =
    let q = goal.at.returns c in
    let t : Right c.args.heading c.args.amounts.now c.args.rates.now c.args.species.now = record {
      settings = settings-right q.In_ok-fits;
      count = count-right q.In_ok-fits-2;
      amounts = amounts-right q.In_ok-fits-3;
      reactions = reactions-right q.In_ok-fits-4;
    } in
    let all = outcome-held c.args.heading c.args.amounts.now c.args.rates.now c.args.species.now
    c.args.out.now (right-held c.args.heading c.args.amounts.now c.args.rates.now c.args.species.now t)
    c.sheet_of.result
    (rw (c.settings_of-settings.ensures, c.list_reactions.ensures, model-same) at c.sheet_of.ensures)
    c.write_text.ensures.value c.write_text.ensures.out_after in
    record { value = all.0; out_after = all.1 }
