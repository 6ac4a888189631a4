-- `read` meets its contract.
use Rattle.std.proofs.Common.{◌≡◌, ◌+◌, ◌*◌, refl, rules, tests, get_or, take}
use native.Mathlib.Omega.{arith}
use Rattle.std.proofs.lemmas.Result.{err_from_is_err_and}
use Rattle.sheet.specs.declared.sheet.SheetError.TheVariants as error
use Rattle.sheet.proofs.Parts.{Lengths}
use Rattle.sheet.proofs.AnswerLaws.{outcome-long, outcome-broken, outcome-copied, lengths, mapped-err, mapped-ok}
use Rattle.sheet.proofs.sheet.read.Goals as goal
use Rattle.sheet.proofs.sheet.read.Goals.{In_ok-map_err}

counts : (c : In_ok-map_err) → Lengths c.judge.new.settings
    (take (get_or c.judge.new.settings 7 0) c.judge.new.amounts) c.judge.new.count
    (take (get_or c.judge.new.count 0 0 * 5) c.judge.new.listed)
counts c = lengths c.args.bytes.now _ c.judge.new.amounts _ c.judge.new.listed
    (mapped-ok _ c.judge.result c.map_err.ensures.cases c.in_ok-map_err.was) c.judge.ensures.result_after

pub returns-then-bytes-gt-MOST_BYTES : goal.returns-then-bytes-gt-MOST_BYTES
returns-then-bytes-gt-MOST_BYTES c = let all = outcome-long _ _ _ _ c.if-bytes-gt-MOST_BYTES.true in
    record { value = all.0; amounts_after = all.1.0; rates_after = all.1.1.0; species_after = all.1.1.1 }

pub returns-in_err-map_err : goal.returns-in_err-map_err
returns-in_err-map_err c =
    let came = mapped-err _ c.judge.result c.map_err.ensures.cases c.in_err-map_err.was in
    let learnt = came.1.1 in
    let line : c.in_err-map_err.field-0.0 ≡ error.Malformed (came.0 + 1) = search (rules, tests) in
    let p = err_from_is_err_and c.from_residual.result c.from_residual.ensures.1 in
    let all = outcome-broken c.args.bytes.now _ _ _ _ _ _ _ came.0 c.if-bytes-gt-MOST_BYTES.false came.1.0
    c.judge.ensures.result_after in
    rw (p.1, p.2, line)
    (record { value = all.0; amounts_after = all.1.0; rates_after = all.1.1.0; species_after = all.1.1.1 })

pub slice_bounds-copy_from_slice-end : goal.slice_bounds-copy_from_slice-end
slice_bounds-copy_from_slice-end c =
    omega (arith, (counts (goal.at.slice_bounds-copy_from_slice-end c).In_ok-map_err).few)

pub fill_rates-requires : goal.fill_rates-requires
fill_rates-requires c = (counts (goal.at.fill_rates-requires c).In_ok-map_err).most

pub overflow_mul-n : goal.overflow_mul-n
overflow_mul-n c = omega (arith, (counts (goal.at.overflow_mul-n c).In_ok-map_err).most)

pub fill_species-requires : goal.fill_species-requires
fill_species-requires c = omega (arith, (counts (goal.at.fill_species-requires c).In_ok-map_err).most)

pub returns : goal.returns
returns c =
    let all = outcome-copied c.args.bytes.now c.judge.new.settings c.judge.new.amounts
    c.judge.new.count c.judge.new.listed (mapped-ok _ c.judge.result c.map_err.ensures.cases c.in_ok-map_err.was)
    c.judge.ensures.result_after c.if-bytes-gt-MOST_BYTES.false (omega arith) c.args.amounts.now c.args.rates.now
    c.args.species.now (omega arith) c.heading_from.ensures
    (rw c.copy_from_slice.ensures.after refl) c.fill_rates.ensures c.fill_species.ensures in
    record { value = all.0; amounts_after = all.1.0; rates_after = all.1.1.0; species_after = all.1.1.1 }
