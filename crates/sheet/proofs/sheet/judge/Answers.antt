-- `judge` meets its contract: the parts that were right, one after the other.
use Rattle.std.proofs.Common.{◌≡◌, ℕ, ◌*◌, ◌≤◌, ◌∙◌, sym, length, get_or, take}
use native.Mathlib.Omega.{arith}
use lib.Seq.{length-take-le}
use lib.ListN.{length-take}
use Rattle.std.proofs.lemmas.Result.{err_from_is_err_and}
use Rattle.sheet.specs.Numbers.{passed, part_of}
use Rattle.sheet.specs.Reader.{judged_at}
use Rattle.sheet.specs.declared.kind.Phase.TheVariants as phase
use Rattle.sheet.proofs.ReaderLaws.{passage-good, passage-bad, first-bad, species-few, second-bad, third-bad}
use Rattle.sheet.proofs.ReaderLaws.{front-taken, fourth-bad, last, count-bounded, ended-few}
use Rattle.sheet.proofs.sheet.judge.Goals as goal
use Rattle.sheet.proofs.sheet.judge.Goals.{In_ok-head, In_ok-given, In_ok-counted, In_ok-last}

settings : (c : In_ok-head) → passed c.numbers.new.store c.in_ok-head.head.lines c.in_ok-head.head.rest.now
    ≡ part_of phase.Settings 0 8 0 c.args.bytes.now
settings c =
    let e : length c.args.settings.now ≡ 8 = omega arith in
    sym (passage-good _ c.in_ok-head.was) ∙ (rw e at c.numbers.ensures.result_after)

few : (c : In_ok-head) → get_or c.numbers.new.store 7 0 ≤ 32
few c = species-few _ _ _ _ (settings c)

amounts : (c : In_ok-given) → get_or c.numbers.new.store 7 0 ≤ 32
    → passed c.numbers-2.new.store c.in_ok-given.given.lines c.in_ok-given.given.rest.now
    ≡ part_of phase.Amounts 0 (get_or c.numbers.new.store 7 0) c.in_ok-head.head.lines c.in_ok-head.head.rest.now
amounts c h =
    let e : length (take (get_or c.numbers.new.store 7 0) c.args.amounts.now) ≡ get_or c.numbers.new.store 7 0 =
    length-take-le _ _ (let z : get_or c.numbers.new.store 7 0 ≤ length c.args.amounts.now = omega arith in z) in
    sym (passage-good _ c.in_ok-given.was) ∙ (rw e at c.numbers-2.ensures.result_after)

counted : (c : In_ok-counted) → passed c.numbers-3.new.store c.in_ok-counted.counted.lines
    c.in_ok-counted.counted.rest.now
    ≡ part_of phase.Count 0 1 c.in_ok-given.given.lines c.in_ok-given.given.rest.now
counted c =
    let e : length c.args.count.now ≡ 1 = omega arith in
    sym (passage-good _ c.in_ok-counted.was) ∙ (rw e at c.numbers-3.ensures.result_after)

most : (c : In_ok-counted) → get_or c.numbers-3.new.store 0 0 ≤ 64
most c = (count-bounded _ _ _ _ _ (counted c)).most

reactions : (c : In_ok-last) → get_or c.numbers-3.new.store 0 0 ≤ 64
    → passed c.numbers-4.new.store c.in_ok-last.last.lines c.in_ok-last.last.rest.now
    ≡ part_of phase.Reactions (get_or c.numbers.new.store 7 0) (get_or c.numbers-3.new.store 0 0 * 5)
    c.in_ok-counted.counted.lines c.in_ok-counted.counted.rest.now
reactions c h =
    let e : length (take (get_or c.numbers-3.new.store 0 0 * 5) c.args.listed.now)
    ≡ get_or c.numbers-3.new.store 0 0 * 5 =
    length-take-le _ _ (let z : get_or c.numbers-3.new.store 0 0 * 5 ≤ length c.args.listed.now = omega arith in z) in
    sym (passage-good _ c.in_ok-last.was) ∙ (rw e at c.numbers-4.ensures.result_after)

pub returns-in_err-head : goal.returns-in_err-head
unfolding judged_at
returns-in_err-head c =
    let p = err_from_is_err_and c.from_residual.result c.from_residual.ensures.1 in
    let e : length c.args.settings.now ≡ 8 = omega arith in
    rw (p.1, p.2) (record {
      result_after = first-bad c.args.bytes.now (sym (passage-bad _ c.in_err-head.was)
          ∙ (rw e at c.numbers.ensures.result_after));
      lines_bound = omega (arith, c.in_err-head.ensures.few);
    })

pub slice_bounds-numbers-end-2 : goal.slice_bounds-numbers-end-2
slice_bounds-numbers-end-2 c = omega (arith, few (goal.at.slice_bounds-numbers-end-2 c).In_ok-head)

pub returns-in_err-given : goal.returns-in_err-given
unfolding judged_at
returns-in_err-given c =
    let q = goal.at.returns-in_err-given c in
    let h : get_or c.numbers.new.store 7 0 ≤ 32 = few q.In_ok-head in
    let e : length (take (get_or c.numbers.new.store 7 0) c.args.amounts.now) ≡ get_or c.numbers.new.store 7 0 =
    length-take-le _ _ (let z : get_or c.numbers.new.store 7 0 ≤ length c.args.amounts.now = omega arith in z) in
    let p = err_from_is_err_and c.from_residual-in_err-given.result c.from_residual-in_err-given.ensures.1 in
    rw (p.1, p.2) (record {
      result_after = second-bad _ _ _ _ (settings q.In_ok-head)
          (sym (passage-bad _ c.in_err-given.was) ∙ (rw e at c.numbers-2.ensures.result_after));
      lines_bound = omega (arith, e, c.in_err-given.ensures.few, c.in_ok-head.ensures.few);
    })

pub returns-in_err-counted : goal.returns-in_err-counted
unfolding judged_at
returns-in_err-counted c =
    let q = goal.at.returns-in_err-counted c in
    let h : get_or c.numbers.new.store 7 0 ≤ 32 = few q.In_ok-head in
    let e : length c.args.count.now ≡ 1 = omega arith in
    let n : length (take (get_or c.numbers.new.store 7 0) c.args.amounts.now) ≤ 32 =
    omega (arith, length-take {A = ℕ}) in
    let p = err_from_is_err_and c.from_residual-in_err-counted.result c.from_residual-in_err-counted.ensures.1 in
    rw (p.1, p.2) (record {
      result_after = third-bad _ _ _ _ (settings q.In_ok-head) _ _ _ (amounts q.In_ok-given h)
          (sym (passage-bad _ c.in_err-counted.was) ∙ (rw e at c.numbers-3.ensures.result_after));
      lines_bound = omega (arith, n, c.in_err-counted.ensures.few, c.in_ok-given.ensures.few, c.in_ok-head.ensures.few);
    })

pub overflow_mul-numbered : goal.overflow_mul-numbered
overflow_mul-numbered c = omega (arith, most (goal.at.overflow_mul-numbered c).In_ok-counted)

pub slice_bounds-numbers-end-5 : goal.slice_bounds-numbers-end-5
slice_bounds-numbers-end-5 c = omega (arith, most (goal.at.slice_bounds-numbers-end-5 c).In_ok-counted)

pub returns-in_err-last : goal.returns-in_err-last
unfolding judged_at
returns-in_err-last c =
    let q = goal.at.returns-in_err-last c in
    let h : get_or c.numbers.new.store 7 0 ≤ 32 = few q.In_ok-head in
    let m : get_or c.numbers-3.new.store 0 0 ≤ 64 = most q.In_ok-counted in
    let n : length (take (get_or c.numbers.new.store 7 0) c.args.amounts.now) ≤ 32 =
    omega (arith, length-take {A = ℕ}) in
    let e : length (take (get_or c.numbers-3.new.store 0 0 * 5) c.args.listed.now)
    ≡ get_or c.numbers-3.new.store 0 0 * 5 =
    length-take-le _ _ (let z : get_or c.numbers-3.new.store 0 0 * 5 ≤ length c.args.listed.now = omega arith in z) in
    let p = err_from_is_err_and c.from_residual-in_err-last.result c.from_residual-in_err-last.ensures.1 in
    rw (p.1, p.2) (record {
      result_after = fourth-bad _ _ _ _ (settings q.In_ok-head) _ _ _ (amounts q.In_ok-given h) _ _ _
          (counted q.In_ok-counted)
          (sym (passage-bad _ c.in_err-last.was) ∙ (rw e at c.numbers-4.ensures.result_after));
      lines_bound = omega (
        arith,
        n,
        e,
        c.in_err-last.ensures.few,
        c.in_ok-counted.ensures.few,
        c.in_ok-given.ensures.few,
        c.in_ok-head.ensures.few,
      );
    })

pub returns : goal.returns
returns c =
    let q = goal.at.returns c in
    let h : get_or c.numbers.new.store 7 0 ≤ 32 = few q.In_ok-head in
    let m : get_or c.numbers-3.new.store 0 0 ≤ 64 = most q.In_ok-counted in
    let d : length (take (get_or c.numbers.new.store 7 0) c.args.amounts.now) ≡ get_or c.numbers.new.store 7 0 =
    length-take-le _ _ (let z : get_or c.numbers.new.store 7 0 ≤ length c.args.amounts.now = omega arith in z) in
    let e : length (take (get_or c.numbers-3.new.store 0 0 * 5) c.args.listed.now)
    ≡ get_or c.numbers-3.new.store 0 0 * 5 =
    length-take-le _ _ (let z : get_or c.numbers-3.new.store 0 0 * 5 ≤ length c.args.listed.now = omega arith in z) in
    let f : length c.numbers-2.new.store ≡ get_or c.numbers.new.store 7 0 = omega (arith, d) in
    let g : length c.numbers-4.new.store ≡ get_or c.numbers-3.new.store 0 0 * 5 = omega (arith, e) in
    rw (front-taken _ _ _ f, front-taken _ _ _ g, c.ended.ensures) (record {
      result_after = last _ _ _ _ (settings q.In_ok-head) _ _ _ (amounts q.In_ok-given h) _ _ _
          (counted q.In_ok-counted) c.in_ok-last.last (reactions q.In_ok-last m);
      lines_bound = ended-few c.in_ok-last.last 1000 (omega (
        arith,
        d,
        e,
        c.in_ok-last.ensures.few,
        c.in_ok-counted.ensures.few,
        c.in_ok-given.ensures.few,
        c.in_ok-head.ensures.few,
      ));
    })
