-- `reply_of` meets its contract.
use mathlib.Core.Path.{refl, sym, ◌∙◌}
use borrow.Author.Tests.{ne_eqb}
use Rattle.std.proofs.Common.{◌≢◌, arith}
use Rattle.words.specs.Loop.{pick}
use Rattle.words.proofs.Branch.{yes, no}
use Rattle.export.specs.Talk.{stray_reply, reply_of}
use Rattle.export.proofs.talk.reply_of.Goals as goal

pub returns-in-1 : goal.returns-in-1
unfolding pick reply_of
returns-in-1 c = rw c.in-1.is

pub returns-in-2 : goal.returns-in-2
unfolding pick reply_of
returns-in-2 c = rw c.in-2.is

pub returns-in-3 : goal.returns-in-3
unfolding pick reply_of
returns-in-3 c = rw c.in-3.is

pub returns-in-4 : goal.returns-in-4
unfolding pick reply_of
returns-in-4 c = rw c.in-4.is

pub returns-in-5 : goal.returns-in-5
unfolding pick reply_of
returns-in-5 c = rw c.in-5.is

pub returns-then-report_is_open : goal.returns-then-report_is_open
unfolding reply_of stray_reply
returns-then-report_is_open c =
    let not-1 : c.args.reply ≢ 1 = omega arith in
    let not-2 : c.args.reply ≢ 2 = omega arith in
    let not-3 : c.args.reply ≢ 3 = omega arith in
    let not-4 : c.args.reply ≢ 4 = omega arith in
    let not-5 : c.args.reply ≢ 5 = omega arith in
    no _ _ _ (ne_eqb _ _ not-1)
    (no _ _ _ (ne_eqb _ _ not-2)
    (no _ _ _ (ne_eqb _ _ not-3)
    (no _ _ _ (ne_eqb _ _ not-4)
    (no _ _ _ (ne_eqb _ _ not-5)
    (yes _ _ _ (sym c.report_is_open.ensures ∙ c.if-report_is_open.true) refl)))))

pub returns-else-report_is_open : goal.returns-else-report_is_open
unfolding reply_of stray_reply
returns-else-report_is_open c =
    let not-1 : c.args.reply ≢ 1 = omega arith in
    let not-2 : c.args.reply ≢ 2 = omega arith in
    let not-3 : c.args.reply ≢ 3 = omega arith in
    let not-4 : c.args.reply ≢ 4 = omega arith in
    let not-5 : c.args.reply ≢ 5 = omega arith in
    no _ _ _ (ne_eqb _ _ not-1)
    (no _ _ _ (ne_eqb _ _ not-2)
    (no _ _ _ (ne_eqb _ _ not-3)
    (no _ _ _ (ne_eqb _ _ not-4)
    (no _ _ _ (ne_eqb _ _ not-5)
    (no _ _ _ (sym c.report_is_open.ensures ∙ c.if-report_is_open.false) refl)))))
