-- A state that is held within its bounds is never unfit: what refusal 13 tests, turned round. Then 14 and 15 alone
-- decide, by the stage and the reply.
use Prim.Native.Nat.{ℕ, ◌+◌, ◌*◌, ◌≤◌}
use mathlib.Core.Path.{◌≡◌, refl, sym, ap, ◌∙◌}
use mathlib.Core.Bool.{Bool, true, false, not, ◌&&◌, beq}
use mathlib.Core.List.{List, [], ◌∷◌, ◌++◌}
use lib.ListN.{length}
use borrow.Author.Tests.{le-ltb, eq-eqb}
use Rattle.words.proofs.Branch.{pick_yes, pick_no}
use Rattle.state.specs.declared.run.Run.{Run}
use Rattle.state.specs.declared.talk.Refusal.TheVariants.{HasEnded}
use Rattle.state.specs.declared.talk.Reply.{Reply}
use Rattle.state.specs.Memory.{Memory, lengths_fit, amounts_fit, newton_fit, given_fit, factors_fit, differences_fit}
use Rattle.state.specs.Pivots.{stray}
use Rattle.opening.specs.Rows.{Test, verdict_of, range_rows, outside}
use Rattle.opening.specs.Admission.{asking_at, answers_report, stride_below, unfit_of, all_unfit, shape_rows}
use Rattle.opening.specs.Admission.{state_rows, count_rows, reply_rows, admission_rows}
use Rattle.opening.proofs.RowLaws.{verdict-append}
use Rattle.opening.proofs.AdmissionLaws.{unfit-all}
use Rattle.solve_blocks.specs.Needs.{MemoryLong}
use Rattle.std.specs.Prelude.{Err}
use Rattle.state.specs.Talk.{passed_all}

-- every clause of 'Unfit means one of', denied
pub record Bounded (r : Run) (m : Memory) : Type 0 where
  pub low : 1 ≤ r.shape.n
  pub high : r.shape.n ≤ 32
  pub long : MemoryLong r.shape.n m
  pub range : verdict_of (range_rows r.settings) ≡ passed_all
  pub partition : r.shape.nind1 + r.shape.nind2 + r.shape.nind3 ≡ r.shape.n
  pub total : (asking_at r.stage).ended ≡ false → r.counts.total ≤ r.settings.max_steps
  pub rounds : r.control.newt_iter ≤ r.settings.newton_maxiter
  pub column : (asking_at r.stage).column ≤ r.shape.n
  pub failures : (asking_at r.stage).ended ≡ false → r.control.singular_count ≤ 5
  pub ip1 : stray r.shape.n m.factors.ip1 ≡ false
  pub ip2 : stray r.shape.n m.factors.ip2 ≡ false
  pub ode : r.counts.ode ≤ 2 + 3 * (r.settings.newton_maxiter + 1) * r.settings.max_steps
  pub jac : r.counts.jac ≤ 6 * (r.settings.max_steps + 1)
  pub lu : r.counts.lu ≤ 13 * r.settings.max_steps + 12
  pub accepted : r.counts.accepted ≤ r.settings.max_steps
  pub rejected : r.counts.rejected ≤ 2 * r.settings.max_steps
  pub strides : stride_below r.notes.strides ≡ false

-- ---- rows that don't hold

pub over : (t : Test) (ts : List Test) → t.holds ≡ false → verdict_of ts ≡ passed_all → verdict_of (t ∷ ts) ≡ passed_all
unfolding verdict_of
over t ts e f = pick_no (Err t.refusal) (verdict_of ts) e ∙ f

pub no_row : verdict_of [] ≡ passed_all
unfolding verdict_of
no_row = refl

not-outside : (low high k : ℕ) → low ≤ k → k ≤ high → outside low high k ≡ false
not-outside low high k l h = rw (le-ltb k low l, le-ltb high k h) refl

-- a test that is made in a run not ended
unless-ended : (b e : Bool) → (e ≡ false → b ≡ false) → (b && not e) ≡ false
unless-ended true true h = refl
unless-ended true false h = h refl
unless-ended false e h = refl

lengths-are : (n : ℕ) (m : Memory) → MemoryLong n m → lengths_fit n m ≡ true
unfolding amounts_fit newton_fit given_fit factors_fit differences_fit
lengths-are n m l =
    rw (
      eq-eqb (length m.amounts.y) n l.y,
      eq-eqb (length m.amounts.f0) n l.f0,
      eq-eqb (length m.amounts.scal) n l.scal,
      eq-eqb (length m.amounts.cont) (4 * n) l.cont,
      eq-eqb (length m.newton.z1) n l.newton.z1,
      eq-eqb (length m.newton.z2) n l.newton.z2,
      eq-eqb (length m.newton.z3) n l.newton.z3,
      eq-eqb (length m.newton.f1) n l.newton.f1,
      eq-eqb (length m.newton.f2) n l.newton.f2,
      eq-eqb (length m.newton.f3) n l.newton.f3,
      eq-eqb (length m.given.rtol) n l.rtol,
      eq-eqb (length m.given.atol) n l.atol,
      eq-eqb (length m.given.mass) (n * n) l.mass.full,
      eq-eqb (length m.given.jac) (n * n) l.jac.full,
      eq-eqb (length m.factors.e1) (n * n) l.factors.e1.full,
      eq-eqb (length m.factors.e2r) (n * n) l.factors.e2r.full,
      eq-eqb (length m.factors.e2i) (n * n) l.factors.e2i.full,
      eq-eqb (length m.factors.ip1) n l.factors.ip1,
      eq-eqb (length m.factors.ip2) n l.factors.ip2,
      eq-eqb (length m.differences.y_perturbed) n l.y_perturbed,
      eq-eqb (length m.differences.f_perturbed) n l.f_perturbed,
      eq-eqb (length m.differences.f_origin) n l.f_origin,
    ) refl

-- ---- the table

module _ (r : Run) (m : Memory) (h : Bounded r m) where
  range-passes : verdict_of (all_unfit (range_rows r.settings)) ≡ passed_all
  unfolding unfit_of
  range-passes = sym (unfit-all (range_rows r.settings)) ∙ ap unfit_of h.range

  shape-passes : verdict_of (shape_rows r (lengths_fit r.shape.n m)) ≡ passed_all
  shape-passes =
      over _ _ (not-outside 1 32 r.shape.n h.low h.high)
      (over _ _ (ap not (lengths-are r.shape.n m h.long)) range-passes)

  state-passes : verdict_of (state_rows r m.factors.ip1 m.factors.ip2) ≡ passed_all
  state-passes =
      over _ _ (ap not (eq-eqb _ _ h.partition))
      (over _ _ (unless-ended _ _ (λ e. le-ltb _ _ (h.total e)))
      (over _ _ (le-ltb _ _ h.rounds)
      (over _ _ (le-ltb _ _ h.column)
      (over _ _ (unless-ended _ _ (λ e. le-ltb _ _ (h.failures e)))
      (over _ _ h.ip1
      (over _ _ h.ip2 no_row))))))

  count-passes : verdict_of (count_rows r) ≡ passed_all
  count-passes =
      over _ _ (le-ltb _ _ h.ode) (over _ _ (le-ltb _ _ h.jac)
      (over _ _ (le-ltb _ _ h.lu)
      (over _ _ (le-ltb _ _ h.accepted) (over _ _ (le-ltb _ _ h.rejected) (over _ _ h.strides no_row)))))

  -- 13 is never met, so the reply decides
  reply-decides : (p : Reply) → verdict_of (admission_rows r p m) ≡ verdict_of (reply_rows r.stage p)
  reply-decides p =
      let replies = reply_rows r.stage p in
      (verdict-append (shape_rows r (lengths_fit r.shape.n m))
      (state_rows r m.factors.ip1 m.factors.ip2 ++ (count_rows r ++ replies))).0 shape-passes
      ∙ (verdict-append (state_rows r m.factors.ip1 m.factors.ip2) (count_rows r ++ replies)).0 state-passes
      ∙ (verdict-append (count_rows r) replies).0 count-passes

  same_kind : (a b : Bool) → b ≡ a → not (beq a b) ≡ false
  same_kind true true e = refl
  same_kind false false e = refl
  same_kind true false e = sym e
  same_kind false true e = e

  -- an advance that replies in kind is admitted
  pub admits : (p : Reply) → (asking_at r.stage).ended ≡ false → answers_report p ≡ (asking_at r.stage).report
      → verdict_of (admission_rows r p m) ≡ passed_all
  admits p running kind =
      reply-decides p
      ∙ over _ _ running (over _ _ (same_kind (asking_at r.stage).report (answers_report p) kind) no_row)

  -- and every advance of a run that has ended is 14, never 13
  pub ended-refuses : (p : Reply) → (asking_at r.stage).ended ≡ true
      → verdict_of (admission_rows r p m) ≡ Err HasEnded
  unfolding verdict_of
  ended-refuses p e = reply-decides p ∙ pick_yes _ _ e
