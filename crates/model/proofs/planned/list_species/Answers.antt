-- `list_species` meets its contract. After k turns the first k places are listed.
use Rattle.std.proofs.Common.{◌≡◌, ℕ, subst, length, arith}
use Rattle.model.specs.Plan.{Lists}
use Rattle.model.proofs.PlanLaws.{lists-none, lists-passed, lists-full, lists-put}
use Rattle.model.proofs.planned.list_species.Goals as goal
use Rattle.model.proofs.planned.list_species.Goals.{then-place-number, else-place-number}
use Rattle.model.proofs.planned.list_species.Goals.{then-to-lt-TERMS, else-to-lt-TERMS}

pub loop-k-init : goal.loop-k-init
loop-k-init c = lists-none c.args.places.now c.args.number c.args.at c.args.terms.now (omega arith)

pub loop-k-preserved : goal.loop-k-preserved
loop-k-preserved c =
    let a = c.args in
    let l = c.loop-k in
    elim c.if-place-number.branch [
      | then-place-number w ↦
          elim w.if-to-lt-TERMS.branch [
            | then-to-lt-TERMS v ↦
                rw (w.to-is, w.terms-is, v.terms-is)
                (lists-put a.places.now a.number a.at a.terms.now l.k l.terms l.to l.invariant w.if-place-number.true
                (omega arith) v.if-to-lt-TERMS.true)
            | else-to-lt-TERMS v ↦
                rw (w.to-is, w.terms-is, v.terms-is)
                (lists-full a.places.now a.number a.at a.terms.now l.k l.terms l.to l.invariant v.if-to-lt-TERMS.false)
          ]
      | else-place-number w ↦
          rw (w.to-is, w.terms-is)
          (lists-passed a.places.now a.number a.at a.terms.now l.k l.terms l.to l.invariant w.if-place-number.false)
    ]

pub returns : goal.returns
returns c =
    let a = c.args in
    let l = c.loop-k in
    let all : l.k ≡ length a.places.now = omega arith in
    subst (λ (k : ℕ). Lists a.places.now a.number a.at a.terms.now k l.terms l.to) all l.invariant
