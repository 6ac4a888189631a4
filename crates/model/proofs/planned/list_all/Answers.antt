-- `list_all` meets its contract. After s turns the first s species are listed.
use Prim.Native.Nat.{ℕ}
use mathlib.Core.Path.{subst}
use native.Mathlib.Nat.{le_antisymm}
use native.Mathlib.Omega.{arith}
use lib.ListN.{length}
use Rattle.model.specs.Plan.{Listings}
use Rattle.model.proofs.PlanLaws.{listings-none, listings-more}
use Rattle.model.proofs.planned.list_all.Goals as goal

pub loop-s-init : goal.loop-s-init
loop-s-init c = let a = c.args in (
  omega arith,
  listings-none a.places.now (length a.places.now) a.starts.now a.terms.now (omega arith)
      (omega arith) (omega arith),
)

pub loop-s-preserved : goal.loop-s-preserved
loop-s-preserved c = let a = c.args in
    let l = c.loop-s in (
      omega arith,
      listings-more a.places.now (length a.places.now) l.s l.starts l.terms
          c.list_species.new.terms c.list_species.result (omega arith) (omega arith) l.invariant.1
          c.list_species.ensures,
    )

pub returns : goal.returns
returns c = let a = c.args in
    let l = c.loop-s in
    subst (λ (k : ℕ). Listings k a.places.now (length a.places.now) l.starts l.terms)
    (le_antisymm l.invariant.0 c.loop-s-test.false) l.invariant.1
