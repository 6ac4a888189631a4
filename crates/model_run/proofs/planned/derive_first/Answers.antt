-- `derive_first` meets its contract: a part that is no longer than n is its own first n entries.
use mathlib.Core.Path.{ap, sym, ◌∙◌}
use mathlib.Core.List.{List}
use native.Mathlib.Omega.{arith}
use lib.ListN.{length-take}
use lib.Seq.{take_all}
use lib.Ieee.{Float}
use Rattle.model.specs.Derivative.{derived_of}
use Rattle.model_run.proofs.planned.derive_first.Goals as goal

pub slice_bounds-derivative_by_plan-end : goal.slice_bounds-derivative_by_plan-end
slice_bounds-derivative_by_plan-end c = simp length-take (omega arith)

pub returns-else-n-cont-clause-part_after : goal.returns-else-n-cont-clause-part_after
returns-else-n-cont-clause-part_after c = let a = c.args in
    c.derivative_by_plan-else-n-cont.ensures.dy_after ∙ ap
    (λ (l : List Float). (derived_of a.reactions l a.rates.now a.species.now a.part.now).dy)
    (sym (take_all a.n a.cont.now c.if-n-cont.false))
