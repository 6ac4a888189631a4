-- `trim` meets its contract: what is left to look at has the digits that are to be kept.
use native.Mathlib.Omega.{arith}
use Rattle.csv_table.proofs.TrimLaws.{trimming-first, trimming-next, trimming-last, wide}
use Rattle.csv_table.proofs.number.trim.Goals as goal

pub loop-value-init : goal.loop-value-init
loop-value-init c = trimming-first _ (omega arith) (omega arith)

pub overflow_sub-width : goal.overflow_sub-width
overflow_sub-width c = omega (arith, wide c.loop-value.invariant)

pub loop-value-preserved : goal.loop-value-preserved
loop-value-preserved c = trimming-next c.loop-value.invariant c.loop-value-test.true

pub returns : goal.returns
returns c = let t = c.loop-value.invariant in (trimming-last t c.loop-value-test.false, t.low, wide t, t.few)
