-- `spelled` meets its contract: the bytes passed spell the value so far.
use Rattle.std.proofs.Common.{refl, ◌∙◌, sym}
use native.Mathlib.Omega.{arith}
use Rattle.sheet.specs.Digits.{power}
use Rattle.sheet.proofs.DigitsLaws.{spelled-more, spelled-above, spelled-stopped, spelled-all, room}
use Rattle.sheet.proofs.digits.spelled.Goals as goal

pub loop-byte-init : goal.loop-byte-init
unfolding power
loop-byte-init c = (omega arith, refl)

pub returns-in_err-next : goal.returns-in_err-next
returns-in_err-next c = c.from_residual.ensures
    ∙ spelled-stopped _ c.loop-byte.value _ _ c.loop-byte-test.true (sym c.digit.ensures ∙ c.in_err-next.was)
    ∙ c.loop-byte.invariant.1

pub returns-then-base-next : goal.returns-then-base-next
returns-then-base-next c =
    spelled-above _ c.loop-byte.value _ _ c.loop-byte-test.true (sym c.digit.ensures ∙ c.in_ok-next.was)
    c.if-base-next.true
    ∙ c.loop-byte.invariant.1

pub overflow_mul-value : goal.overflow_mul-value
overflow_mul-value c = omega (
  arith,
  room c.loop-byte.value c.args.base c.in_ok-next.next c.loop-byte.byte-index
      c.loop-byte.invariant.0 c.requires.1 c.if-base-next.false (omega arith),
)

pub overflow_add-value : goal.overflow_add-value
overflow_add-value c = omega (
  arith,
  room c.loop-byte.value c.args.base c.in_ok-next.next c.loop-byte.byte-index
      c.loop-byte.invariant.0 c.requires.1 c.if-base-next.false (omega arith),
)

pub loop-byte-preserved : goal.loop-byte-preserved
loop-byte-preserved c = (
  (room c.loop-byte.value c.args.base c.in_ok-next.next c.loop-byte.byte-index
      c.loop-byte.invariant.0 c.requires.1 c.if-base-next.false (omega arith)).next,
  spelled-more _ _ _ _ c.loop-byte-test.true (sym c.digit.ensures ∙ c.in_ok-next.was) c.if-base-next.false
      ∙ c.loop-byte.invariant.1,
)

pub returns : goal.returns
returns c = spelled-all _ _ _ _ c.loop-byte-test.false ∙ c.loop-byte.invariant.1
