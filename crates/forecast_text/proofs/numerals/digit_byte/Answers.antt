-- `digit_byte` meets its contract.
use mathlib.Core.Path.{refl}
use borrow.Author.Tests.{lt-ltb, le-ltb}
use Rattle.words.proofs.Branch.{yes, no}
use Rattle.sheet.specs.Digits.{byte_of}
use Rattle.forecast_text.proofs.numerals.digit_byte.Goals as goal

pub returns-then-digit-lt10 : goal.returns-then-digit-lt10
unfolding byte_of
returns-then-digit-lt10 c = yes _ _ _ (lt-ltb _ _ c.if-digit-lt10.true) refl

pub returns : goal.returns
unfolding byte_of
returns c = no _ _ _ (le-ltb _ _ c.if-digit-lt10.false) refl
