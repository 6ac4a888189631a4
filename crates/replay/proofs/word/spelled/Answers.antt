-- `spelled` meets its contract: what the bytes spell is settled by the number so far and the bytes that are left.
use Rattle.std.proofs.Common.{◌∙◌}
use Rattle.replay.proofs.ReadLaws.{spelled_begun, spelled_outside, spelled_on, spelled_off, spelled_done}
use Rattle.replay.proofs.word.spelled.Goals as goal

pub returns-in_err-byte-items : goal.returns-in_err-byte-items
returns-in_err-byte-items c = c.from_residual.ensures ∙ spelled_outside _ _ _ c.in_err-byte-items.ensures.lookup.0

pub loop-byte-init : goal.loop-byte-init
loop-byte-init c = let part = c.in_ok-byte-items.ensures.lookup in spelled_begun _ _ _ part.0.0 part.0.1 part.0.2

pub returns-in_err-value : goal.returns-in_err-value
returns-in_err-value c =
    c.from_residual-in_err-value.ensures ∙ spelled_off _ _ _ c.loop-byte-test.true c.in_err-value.ensures
    ∙ c.loop-byte.invariant

pub loop-byte-preserved : goal.loop-byte-preserved
loop-byte-preserved c = spelled_on _ _ _ c.loop-byte-test.true c.in_ok-value.ensures ∙ c.loop-byte.invariant

pub returns : goal.returns
returns c = spelled_done _ _ _ c.loop-byte-test.false ∙ c.loop-byte.invariant
