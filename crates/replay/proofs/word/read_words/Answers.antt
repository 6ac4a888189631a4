-- `read_words` meets its contract: up to `i` the block is filled. `i` rises to an end within the block, whose length
-- stays.
use Rattle.std.proofs.Common.{◌+◌, ◌<◌, ◌≤◌, length, refl, inl, inr, arith}
use Rattle.replay.proofs.ReadLaws.{read-value, filled_none, filled_more, read_all, read_some}
use Rattle.replay.proofs.word.read_words.Goals as goal

pub loop-i-init : goal.loop-i-init
loop-i-init g c =
    (c.min-i-end.ensures, omega (arith, c.min-i-end.ensures), omega arith, inl refl, filled_none _ _)

pub returns-in_default : goal.returns-in_default
returns-in_default g c = let l = c.loop-i in
    read_some l.invariant.0 l.invariant.3 l.invariant.4 c.loop-i-test.true

pub loop-i-preserved : goal.loop-i-preserved
loop-i-preserved g c = let l = c.loop-i in
    let test = c.loop-i-test.true in
    let room : l.i < length l.block = omega (arith, test, l.invariant.1, l.invariant.4.long) in
    let put = read-value c.after.ensures
    c.read_word.ensures c.in-Ok.is in
    let last = c.min-i-end.result in
    let more : l.i + 1 ≤ last = omega (arith, test) in (
      l.invariant.0,
      l.invariant.1,
      omega (arith, l.invariant.2),
      inr more,
      filled_more l.invariant.4 l.invariant.2 room put,
    )

pub returns : goal.returns
returns g c = let l = c.loop-i in
    read_all l.invariant.0 l.invariant.3 l.invariant.4 c.loop-i-test.false
