-- `put_line` meets its contract.
use Rattle.std.proofs.Common.{◌≤◌, ◌<◌, length, arith, refl}
use borrow.Author.Tests.{le-leb, lt-leb}
use Rattle.words.proofs.Branch.{yes, no}
use Rattle.csv_table.specs.Table.{line_of}
use Rattle.csv_table.proofs.table.put_line.Goals as goal

pub returns-then-len-out : goal.returns-then-len-out
unfolding line_of
returns-then-len-out c =
    let fits : length c.args.line.now ≤ length c.args.out.now = omega (arith, c.len.ensures.value) in
    yes _ _ _ (le-leb _ _ fits) (rw (c.len-then-len-out.ensures.value, c.copy_over.ensures) refl)

pub returns-else-len-out : goal.returns-else-len-out
unfolding line_of
returns-else-len-out c =
    let short : length c.args.out.now < length c.args.line.now = omega (arith, c.len.ensures.value) in
    no _ _ _ (lt-leb _ _ short) refl
