-- `put_record` meets its contract.
use Rattle.std.proofs.Common.{sym, ap, ◌∙◌, length}
use Rattle.csv_table.specs.Table.{line_of, record_text}
use Rattle.csv_table.proofs.Lengths.{record-few-proof}
use Rattle.csv_table.proofs.LineLaws.{line-whole, ordered-by, not-ordered, order-few}
use Rattle.csv_table.proofs.table.put_record.Goals as goal

pub returns-then-not-is_order : goal.returns-then-not-is_order
returns-then-not-is_order c = not-ordered _ _ _ c.is_order.ensures c.if-not-is_order.true

pub returns : goal.returns
returns c =
    let out = c.args.out.now in
    let x = c.args.x in
    let ys = c.args.amounts.now in
    let few = order-few (length ys) c.is_order.ensures c.if-not-is_order.false in
    let line = line-whole _ c.new-line.ensures (record-few-proof x ys few) c.put_record_line.ensures in
    c.put_line.ensures ∙ ap (λ l. line_of l out) line
    ∙ sym (ordered-by (length ys) (record_text x ys) out c.is_order.ensures c.if-not-is_order.false)
