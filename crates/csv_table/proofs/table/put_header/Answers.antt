-- `put_header` meets its contract.
use Rattle.std.proofs.Common.{sym, ap, ◌∙◌}
use Rattle.csv_table.specs.Table.{line_of, header_text}
use Rattle.csv_table.proofs.Lengths.{header-few-proof}
use Rattle.csv_table.proofs.LineLaws.{line-whole, ordered-by, not-ordered, order-few}
use Rattle.csv_table.proofs.table.put_header.Goals as goal

pub put_header_line-requires : goal.put_header_line-requires
put_header_line-requires c = order-few c.args.n c.is_order.ensures c.if-not-is_order.false

pub returns-then-not-is_order : goal.returns-then-not-is_order
returns-then-not-is_order c = not-ordered _ _ _ c.is_order.ensures c.if-not-is_order.true

pub returns : goal.returns
returns c =
    let out = c.args.out.now in
    let few = order-few c.args.n c.is_order.ensures c.if-not-is_order.false in
    let line = line-whole _ c.new-line.ensures (header-few-proof c.args.n few) c.put_header_line.ensures in
    c.put_line.ensures ∙ ap (λ l. line_of l out) line
    ∙ sym (ordered-by c.args.n (header_text c.args.n) out c.is_order.ensures c.if-not-is_order.false)
