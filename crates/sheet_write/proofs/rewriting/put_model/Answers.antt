-- `put_model` meets its contract.
use Rattle.std.proofs.Common.{ap, ◌∙◌}
use Rattle.sheet_write.specs.Rewritten.{count_for}
use Rattle.sheet_write.proofs.RewriteLaws.{count-or-none}
use Rattle.sheet_write.proofs.rewriting.put_model.Goals as goal

pub returns-clause-value : goal.returns-clause-value
returns-clause-value c =
    c.unwrap_or.ensures ∙ count-or-none c.write.result ∙ ap count_for c.write.ensures.value
