-- `around` meets its contract: 16 patterns either way of the guess are two ends, if the test says so.
use Rattle.std.proofs.Common.{sym, ◌∙◌, arith}
use Rattle.scalar.proofs.roots.Sought.around.Goals as goal

pub between-requires : goal.between-requires
between-requires c = record {
  ordered = c.args.self.has_root;
  order = omega arith;
  under = omega arith;
  kept = sym c.keeps.ensures ∙ c.if-keeps.true;
  not-kept = λ h. sym c.keeps-then-keeps.ensures ∙ c.if-not-keeps.true;
}
