-- `settings_at` meets its contract.
use Rattle.words.specs.Words.{◌!◌}
use Rattle.radau_core.specs.Choices.{flag_of}
use Rattle.radau_core.specs.Places.{◌#◌}
use Rattle.radau_core.proofs.pack.settings_at.Goals as goal

pub returns : goal.returns
returns c = λ i. record {
  max_steps = c.args.words.now # 21;
  uround = c.args.doubles.now ! 21;
  safety_factor = c.args.doubles.now ! 22;
  scale_min = c.args.doubles.now ! 23;
  scale_max = c.args.doubles.now ! 24;
  max_step = c.option_at.ensures i;
  min_step = c.option_at-2.ensures i;
  newton_maxiter = c.args.words.now # 22;
  newton_tol = c.option_at-3.ensures i;
  predictive = flag_of (c.args.words.now # 23);
  nind1 = c.option_at-4.ensures i;
  nind2 = c.option_at-5.ensures i;
  nind3 = c.option_at-6.ensures i;
  mass = c.mass_mode.ensures i;
  source = c.source_mode.ensures i;
  first_step = c.option_at-7.ensures i;
  dense_output = flag_of (c.args.words.now # 26);
  rule = c.rule_mode.ensures i;
}
