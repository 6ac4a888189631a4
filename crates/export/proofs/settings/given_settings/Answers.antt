-- `given_settings` meets its contract: field by field.
use Rattle.words.specs.Words.{◌!◌}
use Rattle.radau_core.specs.Choices.{flag_of}
use Rattle.radau_core.specs.Places.{◌#◌}
use Rattle.export.proofs.settings.given_settings.Goals as goal

pub returns : goal.returns
returns c = λ i.
    record {
      max_steps = c.args.w.now # 0;
      uround = c.args.x.now ! 0;
      safety_factor = c.args.x.now ! 1;
      scale_min = c.args.x.now ! 2;
      scale_max = c.args.x.now ! 3;
      max_step = c.option_at.ensures i;
      min_step = c.option_at-2.ensures i;
      newton_maxiter = c.args.w.now # 1;
      newton_tol = c.option_at-3.ensures i;
      predictive = flag_of (c.args.w.now # 2);
      nind1 = c.option_at-4.ensures i;
      nind2 = c.option_at-5.ensures i;
      nind3 = c.option_at-6.ensures i;
      mass = c.mass.ensures i;
      source = c.source.ensures i;
      first_step = c.option_at-7.ensures i;
      dense_output = flag_of (c.args.w.now # 3);
      rule = c.rule.ensures i;
    }
