-- Settings that are written into the two arrays are read back as they were. So who opens with the arrays of
-- `elchepur_default_settings` opens with the default settings.
use mathlib.Core.Path.{◌≡◌, refl}
use Rattle.words.specs.Words.{double}
use Rattle.words.specs.Loop.{pick}
use Rattle.state.specs.Settings.{defaults_of, or_else}
use Rattle.state.specs.declared.settings.Settings.{Settings}
use Rattle.radau_core.specs.Choices.{option_at, option_tag}
use Rattle.export.specs.Talk.{settings_given}
use Rattle.export.specs.Defaults.{numbers_of, floats_of}
use Rattle.radau_core.proofs.PackLaws.{flag-held, whole_back, mass-back, source-back, rule-back}
use Rattle.std.specs.Prelude.{None, Some, Option, Float}

given_back : (n : Option Float) → option_at (option_tag n) (or_else n (double 0)) ≡ n
unfolding pick option_at
given_back None = refl
given_back (Some x) = refl

pub settings-read-proof : (s : Settings) → settings_given (numbers_of s) (floats_of s) ≡ s
settings-read-proof s =
    λ i.
    record {
      max_steps = s.max_steps;
      uround = s.uround;
      safety_factor = s.safety_factor;
      scale_min = s.scale_min;
      scale_max = s.scale_max;
      max_step = given_back s.max_step i;
      min_step = given_back s.min_step i;
      newton_maxiter = s.newton_maxiter;
      newton_tol = given_back s.newton_tol i;
      predictive = flag-held s.predictive i;
      nind1 = whole_back s.nind1 i;
      nind2 = whole_back s.nind2 i;
      nind3 = whole_back s.nind3 i;
      mass = mass-back s.mass i;
      source = source-back s.source i;
      first_step = given_back s.first_step i;
      dense_output = flag-held s.dense_output i;
      rule = rule-back s.rule i;
    }

pub defaults-read : settings_given (numbers_of defaults_of) (floats_of defaults_of) ≡ defaults_of
defaults-read = settings-read-proof defaults_of
