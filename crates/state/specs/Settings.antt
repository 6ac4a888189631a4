-- The Rust's defaults (radau.rs:70-92), and what stands for a setting that is absent.
use Rattle.std.specs.Prelude.{ℕ, true, Float, None, Option, unwrap_or}
use Rattle.words.specs.Constants.{«8·0», «0·9», «0·2», «2·3e-16»}
use Rattle.state.specs.declared.settings.Settings.{Settings}
use Rattle.state.specs.declared.settings.Mass.TheVariants.{Full}
use Rattle.state.specs.declared.settings.Source.TheVariants.{Differences}
use Rattle.state.specs.declared.settings.Rule.TheVariants.{Rust}

abbrev pub defaults_of : Settings
defaults_of =
    record {
      max_steps = 100_000;
      uround = «2·3e-16»;
      safety_factor = «0·9»;
      scale_min = «0·2»;
      scale_max = «8·0»;
      max_step = None;
      min_step = None;
      newton_maxiter = 7;
      newton_tol = None;
      predictive = true;
      nind1 = None;
      nind2 = None;
      nind3 = None;
      mass = Full;
      source = Differences;
      first_step = None;
      dense_output = true;
      rule = Rust;
    }

-- the Rust's `unwrap_or`
abbrev pub or_else : Option Float → Float → Float
or_else = unwrap_or

abbrev pub or_none : Option ℕ → ℕ
or_none k = unwrap_or k 0
