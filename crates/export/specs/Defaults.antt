-- Settings in the two arrays that an opening takes: 17 whole numbers and 8 doubles. The value of what is absent is 0.
-- Reading them gives the settings back (`settings-read`).
use Rattle.std.specs.Prelude.{ℕ, List, [], ◌∷◌, Float}
use Rattle.words.specs.Constants.{«0·0»}
use Rattle.state.specs.Settings.{or_else, or_none}
use Rattle.state.specs.declared.settings.Settings.{Settings}
use Rattle.radau_core.specs.Choices.{flag_word, option_tag, mass_word, source_word, rule_word}

abbrev pub numbers_of : Settings → List ℕ
numbers_of s =
    s.max_steps
    ∷ s.newton_maxiter
    ∷ flag_word s.predictive
    ∷ flag_word s.dense_output
    ∷ mass_word s.mass
    ∷ source_word s.source
    ∷ rule_word s.rule
    ∷ option_tag s.max_step
    ∷ option_tag s.min_step
    ∷ option_tag s.newton_tol
    ∷ option_tag s.first_step
    ∷ option_tag s.nind1
    ∷ or_none s.nind1
    ∷ option_tag s.nind2
    ∷ or_none s.nind2
    ∷ option_tag s.nind3
    ∷ or_none s.nind3
    ∷ []

abbrev pub floats_of : Settings → List Float
floats_of s =
    s.uround
    ∷ s.safety_factor
    ∷ s.scale_min
    ∷ s.scale_max
    ∷ or_else s.max_step «0·0»
    ∷ or_else s.min_step «0·0»
    ∷ or_else s.newton_tol «0·0»
    ∷ or_else s.first_step «0·0»
    ∷ []
