-- The settings of a run, made of words. The word at place 3 has a bit for each choice.
use Rattle.std.specs.Prelude.{ℕ, ◌/◌, ◌%◌, Bool, false, List, ◌==◌, slice_index, Float, Option, Some, None}
use Rattle.words.specs.Words.{double}
use Rattle.words.specs.Loop.{pick}
use Rattle.state.specs.declared.settings.Settings.{Settings}
use Rattle.state.specs.declared.settings.Mass.{Mass}
use Rattle.state.specs.declared.settings.Mass.TheVariants.{Identity, Full}
use Rattle.state.specs.declared.settings.Source.{Source}
use Rattle.state.specs.declared.settings.Source.TheVariants.{Host, Differences}
use Rattle.state.specs.declared.settings.Rule.{Rule}
use Rattle.state.specs.declared.settings.Rule.TheVariants.{Rust, Book}
use Rattle.state.specs.declared.run.Tolerances.{Tolerances}
use Rattle.state.specs.declared.run.Tolerances.TheVariants.{Scalars, Lists}

-- the word at a place, 0 where there is none
abbrev pub word_at : List ℕ → ℕ → ℕ
word_at words place = slice_index words place

unfoldable pub choice_of : List ℕ → ℕ → Bool
choice_of words bit = pick (bit == 0) false (word_at words 3 / bit % 2 == 1)

abbrev pub number_of : List ℕ → ℕ → ℕ → Option Float
number_of words bit place = pick (choice_of words bit) (Some (double (word_at words place))) None

abbrev pub whole_of : List ℕ → ℕ → ℕ → Option ℕ
whole_of words bit place = pick (choice_of words bit) (Some (word_at words place)) None

abbrev pub mass_of : List ℕ → Mass
mass_of words = pick (choice_of words 512) Full Identity

abbrev pub source_of : List ℕ → Source
source_of words = pick (choice_of words 1024) Host Differences

abbrev pub rule_of : List ℕ → Rule
rule_of words = pick (choice_of words 2048) Book Rust

abbrev pub tolerances_of : List ℕ → Tolerances
tolerances_of words =
    pick (choice_of words 4096) Lists (Scalars (double (word_at words 14)) (double (word_at words 15)))

abbrev pub settings_of : List ℕ → Settings
settings_of words =
    record {
      max_steps = word_at words 4;
      uround = double (word_at words 6);
      safety_factor = double (word_at words 7);
      scale_min = double (word_at words 8);
      scale_max = double (word_at words 9);
      max_step = number_of words 1 10;
      min_step = number_of words 2 11;
      newton_maxiter = word_at words 5;
      newton_tol = number_of words 4 12;
      predictive = choice_of words 128;
      nind1 = whole_of words 16 16;
      nind2 = whole_of words 32 17;
      nind3 = whole_of words 64 18;
      mass = mass_of words;
      source = source_of words;
      first_step = number_of words 8 13;
      dense_output = choice_of words 256;
      rule = rule_of words;
    }
