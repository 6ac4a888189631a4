-- Wrong readings of opening's table, each shut out by a claim about the definitions. They are computed, so an edit of a
-- definition that took the wrong reading is refused here.
--     rows-in-order        one refusal after the other, from 1 to 12, as an opening that fails in every row is mended
--                          row by row
--     floor-at-ceiling     a min_step equal to the ceiling passes, one above it doesn't
--     sums-dont-wrap       a partition that would sum to n in machine words is refused
use Prim.Native.Nat.{ℕ}
use mathlib.Core.Path.{◌≡◌, refl}
use mathlib.Core.List.{List, [], ◌∷◌}
use lib.Dec.{leb}
use lib.Ieee.{Float, nan, le, lt, eq, sub, of_bits}
use Rattle.words.specs.Constants.{«0·0», «1·0», «2·0»}
use Rattle.words.specs.Loop.{pick}
use Rattle.scalar.specs.Order.{abs_of}
use Rattle.state.specs.declared.settings.Settings.{Settings}
use Rattle.state.specs.declared.run.Tolerances.TheVariants.{Scalars}
use Rattle.state.specs.declared.talk.Refusal.TheVariants as refusal
use Rattle.state.specs.Settings.{defaults_of}
use Rattle.state.specs.Numbers.{refusal_number}
use Rattle.state.specs.Memory.{Memory, memory, amounts, newton, given, factors, differences}
use Rattle.state.specs.Memory.{amounts_fit, newton_fit, given_fit, factors_fit, differences_fit}
use Rattle.opening.specs.Rows.{Opening, opening, opening_rows, verdict_of, bad_number, place_of}
use Rattle.opening.specs.Rows.{mass_given, rtol_given, atol_given, partition_fails, given_zero, given_below}
use Rattle.std.specs.Prelude.{None, Some, Option, Ok, Err}
use Rattle.state.specs.Talk.{Verdict, passed_all}

-- ---- openings of one amount, from 0 to 1

abbrev nought : List Float
nought = «0·0» ∷ []

abbrev one : Float
one = «1·0»

abbrev two : Float
two = «2·0»

-- the defaults but for what rows 4 to 8 test
abbrev ranged : ℕ → Float → Float → Float → ℕ → Settings
ranged steps round safety smallest rounds =
    record {
      max_steps = steps;
      uround = round;
      safety_factor = safety;
      scale_min = smallest;
      scale_max = defaults_of.scale_max;
      max_step = None;
      min_step = None;
      newton_maxiter = rounds;
      newton_tol = None;
      predictive = defaults_of.predictive;
      nind1 = None;
      nind2 = None;
      nind3 = None;
      mass = defaults_of.mass;
      source = defaults_of.source;
      first_step = None;
      dense_output = defaults_of.dense_output;
      rule = defaults_of.rule;
    }

-- s but for what rows 10 to 12 test
abbrev stepped : Settings → Option ℕ → Option ℕ → Option ℕ → Option Float → Option Float → Option Float → Settings
stepped s nind1 nind2 nind3 first ceiling floor =
    record {
      max_steps = s.max_steps;
      uround = s.uround;
      safety_factor = s.safety_factor;
      scale_min = s.scale_min;
      scale_max = s.scale_max;
      max_step = ceiling;
      min_step = floor;
      newton_maxiter = s.newton_maxiter;
      newton_tol = s.newton_tol;
      predictive = s.predictive;
      nind1 = nind1;
      nind2 = nind2;
      nind3 = nind3;
      mass = s.mass;
      source = s.source;
      first_step = first;
      dense_output = s.dense_output;
      rule = s.rule;
    }

-- the memory, y apart
abbrev memory_of : List Float → Memory
memory_of y =
    memory (amounts y nought nought («0·0» ∷ «0·0» ∷ «0·0» ∷ «0·0» ∷ []))
    (newton nought nought nought nought nought nought) (given nought nought nought nought)
    (factors nought nought nought (0 ∷ []) (0 ∷ [])) (differences nought nought nought)

-- ---- the claims

-- an opening that fails in row k and in every later one, but in no earlier
abbrev fails_from : ℕ → Opening
fails_from k =
    opening
    (stepped
    (ranged (pick (leb k 4) 0 100_000) (pick (leb k 5) one defaults_of.uround)
    (pick (leb k 6) one defaults_of.safety_factor) (pick (leb k 7) «0·0» defaults_of.scale_min)
    (pick (leb k 8) 17 7))
    None (pick (leb k 10) (Some 2) None) None
    (pick (leb k 11) (Some «0·0») None) (pick (leb k 12) (Some «0·0») None)
    (pick (leb k 12) (Some one) None))
    (pick (leb k 1) 0 1) (pick (leb k 3) nan «0·0») one (Scalars (pick (leb k 9) «0·0» one) «0·0»)
    (memory_of (pick (leb k 2) [] nought))

-- 01's number, and 0 where it passes
abbrev number_of : Verdict → ℕ
number_of (Ok tt) = 0
number_of (Err r) = refusal_number r

abbrev said_from : ℕ → ℕ
said_from k = number_of (verdict_of (opening_rows (fails_from k)))

pub rows-in-order : (said_from 1 ∷ said_from 2 ∷ said_from 3 ∷ said_from 4 ∷ said_from 5 ∷ said_from 6 ∷ said_from 7
    ∷ said_from 8 ∷ said_from 9 ∷ said_from 10 ∷ said_from 11 ∷ said_from 12 ∷ said_from 13 ∷ [])
    ≡ (1 ∷ 2 ∷ 3 ∷ 4 ∷ 5 ∷ 6 ∷ 7 ∷ 8 ∷ 9 ∷ 10 ∷ 11 ∷ 12 ∷ 0 ∷ [])
unfolding verdict_of pick amounts_fit newton_fit given_fit factors_fit differences_fit bad_number place_of mass_given
    rtol_given atol_given partition_fails given_zero given_below abs_of le lt eq sub of_bits
rows-in-order = refl

-- from 0 to 1 with this partition and these two steps
abbrev verdict_by : Option ℕ → Option ℕ → Option ℕ → Option Float → Option Float → Verdict
verdict_by nind1 nind2 nind3 ceiling floor =
    verdict_of
    (opening_rows
    (opening (stepped defaults_of nind1 nind2 nind3 None ceiling floor) 1 «0·0» one (Scalars one one)
    (memory_of nought)))

-- the ceiling is max_step, else |xend - x0|, here 1 [radau.rs:176-178]
pub floor-at-ceiling :
    (verdict_by None None None (Some two) (Some two) ≡ passed_all)
    × (verdict_by None None None None (Some one) ≡ passed_all)
    × (verdict_by None None None None (Some two) ≡ Err refusal.MinStep)
unfolding verdict_of pick amounts_fit newton_fit given_fit factors_fit differences_fit bad_number place_of mass_given
    rtol_given atol_given partition_fails given_zero given_below abs_of le lt eq sub of_bits
floor-at-ceiling = (refl, refl, refl)

-- in machine words 1 + 2^63 + 2^63 is 1, and so is 2^64 - 1 + 1 + 1, where nind1 alone is above n; 2^63 + 2^63 is 0,
-- which would leave 1 for an absent nind1
pub sums-dont-wrap : (verdict_by (Some 1) (Some 9_223_372_036_854_775_808)
    (Some 9_223_372_036_854_775_808) None None
    ≡ Err refusal.Partition)
    × (verdict_by (Some 18_446_744_073_709_551_615) (Some 1) (Some 1) None None
    ≡ Err refusal.Partition)
    × (verdict_by None (Some 9_223_372_036_854_775_808)
    (Some 9_223_372_036_854_775_808) None None
    ≡ Err refusal.Partition)
unfolding verdict_of pick amounts_fit newton_fit given_fit factors_fit differences_fit bad_number place_of mass_given
    rtol_given atol_given partition_fails given_zero given_below abs_of le lt eq sub of_bits
sums-dont-wrap = (refl, refl, refl)
