-- The table of opening's refusals (01, 'Numbers that refuse', 1 to 12): one list of tests, row by row in its order. The
-- first that holds is the refusal. Row 3 is spelled out float by float in the order of 01's bracket, row 9 by its two
-- tolerances, row 12 by its two steps, so that a refusal tells which value failed.
use Rattle.std.specs.Prelude.{ℕ, suc, ◌+◌, Bool, true, false, not, ◌||◌, List, [], ◌∷◌, ◌++◌, ltb, eqb, length, Float}
use Rattle.std.specs.Prelude.{None, Some, Option, Ok, Err}
use Rattle.std.specs.Float.{nan, inf, fin}
use Rattle.std.specs.Float.Ieee.{le, lt, eq}
use Rattle.words.specs.Words.{◌⊖◌}
use Rattle.words.specs.Constants.{«0·0», «1·0», «1e-4», «1e-35»}
use Rattle.words.specs.Loop.{pick}
use Rattle.scalar.specs.Order.{abs_of}
use Rattle.state.specs.declared.settings.Settings.{Settings}
use Rattle.state.specs.declared.settings.Mass.{Mass}
use Rattle.state.specs.declared.settings.Mass.TheVariants as mass
use Rattle.state.specs.declared.run.Tolerances.{Tolerances}
use Rattle.state.specs.declared.run.Tolerances.TheVariants.{Scalars, Lists}
use Rattle.state.specs.declared.talk.Value.TheVariants as value
use Rattle.state.specs.declared.talk.Refusal.{Refusal}
use Rattle.state.specs.declared.talk.Refusal.TheVariants as refusal
use Rattle.state.specs.Settings.{or_else, or_none}
use Rattle.state.specs.Memory.{Memory, lengths_fit}
use Rattle.state.specs.Talk.{Verdict, passed_all}

-- ---- a list of tests, and the first that holds

pub record Test : Type 0 where
  pub holds : Bool
  pub refusal : Refusal

abbrev pub test : Bool → Refusal → Test
test holds refusal = record { holds = holds; refusal = refusal }

unfoldable pub verdict_of : List Test → Verdict
verdict_of [] = passed_all
verdict_of (t ∷ ts) = pick t.holds (Err t.refusal) (verdict_of ts)

-- ---- what is opened

pub record Opening : Type 0 where
  pub settings : Settings
  pub n : ℕ
  pub x0 : Float
  pub xend : Float
  pub tolerances : Tolerances
  pub memory : Memory

abbrev pub opening : Settings → ℕ → Float → Float → Tolerances → Memory → Opening
opening s n x0 xend t m = record { settings = s; n = n; x0 = x0; xend = xend; tolerances = t; memory = m }

-- ---- small words

abbrev pub outside : ℕ → ℕ → ℕ → Bool
outside low high k = ltb k low || ltb high k

abbrev pub not_finite : Float → Bool
not_finite nan = true
not_finite (inf s) = true
not_finite (fin s m e) = false

-- an absent number is not given, so it can't fail
unfoldable pub bad_number : Option Float → Bool
bad_number None = false
bad_number (Some v) = not_finite v

-- the place of the first entry with a property, else the length
unfoldable pub place_of : (Float → Bool) → List Float → ℕ
place_of bad [] = 0
place_of bad (x ∷ xs) = pick (bad x) 0 (suc (place_of bad xs))

abbrev pub some : (Float → Bool) → List Float → Bool
some bad xs = ltb (place_of bad xs) (length xs)

-- the same place where there is one
unfoldable pub first_of : (Float → Bool) → List Float → Option ℕ
first_of bad xs = pick (some bad xs) (Some (place_of bad xs)) None

-- what is given: a Full mass, and the two scalars or the two lists
unfoldable pub mass_given : Mass → List Float → List Float
mass_given mass.Identity m = []
mass_given mass.Full m = m

unfoldable pub rtol_given : Tolerances → List Float → List Float
rtol_given (Scalars r a) list = r ∷ []
rtol_given Lists list = list

unfoldable pub atol_given : Tolerances → List Float → List Float
atol_given (Scalars r a) list = a ∷ []
atol_given Lists list = list

-- ---- rows 1 and 2: n, and the lengths of the parts

abbrev pub size_rows : ℕ → Memory → List Test
size_rows n m = test (outside 1 32 n) refusal.Order ∷ test (not (lengths_fit n m)) refusal.Length ∷ []

-- ---- row 3: a given float is not finite

abbrev pub end_rows : Float → Float → List Test
end_rows x0 xend =
    test (not_finite x0) (refusal.NotFinite value.X0)
    ∷ test (not_finite xend) (refusal.NotFinite value.Xend)
    ∷ []

abbrev pub list_rows : List Float → List Float → List Float → List Float → List Test
list_rows y m rtol atol =
    test (some not_finite y) (refusal.NotFinite (value.Amount (place_of not_finite y)))
    ∷ test (some not_finite m) (refusal.NotFinite (value.MassEntry (place_of not_finite m)))
    ∷ test (some not_finite rtol) (refusal.NotFinite (value.Rtol (place_of not_finite rtol)))
    ∷ test (some not_finite atol) (refusal.NotFinite (value.Atol (place_of not_finite atol)))
    ∷ []

abbrev pub number_rows : Settings → List Test
number_rows s =
    test (not_finite s.uround) (refusal.NotFinite value.Uround)
    ∷ test (not_finite s.safety_factor) (refusal.NotFinite value.SafetyFactor)
    ∷ test (not_finite s.scale_min) (refusal.NotFinite value.ScaleMin)
    ∷ test (not_finite s.scale_max) (refusal.NotFinite value.ScaleMax)
    ∷ test (bad_number s.max_step) (refusal.NotFinite value.MaxStep)
    ∷ test (bad_number s.min_step) (refusal.NotFinite value.MinStep)
    ∷ test (bad_number s.newton_tol) (refusal.NotFinite value.NewtonTol)
    ∷ test (bad_number s.first_step) (refusal.NotFinite value.FirstStep)
    ∷ []

-- ---- rows 4 to 8: settings out of range (radau.rs:136-187; the upper ends of 4 and 8 are ours)

abbrev pub range_rows : Settings → List Test
range_rows s =
    -- [radau.rs:136-143]
    test (outside 1 1_000_000 s.max_steps) refusal.MaxSteps
    -- [radau.rs:144-153]
    ∷ test (le s.uround «1e-35» || le «1·0» s.uround) refusal.Uround
    -- [radau.rs:154-163]
    ∷ test (le s.safety_factor «1e-4» || le «1·0» s.safety_factor) refusal.SafetyFactor
    -- [radau.rs:169-174]
    ∷ test (le s.scale_min «0·0» || not (lt s.scale_min s.scale_max)) refusal.Scales
    -- [radau.rs:180-187]
    ∷ test (outside 1 16 s.newton_maxiter) refusal.NewtonMaxiter
    ∷ []

-- ---- row 9: an rtol <= 0 or an atol < 0

abbrev pub not_above : Float → Bool
not_above x = le x «0·0»

abbrev pub below : Float → Bool
below x = lt x «0·0»

abbrev pub tolerance_rows : List Float → List Float → List Test
tolerance_rows rtol atol =
    test (some not_above rtol) (refusal.Tolerance (value.Rtol (place_of not_above rtol)))
    ∷ test (some below atol) (refusal.Tolerance (value.Atol (place_of below atol)))
    ∷ []

-- ---- rows 10 to 12

-- sums are exact: whole numbers without overflow
unfoldable pub partition_fails : ℕ → Option ℕ → Option ℕ → Option ℕ → Bool
-- [radau.rs:226-234]
partition_fails n None two three = ltb n (or_none two + or_none three)
-- [radau.rs:238-248]
partition_fails n (Some one) two three = not (eqb (one + or_none two + or_none three) n)

-- h is 0 only where first_step is: 1e-6 isn't, and the direction is 1 or -1 [radau.rs:258-263]
unfoldable pub given_zero : Option Float → Bool
given_zero None = false
given_zero (Some v) = eq v «0·0»

unfoldable pub given_below : Option Float → Bool
given_below None = false
given_below (Some v) = lt v «0·0»

-- the step ceiling [radau.rs:176-177]
abbrev pub ceiling_of : Settings → Float → Float → Float
ceiling_of s x0 xend = or_else s.max_step (abs_of (xend ⊖ x0))

-- the smallest step [radau.rs:178]
abbrev pub floor_of : Settings → Float
floor_of s = or_else s.min_step «0·0»

abbrev pub step_rows : Settings → ℕ → Float → Float → List Test
step_rows s n x0 xend =
    test (partition_fails n s.nind1 s.nind2 s.nind3) refusal.Partition
    ∷ test (given_zero s.first_step) refusal.FirstStep
    ∷ test (given_below s.max_step) refusal.MaxStep
    ∷ test (lt (ceiling_of s x0 xend) (floor_of s)) refusal.MinStep
    ∷ []

-- ---- the whole table

-- rows 3 to 12, by what is given
abbrev pub value_rows : Settings → ℕ → Float → Float → List Float → List Float → List Float → List Float → List Test
value_rows s n x0 xend y m rtol atol =
    end_rows x0 xend
    ++ (list_rows y m rtol atol
    ++ (number_rows s ++ (range_rows s ++ (tolerance_rows rtol atol ++ step_rows s n x0 xend))))

abbrev pub opening_rows : Opening → List Test
opening_rows o =
    size_rows o.n o.memory
    ++ value_rows o.settings o.n o.x0 o.xend o.memory.amounts.y
    (mass_given o.settings.mass o.memory.given.mass) (rtol_given o.tolerances o.memory.given.rtol)
    (atol_given o.tolerances o.memory.given.atol)

-- one verdict after another: a refusal stands, and what passes leaves it to the next
unfoldable pub next_of : Verdict → Verdict → Verdict
next_of (Ok tt) v = v
next_of (Err r) v = Err r
