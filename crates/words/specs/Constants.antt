-- The numbers in the Rust's text and in 01, the method's coefficients aside. Each is named as it is written there,
-- with · for the point, which no name may hold, and is the double nearest to it (proofs/Theorems.antt).
use Rattle.std.specs.Prelude.{ℕ, ◌+◌, ◌-◌, ◌*◌, ◌^◌, Bool, ◌&&◌, List, [], ◌∷◌, T, leb, Float}
use Rattle.std.specs.Float.{binary64}
use Rattle.std.specs.Float.Ieee.{to_bits}
use Rattle.words.specs.Words.{double}
use Rattle.words.specs.Patterns.{units, units_in_one}

-- +0
abbrev pub «0·0» : Float
«0·0» = double 0

abbrev pub «1·0» : Float
«1·0» = double 0x3ff0_0000_0000_0000

abbrev pub «2·0» : Float
«2·0» = double 0x4000_0000_0000_0000

abbrev pub «3·0» : Float
«3·0» = double 0x4008_0000_0000_0000

abbrev pub «8·0» : Float
«8·0» = double 0x4020_0000_0000_0000

abbrev pub «10·0» : Float
«10·0» = double 0x4024_0000_0000_0000

abbrev pub «20·0» : Float
«20·0» = double 0x4034_0000_0000_0000

abbrev pub «1·2» : Float
«1·2» = double 0x3ff3_3333_3333_3333

abbrev pub «0·99» : Float
«0·99» = double 0x3fef_ae14_7ae1_47ae

abbrev pub «0·9» : Float
«0·9» = double 0x3fec_cccc_cccc_cccd

abbrev pub «0·8» : Float
«0·8» = double 0x3fe9_9999_9999_999a

abbrev pub «0·5» : Float
«0·5» = double 0x3fe0_0000_0000_0000

abbrev pub «0·2» : Float
«0·2» = double 0x3fc9_9999_9999_999a

abbrev pub «0·1» : Float
«0·1» = double 0x3fb9_9999_9999_999a

abbrev pub «0·03» : Float
«0·03» = double 0x3f9e_b851_eb85_1eb8

abbrev pub «1e-2» : Float
«1e-2» = double 0x3f84_7ae1_47ae_147b

abbrev pub «0·001» : Float
«0·001» = double 0x3f50_624d_d2f1_a9fc

abbrev pub «1e-4» : Float
«1e-4» = double 0x3f1a_36e2_eb1c_432d

abbrev pub «1·0e-6» : Float
«1·0e-6» = double 0x3eb0_c6f7_a0b5_ed8d

-- the root of the distance from 1 to the next double (ivp.rs:83)
abbrev pub «2^-26» : Float
«2^-26» = double 0x3e50_0000_0000_0000

abbrev pub «1e-10» : Float
«1e-10» = double 0x3ddb_7cdf_d9d7_bdbb

abbrev pub «2·3e-16» : Float
«2·3e-16» = double 0x3cb0_92c0_4a82_e8cc

abbrev pub «1e-35» : Float
«1e-35» = double 0x38aa_95a5_b7f8_7a0f

-- ---- which number each is

-- the double `value` stands for over / under
pub record Constant : Type 0 where
  pub value : Float
  pub over : ℕ
  pub under : ℕ

abbrev pub constant : Float → ℕ → ℕ → Constant
constant x p q = record { value = x; over = p; under = q }

abbrev pub constants : List Constant
constants =
    constant «0·0» 0 1
    ∷ constant «1·0» 1 1
    ∷ constant «2·0» 2 1
    ∷ constant «3·0» 3 1
    ∷ constant «8·0» 8 1
    ∷ constant «10·0» 10 1
    ∷ constant «20·0» 20 1
    ∷ constant «1·2» 12 10
    ∷ constant «0·99» 99 100
    ∷ constant «0·9» 9 10
    ∷ constant «0·8» 8 10
    ∷ constant «0·5» 5 10
    ∷ constant «0·2» 2 10
    ∷ constant «0·1» 1 10
    ∷ constant «0·03» 3 100
    ∷ constant «1e-2» 1 (10 ^ 2)
    ∷ constant «0·001» 1 1000
    ∷ constant «1e-4» 1 (10 ^ 4)
    ∷ constant «1·0e-6» 1 (10 ^ 6)
    ∷ constant «2^-26» 1 (2 ^ 26)
    ∷ constant «1e-10» 1 (10 ^ 10)
    ∷ constant «2·3e-16» 23 (10 ^ 17)
    ∷ constant «1e-35» 1 (10 ^ 35)
    ∷ []

-- ---- the rule, in whole numbers: a double is so many of the smallest one

-- p / q is no further from the double with the pattern b than half way to the next one below, and to the next above
pub record Nearest (b p q : ℕ) : Type 0 where
  pub lower : T (leb ((units (b - 1) + units b) * q) (2 * p * units_in_one))
  pub upper : T (leb (2 * p * units_in_one) ((units b + units (b + 1)) * q))

abbrev pub Right : Constant → Type 0
Right c = Nearest (to_bits binary64 c.value) c.over c.under

-- the one test that runs over the table
unfoldable pub nearest : ℕ → ℕ → ℕ → Bool
nearest b p q =
    leb ((units (b - 1) + units b) * q) (2 * p * units_in_one)
    && leb (2 * p * units_in_one) ((units b + units (b + 1)) * q)
