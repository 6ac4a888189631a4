-- The coefficients of radau.rs (lines 816-846), each the double nearest to the Rust's decimal. specs/Exact.antt holds
-- nine of them to exact numbers; the program replay_scalar holds all of them to the Rust's text.
use Rattle.std.specs.Prelude.{ℕ, List, [], ◌∷◌, ltb, Option, Some, None, Float}
use Rattle.words.specs.Words.{double, ◌!◌}
use Rattle.words.specs.Loop.{pick}

-- 0.155_051_025_721_682_2 [radau.rs:816]
abbrev pub C1 : Float
C1 = double 0x3fc3_d8b6_4657_cae9

-- 0.644_948_974_278_317_8 [radau.rs:817]
abbrev pub C2 : Float
C2 = double 0x3fe4_a36c_0803_a6df

-- -0.844_948_974_278_317_8 [radau.rs:818]
abbrev pub C1M1 : Float
C1M1 = double 0xbfeb_09d2_6e6a_0d46

-- -0.355_051_025_721_682_2 [radau.rs:819]
abbrev pub C2M1 : Float
C2M1 = double 0xbfd6_b927_eff8_b241

-- -0.489_897_948_556_635_6 [radau.rs:820]
abbrev pub C1MC2 : Float
C1MC2 = double 0xbfdf_5a7c_ecdb_684a

-- -10.048_809_399_827_416 [radau.rs:821]
abbrev pub DD1 : Float
DD1 = double 0xc024_18fd_8baf_fe06

-- 1.382_142_733_160_749 [radau.rs:822]
abbrev pub DD2 : Float
DD2 = double 0x3ff6_1d41_b2d5_4584

-- -0.333_333_333_333_333_3 [radau.rs:823]
abbrev pub DD3 : Float
DD3 = double 0xbfd5_5555_5555_5555

-- 3.637_834_252_744_496 [radau.rs:824]
abbrev pub U1 : Float
U1 = double 0x400d_1a48_d83e_731d

-- 2.681_082_873_627_752_3 [radau.rs:825]
abbrev pub ALPH : Float
ALPH = double 0x4005_72db_93e0_c672

-- 3.050_430_199_247_410_5 [radau.rs:826]
abbrev pub BETA : Float
BETA = double 0x4008_6747_f2c3_fcb5

-- 9.123_239_487_089_295e-2 [radau.rs:829]
abbrev pub T00 : Float
T00 = double 0x3fb7_5b01_984e_65f7

-- -1.412_552_950_209_542e-1 [radau.rs:830]
abbrev pub T01 : Float
T01 = double 0xbfc2_14a7_4c40_3bf7

-- -3.002_919_410_514_742_4e-2 [radau.rs:831]
abbrev pub T02 : Float
T02 = double 0xbf9e_bff9_1a6d_688f

-- 2.417_179_327_071_07e-1 [radau.rs:832]
abbrev pub T10 : Float
T10 = double 0x3fce_f09c_fbea_b86e

-- 2.041_293_522_937_999_4e-1 [radau.rs:833]
abbrev pub T11 : Float
T11 = double 0x3fca_20e9_1e20_b551

-- 3.829_421_127_572_619e-1 [radau.rs:834]
abbrev pub T12 : Float
T12 = double 0x3fd8_821f_a2a3_6ded

-- 9.660_481_826_150_93e-1 [radau.rs:835]
abbrev pub T20 : Float
T20 = double 0x3fee_e9dd_e0d6_255b

-- 4.325_579_890_063_155 [radau.rs:838]
abbrev pub TI00 : Float
TI00 = double 0x4011_4d64_d090_39e2

-- 3.391_992_518_158_098_4e-1 [radau.rs:839]
abbrev pub TI01 : Float
TI01 = double 0x3fd5_b570_c758_19c1

-- 5.417_705_399_358_749e-1 [radau.rs:840]
abbrev pub TI02 : Float
TI02 = double 0x3fe1_562f_2bde_bf3d

-- -4.178_718_591_551_905 [radau.rs:841]
abbrev pub TI10 : Float
TI10 = double 0xc010_b702_01a7_9c47

-- -3.276_828_207_610_623_7e-1 [radau.rs:842]
abbrev pub TI11 : Float
TI11 = double 0xbfd4_f8c1_5da8_4e86

-- 4.766_235_545_005_504_4e-1 [radau.rs:843]
abbrev pub TI12 : Float
TI12 = double 0x3fde_8100_14c5_5221

-- -5.028_726_349_457_868e-1 [radau.rs:844]
abbrev pub TI20 : Float
TI20 = double 0xbfe0_1788_5a24_a7f2

-- 2.571_926_949_855_605 [radau.rs:845]
abbrev pub TI21 : Float
TI21 = double 0x4004_934e_6fca_a598

-- -5.960_392_048_282_249e-1 [radau.rs:846]
abbrev pub TI22 : Float
TI22 = double 0xbfe3_12c0_cf7b_dfd1

-- in the order of the text
abbrev pub coefficients : List Float
coefficients =
    C1 ∷ C2 ∷ C1M1 ∷ C2M1 ∷ C1MC2 ∷ DD1 ∷ DD2 ∷ DD3 ∷ U1
    ∷ ALPH ∷ BETA ∷ T00 ∷ T01 ∷ T02 ∷ T10 ∷ T11 ∷ T12 ∷ T20
    ∷ TI00 ∷ TI01 ∷ TI02 ∷ TI10 ∷ TI11 ∷ TI12 ∷ TI20 ∷ TI21 ∷ TI22
    ∷ []

-- what stands at place k of the table
unfoldable pub entry_of : ℕ → Option Float
entry_of k = pick (ltb k 27) (Some (coefficients ! k)) None
