-- The worked examples of document 01, 'Examples to prove together': what a definition gives, beside what the
-- document says. Both are lists of whole numbers, so that every example fits one table: a double is its bit
-- pattern, an answer 01's number (0 where nothing is refused), a pivot itself. Pivots start at 90, 91, .., so that
-- those which are not written show.
use Rattle.std.specs.Prelude.{ℕ, ◌≡◌, List, [], ◌∷◌, ◌++◌, Float}
use Rattle.std.specs.Float.{binary64}
use Rattle.std.specs.Float.Ieee.{to_bits}
use Rattle.words.specs.Words.{double}
use Rattle.scalar.specs.Root.{root_of}
use Rattle.scalar.specs.SquareRootComputed.{sqrt_of}
use Rattle.matrix.specs.Answers.{Decomposition, decomposed_number, Solution, solved_number}
use Rattle.matrix.specs.Complex.{Parts, parts}
use Rattle.matrix.specs.Lu.{lu_decomp_of}
use Rattle.matrix.specs.LuComplex.{lu_decomp_complex_of}
use Rattle.matrix.specs.Linear.{lin_solve_of}
use Rattle.matrix.specs.LinearComplex.{lin_solve_complex_of}
use Rattle.dense.specs.Answers.{Interpolation, interpolated_number}
use Rattle.dense.specs.Interpolate.{interpolate_of}
use Rattle.model.specs.Answers.{Derivation, derived_number}
use Rattle.model.specs.Derivative.{derived_of}

-- ---- the doubles that occur, by their patterns

abbrev pub none : ℕ
none = 0

abbrev pub half : ℕ
half = 0x3fe0_0000_0000_0000

abbrev pub one : ℕ
one = 0x3ff0_0000_0000_0000

abbrev pub two : ℕ
two = 0x4000_0000_0000_0000

abbrev pub three : ℕ
three = 0x4008_0000_0000_0000

abbrev pub four : ℕ
four = 0x4010_0000_0000_0000

abbrev pub eight : ℕ
eight = 0x4020_0000_0000_0000

abbrev pub minus_one : ℕ
minus_one = 0xbff0_0000_0000_0000

abbrev pub minus_three : ℕ
minus_three = 0xc008_0000_0000_0000

abbrev pub minus_quarter : ℕ
minus_quarter = 0xbfd0_0000_0000_0000

-- ---- outcomes as whole numbers

abbrev pub patterns : List Float → List ℕ
patterns [] = []
patterns (x ∷ xs) = to_bits binary64 x ∷ patterns xs

abbrev pub doubles : List ℕ → List Float
doubles [] = []
doubles (b ∷ bs) = double b ∷ doubles bs

abbrev pub decomposed : Decomposition (List Float) → List ℕ
decomposed d = decomposed_number d.answer ∷ (patterns d.a ++ d.ip)

abbrev pub solved : Solution (List Float) → List ℕ
solved s = solved_number s.answer ∷ patterns s.b

abbrev pub solved_complex : Solution Parts → List ℕ
solved_complex s = solved_number s.answer ∷ (patterns s.b.re ++ patterns s.b.im)

abbrev pub interpolated : Interpolation → List ℕ
interpolated i = interpolated_number i.answer ∷ patterns i.yi

abbrev pub derived : Derivation → List ℕ
derived d = derived_number d.answer ∷ patterns d.dy

-- ---- the table

pub record Example : Type 0 where
  pub place : ℕ
  pub given : List ℕ
  pub said : List ℕ

-- a column of the table
abbrev pub column : {A : Type 0} → (Example → A) → List Example → List A
column f [] = []
column f (e ∷ es) = f e ∷ column f es

-- the places that the document has, P1 to P12: no more, no fewer, in this order
abbrev pub places : List ℕ
places = 1 ∷ 2 ∷ 3 ∷ 4 ∷ 5 ∷ 6 ∷ 7 ∷ 8 ∷ 9 ∷ 10 ∷ 11 ∷ 12 ∷ []

-- what is said of the table: it has those places, and at each of them a definition gives what the document says
pub record Hold (table : List Example) : Type 0 where
  pub complete : column (λ (e : Example). e.place) table ≡ places
  pub right : column (λ (e : Example). e.given) table ≡ column (λ (e : Example). e.said) table

-- P6's decomposition, which P7 solves with
abbrev pub factored : Decomposition (List Float)
factored = lu_decomp_of 2 (doubles (one ∷ two ∷ four ∷ four ∷ [])) (90 ∷ 91 ∷ [])

-- P9's matrix i
abbrev pub factored_complex : Decomposition Parts
factored_complex = lu_decomp_complex_of 1 (parts (doubles (none ∷ [])) (doubles (one ∷ []))) (90 ∷ [])

abbrev pub examples : List Example
examples =
    -- P1 root of 2 is 3ff6a09e667f3bcd
    record { place = 1; given = patterns (sqrt_of (double two) ∷ []); said = 0x3ff6_a09e_667f_3bcd ∷ [] }
    -- P2 of -0 is -0
    ∷ record {
      place = 2;
      given = patterns (sqrt_of (double 0x8000_0000_0000_0000) ∷ []);
      said = 0x8000_0000_0000_0000 ∷ [];
    }
    -- P3 of 2^-1074 is 2^-537
    ∷ record { place = 3; given = patterns (sqrt_of (double 1) ∷ []); said = 0x1e60_0000_0000_0000 ∷ [] }
    -- P4 third root of 8 is 2
    ∷ record { place = 4; given = patterns (root_of 3 (double eight) ∷ []); said = two ∷ [] }
    -- P5 fourth root of 1 is 1
    ∷ record { place = 5; given = patterns (root_of 4 (double one) ∷ []); said = one ∷ [] }
    -- P6 matrix 1,2;4,4 becomes 4,4;-0.25,1 with first pivot 1
    ∷ record { place = 6; given = decomposed factored; said = 0 ∷ four ∷ four ∷ minus_quarter ∷ one ∷ 1 ∷ 91 ∷ [] }
    -- P7 it solves (3,8) to (1,1)
    ∷ record {
      place = 7;
      given = solved (lin_solve_of 2 factored.a (doubles (three ∷ eight ∷ [])) factored.ip);
      said = 0 ∷ one ∷ one ∷ [];
    }
    -- P8 1,1;1,1 gives 17, left 1,1;-1,0
    ∷ record {
      place = 8;
      given = decomposed (lu_decomp_of 2 (doubles (one ∷ one ∷ one ∷ one ∷ [])) (90 ∷ 91 ∷ []));
      said = 17 ∷ one ∷ one ∷ minus_one ∷ none ∷ 0 ∷ 91 ∷ [];
    }
    -- P9 i solves 1 to -i
    ∷ record {
      place = 9;
      given =
          solved_complex (lin_solve_complex_of 1 factored_complex.a
          (parts (doubles (one ∷ [])) (doubles (none ∷ []))) factored_complex.ip);
      said = 0 ∷ none ∷ minus_one ∷ [];
    }
    -- P10 coefficients 1,2,0,0, xold 0, h 2, at 1 give 0
    ∷ record {
      place = 10;
      given =
          interpolated (interpolate_of (double one) (doubles (one ∷ [])) (doubles (one ∷ two ∷ none ∷ none ∷ []))
          (double none) (double two));
      said = 0 ∷ none ∷ [];
    }
    -- P11 amounts 2,3, rate 0.5, 1+2 to 1: derivative 0,-3 (the target holds 8,8 before)
    ∷ record {
      place = 11;
      given =
          derived (derived_of 1 (doubles (two ∷ three ∷ [])) (doubles (half ∷ [])) (1 ∷ 2 ∷ 1 ∷ 0 ∷ [])
          (doubles (eight ∷ eight ∷ [])));
      said = 0 ∷ none ∷ minus_three ∷ [];
    }
    -- P12 n=1, matrix 0 gives 17
    ∷ record {
      place = 12;
      given = decomposed (lu_decomp_of 1 (doubles (none ∷ [])) (90 ∷ []));
      said = 17 ∷ none ∷ 90 ∷ [];
    }
    ∷ []
