-- The lent memory of a run: 22 parts under the Rust's names, grouped as the routines use them, and their lengths for
-- n amounts in every mode.
use Rattle.std.specs.Prelude.{ℕ, ◌*◌, Bool, ◌&&◌, List, eqb, length, replicate, Float}
use Rattle.words.specs.Constants.{«0·0»}

pub record Amounts : Type 0 where
  pub y : List Float
  pub f0 : List Float
  pub scal : List Float
  pub cont : List Float

pub record Newton : Type 0 where
  pub z1 : List Float
  pub z2 : List Float
  pub z3 : List Float
  pub f1 : List Float
  pub f2 : List Float
  pub f3 : List Float

pub record Given : Type 0 where
  pub rtol : List Float
  pub atol : List Float
  pub mass : List Float
  pub jac : List Float

pub record Factors : Type 0 where
  pub e1 : List Float
  pub e2r : List Float
  pub e2i : List Float
  pub ip1 : List ℕ
  pub ip2 : List ℕ

pub record Differences : Type 0 where
  pub y_perturbed : List Float
  pub f_perturbed : List Float
  pub f_origin : List Float

pub record Memory : Type 0 where
  pub amounts : Amounts
  pub newton : Newton
  pub given : Given
  pub factors : Factors
  pub differences : Differences

abbrev pub amounts : List Float → List Float → List Float → List Float → Amounts
amounts y f0 scal cont = record { y = y; f0 = f0; scal = scal; cont = cont }

abbrev pub newton : List Float → List Float → List Float → List Float → List Float → List Float → Newton
newton z1 z2 z3 f1 f2 f3 = record { z1 = z1; z2 = z2; z3 = z3; f1 = f1; f2 = f2; f3 = f3 }

abbrev pub given : List Float → List Float → List Float → List Float → Given
given rtol atol mass jac = record { rtol = rtol; atol = atol; mass = mass; jac = jac }

abbrev pub factors : List Float → List Float → List Float → List ℕ → List ℕ → Factors
factors e1 e2r e2i ip1 ip2 = record { e1 = e1; e2r = e2r; e2i = e2i; ip1 = ip1; ip2 = ip2 }

abbrev pub differences : List Float → List Float → List Float → Differences
differences yp fp fo = record { y_perturbed = yp; f_perturbed = fp; f_origin = fo }

abbrev pub memory : Amounts → Newton → Given → Factors → Differences → Memory
memory a z g f d = record { amounts = a; newton = z; given = g; factors = f; differences = d }

-- ---- lengths: n, 4 * n for the coefficients, n * n for matrices

unfoldable pub amounts_fit : ℕ → ℕ → ℕ → ℕ → ℕ → Bool
amounts_fit n y f0 scal cont = eqb y n && eqb f0 n && eqb scal n && eqb cont (4 * n)

unfoldable pub newton_fit : ℕ → ℕ → ℕ → ℕ → ℕ → ℕ → ℕ → Bool
newton_fit n z1 z2 z3 f1 f2 f3 = eqb z1 n && eqb z2 n && eqb z3 n && eqb f1 n && eqb f2 n && eqb f3 n

unfoldable pub given_fit : ℕ → ℕ → ℕ → ℕ → ℕ → Bool
given_fit n rtol atol mass jac = eqb rtol n && eqb atol n && eqb mass (n * n) && eqb jac (n * n)

unfoldable pub factors_fit : ℕ → ℕ → ℕ → ℕ → ℕ → ℕ → Bool
factors_fit n e1 e2r e2i ip1 ip2 = eqb e1 (n * n) && eqb e2r (n * n) && eqb e2i (n * n) && eqb ip1 n && eqb ip2 n

unfoldable pub differences_fit : ℕ → ℕ → ℕ → ℕ → Bool
differences_fit n yp fp fo = eqb yp n && eqb fp n && eqb fo n

abbrev pub lengths_fit : ℕ → Memory → Bool
lengths_fit n m =
    amounts_fit n (length m.amounts.y) (length m.amounts.f0)
    (length m.amounts.scal) (length m.amounts.cont)
    && newton_fit n (length m.newton.z1) (length m.newton.z2) (length m.newton.z3) (length m.newton.f1)
    (length m.newton.f2) (length m.newton.f3)
    && given_fit n (length m.given.rtol) (length m.given.atol) (length m.given.mass) (length m.given.jac)
    && factors_fit n (length m.factors.e1) (length m.factors.e2r) (length m.factors.e2i)
    (length m.factors.ip1) (length m.factors.ip2)
    && differences_fit n (length m.differences.y_perturbed) (length m.differences.f_perturbed)
    (length m.differences.f_origin)

-- ---- parts that are set to +0

unfoldable pub zeros : ℕ → List Float
zeros n = replicate n «0·0»

unfoldable pub noughts : ℕ → List ℕ
noughts n = replicate n 0
