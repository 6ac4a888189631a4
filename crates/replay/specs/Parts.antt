-- The parts that are lent of a memory, by what stands in them.
use Rattle.std.specs.Prelude.{ℕ, List, Float}

pub record Parts : Type 0 where
  pub y : List Float
  pub f0 : List Float
  pub scal : List Float
  pub cont : List Float
  pub z1 : List Float
  pub z2 : List Float
  pub z3 : List Float
  pub f1 : List Float
  pub f2 : List Float
  pub f3 : List Float
  pub rtol : List Float
  pub atol : List Float
  pub mass : List Float
  pub jac : List Float
  pub e1 : List Float
  pub e2r : List Float
  pub e2i : List Float
  pub ip1 : List ℕ
  pub ip2 : List ℕ
  pub y_perturbed : List Float
  pub f_perturbed : List Float
  pub f_origin : List Float
