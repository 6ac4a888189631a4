-- Lent parts keep their lengths: what a loop over turns says of the 19 parts that a turn may write.
use mathlib.Core.Path.{refl, ◌∙◌}
use Rattle.words.proofs.Loops.{Long}
use Rattle.state.specs.Memory.{Memory}

pub record Lengths (m₀ m : Memory) : Type 0 where
  pub y : Long m₀.amounts.y m.amounts.y
  pub f0 : Long m₀.amounts.f0 m.amounts.f0
  pub scal : Long m₀.amounts.scal m.amounts.scal
  pub cont : Long m₀.amounts.cont m.amounts.cont
  pub z1 : Long m₀.newton.z1 m.newton.z1
  pub z2 : Long m₀.newton.z2 m.newton.z2
  pub z3 : Long m₀.newton.z3 m.newton.z3
  pub f1 : Long m₀.newton.f1 m.newton.f1
  pub f2 : Long m₀.newton.f2 m.newton.f2
  pub f3 : Long m₀.newton.f3 m.newton.f3
  pub jac : Long m₀.given.jac m.given.jac
  pub e1 : Long m₀.factors.e1 m.factors.e1
  pub e2r : Long m₀.factors.e2r m.factors.e2r
  pub e2i : Long m₀.factors.e2i m.factors.e2i
  pub ip1 : Long m₀.factors.ip1 m.factors.ip1
  pub ip2 : Long m₀.factors.ip2 m.factors.ip2
  pub y_perturbed : Long m₀.differences.y_perturbed m.differences.y_perturbed
  pub f_perturbed : Long m₀.differences.f_perturbed m.differences.f_perturbed
  pub f_origin : Long m₀.differences.f_origin m.differences.f_origin

pub same : (m : Memory) → Lengths m m
same m =
    record {
      y = refl;
      f0 = refl;
      scal = refl;
      cont = refl;
      z1 = refl;
      z2 = refl;
      z3 = refl;
      f1 = refl;
      f2 = refl;
      f3 = refl;
      jac = refl;
      e1 = refl;
      e2r = refl;
      e2i = refl;
      ip1 = refl;
      ip2 = refl;
      y_perturbed = refl;
      f_perturbed = refl;
      f_origin = refl;
    }

pub after : {m₀ m w : Memory} → Lengths m w → Lengths m₀ m → Lengths m₀ w
after k l =
    record {
      y = k.y ∙ l.y;
      f0 = k.f0 ∙ l.f0;
      scal = k.scal ∙ l.scal;
      cont = k.cont ∙ l.cont;
      z1 = k.z1 ∙ l.z1;
      z2 = k.z2 ∙ l.z2;
      z3 = k.z3 ∙ l.z3;
      f1 = k.f1 ∙ l.f1;
      f2 = k.f2 ∙ l.f2;
      f3 = k.f3 ∙ l.f3;
      jac = k.jac ∙ l.jac;
      e1 = k.e1 ∙ l.e1;
      e2r = k.e2r ∙ l.e2r;
      e2i = k.e2i ∙ l.e2i;
      ip1 = k.ip1 ∙ l.ip1;
      ip2 = k.ip2 ∙ l.ip2;
      y_perturbed = k.y_perturbed ∙ l.y_perturbed;
      f_perturbed = k.f_perturbed ∙ l.f_perturbed;
      f_origin = k.f_origin ∙ l.f_origin;
    }
