-- What an admission that passes says of the run and the memory: everything that the private functions ask.
use Prim.Native.Nat.{ℕ, ◌+◌, ◌*◌, ◌≤◌}
use mathlib.Core.Path.{◌≡◌, refl, sym, ap, ◌∙◌}
use mathlib.Core.Bool.{Bool, true, false, not, ◌&&◌}
use native.Mathlib.Omega.{arith}
use borrow.Author.Tests.{ltb-false, eqb-true, not-false}
use Rattle.state.specs.declared.run.Run.{Run}
use Rattle.state.specs.declared.talk.Reply.{Reply}
use Rattle.state.specs.Memory.{Memory, lengths_fit}
use Rattle.opening.specs.Rows.{verdict_of}
use Rattle.opening.specs.Admission.{admission_rows, asking_at}
use Rattle.opening.proofs.Theorems.{verdict-first}
use Rattle.opening.proofs.OpeningLaws.{within, groups_of, amounts-long, newton-long}
use Rattle.opening.proofs.OpeningLaws.{given-long, factors-long, differences-long}
use Rattle.opening.proofs.AdmissionLaws.{product_small}
use Rattle.solve_blocks.specs.Needs.{Fit, StageFit, MemoryLong}
use Rattle.state.specs.Talk.{passed_all}

pub record Admitted (r : Run) (m : Memory) : Type 0 where
  pub fit : Fit 16 r.shape.n r
  pub stage : StageFit r.shape.n r
  pub long : MemoryLong r.shape.n m

-- the lengths
pub long_of : (n : ℕ) (m : Memory) → n ≤ 32 → lengths_fit n m ≡ true → MemoryLong n m
long_of n m small e =
    let g = groups_of n m.amounts m.newton m.given m.factors m.differences e in
    let a = amounts-long n _ _ _ _ g.amounts-fit in
    let z = newton-long n _ _ _ _ _ _ g.newton-fit in
    let h = given-long n _ _ _ _ g.given-fit in
    let f = factors-long n _ _ _ _ _ g.factors-fit in
    let d = differences-long n _ _ _ g.differences-fit in
    record {
      y = a.0;
      f0 = a.1;
      scal = a.2;
      cont = a.3;
      newton = record { z1 = z.0; z2 = z.1; z3 = z.2; f1 = z.3; f2 = z.4; f3 = z.5 };
      rtol = h.0;
      atol = h.1;
      mass = record { small = small; full = h.2 };
      jac = record { small = small; full = h.3 };
      factors = record {
        e1 = record { small = small; full = f.0 };
        e2r = record { small = small; full = f.1 };
        e2i = record { small = small; full = f.2 };
        ip1 = f.3;
        ip2 = f.4;
      };
      y_perturbed = d.0;
      f_perturbed = d.1;
      f_origin = d.2;
    }

not-both : (a b : Bool) → (a && not b) ≡ false → b ≡ false → a ≡ false
not-both true b e h = sym (ap not h) ∙ e
not-both false b e h = refl

pub admitted : (r : Run) (p : Reply) (m : Memory) → verdict_of (admission_rows r p m) ≡ passed_all → Admitted r m
admitted r p m e =
    let none = (verdict-first (admission_rows r p m)).1.0 e in
    let order = within 1 32 r.shape.n (none 0 (omega arith)) in
    let steps = within 1 1_000_000 r.settings.max_steps (none 2 (omega arith)) in
    let rounds = within 1 16 r.settings.newton_maxiter (none 6 (omega arith)) in
    let running : (asking_at r.stage).ended ≡ false = none 20 (omega arith) in
    let total = ltb-false r.settings.max_steps r.counts.total (not-both _ _ (none 8 (omega arith)) running) in
    let newt = ltb-false r.settings.newton_maxiter r.control.newt_iter (none 9 (omega arith)) in
    let column = ltb-false r.shape.n (asking_at r.stage).column (none 10 (omega arith)) in
    let failures = ltb-false 5 r.control.singular_count (not-both _ _ (none 11 (omega arith)) running) in
    let ode = ltb-false (2 + 3 * (r.settings.newton_maxiter + 1) * r.settings.max_steps)
    r.counts.ode (none 14 (omega arith)) in
    let jac = ltb-false (6 * (r.settings.max_steps + 1)) r.counts.jac (none 15 (omega arith)) in
    let lu = ltb-false (13 * r.settings.max_steps + 12) r.counts.lu (none 16 (omega arith)) in
    let accepted = ltb-false r.settings.max_steps r.counts.accepted (none 17 (omega arith)) in
    let rejected = ltb-false (2 * r.settings.max_steps) r.counts.rejected (none 18 (omega arith)) in
    let product = product_small r.settings.newton_maxiter r.settings.max_steps rounds.1 steps.1 in
    record {
      fit =
          record {
            order = refl;
            low = order.0;
            high = order.1;
            partition = eqb-true _ _ (not-false _ (none 7 (omega arith)));
            limit = rounds.1;
            rounds = omega (arith, newt, rounds);
            failures = failures;
            ode = omega (arith, ode, product);
            jac = omega (arith, jac, steps);
            lu = omega (arith, lu, steps);
            total = omega (arith, total, steps);
            accepted = omega (arith, accepted, steps);
            rejected = omega (arith, rejected, steps);
          };
      stage = record { column = column; rounds = omega (arith, newt, rounds) };
      long = long_of r.shape.n m order.1 (not-false _ (none 1 (omega arith)));
    }
