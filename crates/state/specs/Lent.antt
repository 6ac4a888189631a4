-- What a group of lent slices holds, and that two states of it hold the same slices.
use Rattle.std.specs.Prelude.{◌≡◌, ℕ, Bool, List, Float, length}
use Rattle.state.specs.Memory as m
use Rattle.state.specs.declared.lent.Newton.{Newton}
use Rattle.state.specs.declared.lent.Factors.{Factors}
use Rattle.state.specs.declared.lent.Differences.{Differences}
use Rattle.state.specs.declared.lent.Work.{Work}

abbrev pub newton_of : Newton → m.Newton
newton_of a = m.newton a.z1.now a.z2.now a.z3.now a.f1.now a.f2.now a.f3.now

abbrev pub factors_of : Factors → m.Factors
factors_of a = m.factors a.e1.now a.e2r.now a.e2i.now a.ip1.now a.ip2.now

abbrev pub differences_of : Differences → m.Differences
differences_of a = m.differences a.y_perturbed.now a.f_perturbed.now a.f_origin.now

abbrev pub SameNewton : Newton → Newton → Type 0
SameNewton a b =
    (a.z1.ghost_name ≡ b.z1.ghost_name)
    × (a.z2.ghost_name ≡ b.z2.ghost_name)
    × (a.z3.ghost_name ≡ b.z3.ghost_name)
    × (a.f1.ghost_name ≡ b.f1.ghost_name)
    × (a.f2.ghost_name ≡ b.f2.ghost_name)
    × (a.f3.ghost_name ≡ b.f3.ghost_name)

abbrev pub SameFactors : Factors → Factors → Type 0
SameFactors a b =
    (a.e1.ghost_name ≡ b.e1.ghost_name)
    × (a.e2r.ghost_name ≡ b.e2r.ghost_name)
    × (a.e2i.ghost_name ≡ b.e2i.ghost_name)
    × (a.ip1.ghost_name ≡ b.ip1.ghost_name)
    × (a.ip2.ghost_name ≡ b.ip2.ghost_name)

abbrev pub SameDifferences : Differences → Differences → Type 0
SameDifferences a b =
    (a.y_perturbed.ghost_name ≡ b.y_perturbed.ghost_name)
    × (a.f_perturbed.ghost_name ≡ b.f_perturbed.ghost_name)
    × (a.f_origin.ghost_name ≡ b.f_origin.ghost_name)

-- ---- lengths, and parts set to +0

abbrev pub newton_fits : ℕ → m.Newton → Bool
newton_fits n z =
    m.newton_fit n (length z.z1) (length z.z2) (length z.z3) (length z.f1) (length z.f2) (length z.f3)

abbrev pub factors_fits : ℕ → m.Factors → Bool
factors_fits n f = m.factors_fit n (length f.e1) (length f.e2r) (length f.e2i) (length f.ip1) (length f.ip2)

abbrev pub differences_fits : ℕ → m.Differences → Bool
differences_fits n d =
    m.differences_fit n (length d.y_perturbed) (length d.f_perturbed) (length d.f_origin)

abbrev pub zero_newton : m.Newton → m.Newton
zero_newton z =
    m.newton (m.zeros (length z.z1)) (m.zeros (length z.z2)) (m.zeros (length z.z3))
    (m.zeros (length z.f1)) (m.zeros (length z.f2)) (m.zeros (length z.f3))

abbrev pub zero_factors : m.Factors → m.Factors
zero_factors f =
    m.factors (m.zeros (length f.e1)) (m.zeros (length f.e2r)) (m.zeros (length f.e2i))
    (m.noughts (length f.ip1)) (m.noughts (length f.ip2))

abbrev pub zero_differences : m.Differences → m.Differences
zero_differences d =
    m.differences (m.zeros (length d.y_perturbed)) (m.zeros (length d.f_perturbed)) (m.zeros (length d.f_origin))

-- ---- a group at the end of its clearing: the same slices, their parts set to +0

abbrev pub cleared_newton : Newton → Newton
cleared_newton a =
    record {
      z1 = record a.z1 { now = m.zeros (length a.z1.now) };
      z2 = record a.z2 { now = m.zeros (length a.z2.now) };
      z3 = record a.z3 { now = m.zeros (length a.z3.now) };
      f1 = record a.f1 { now = m.zeros (length a.f1.now) };
      f2 = record a.f2 { now = m.zeros (length a.f2.now) };
      f3 = record a.f3 { now = m.zeros (length a.f3.now) };
    }

abbrev pub cleared_factors : Factors → Factors
cleared_factors a =
    record {
      e1 = record a.e1 { now = m.zeros (length a.e1.now) };
      e2r = record a.e2r { now = m.zeros (length a.e2r.now) };
      e2i = record a.e2i { now = m.zeros (length a.e2i.now) };
      ip1 = record a.ip1 { now = m.noughts (length a.ip1.now) };
      ip2 = record a.ip2 { now = m.noughts (length a.ip2.now) };
    }

abbrev pub cleared_differences : Differences → Differences
cleared_differences a =
    record {
      y_perturbed = record a.y_perturbed { now = m.zeros (length a.y_perturbed.now) };
      f_perturbed = record a.f_perturbed { now = m.zeros (length a.f_perturbed.now) };
      f_origin = record a.f_origin { now = m.zeros (length a.f_origin.now) };
    }

-- ---- the 17 working parts as one, beside y, f0, rtol, atol and mass

abbrev pub memory_of : List Float → List Float → List Float → List Float → List Float → Work → m.Memory
memory_of y f0 rtol atol mass w =
    m.memory (m.amounts y f0 w.scal.now w.cont.now)
    (m.newton w.z1.now w.z2.now w.z3.now w.f1.now w.f2.now w.f3.now)
    (m.given rtol atol mass w.jac.now)
    (m.factors w.e1.now w.e2r.now w.e2i.now w.ip1.now w.ip2.now)
    (m.differences w.y_perturbed.now w.f_perturbed.now w.f_origin.now)

abbrev pub SameWork : Work → Work → Type 0
SameWork a b =
    (a.scal.ghost_name ≡ b.scal.ghost_name)
    × (a.cont.ghost_name ≡ b.cont.ghost_name)
    × (a.z1.ghost_name ≡ b.z1.ghost_name)
    × (a.z2.ghost_name ≡ b.z2.ghost_name)
    × (a.z3.ghost_name ≡ b.z3.ghost_name)
    × (a.f1.ghost_name ≡ b.f1.ghost_name)
    × (a.f2.ghost_name ≡ b.f2.ghost_name)
    × (a.f3.ghost_name ≡ b.f3.ghost_name)
    × (a.jac.ghost_name ≡ b.jac.ghost_name)
    × (a.e1.ghost_name ≡ b.e1.ghost_name)
    × (a.e2r.ghost_name ≡ b.e2r.ghost_name)
    × (a.e2i.ghost_name ≡ b.e2i.ghost_name)
    × (a.ip1.ghost_name ≡ b.ip1.ghost_name)
    × (a.ip2.ghost_name ≡ b.ip2.ghost_name)
    × (a.y_perturbed.ghost_name ≡ b.y_perturbed.ghost_name)
    × (a.f_perturbed.ghost_name ≡ b.f_perturbed.ghost_name)
    × (a.f_origin.ghost_name ≡ b.f_origin.ghost_name)

abbrev pub newton_in : Work → m.Newton
newton_in w = m.newton w.z1.now w.z2.now w.z3.now w.f1.now w.f2.now w.f3.now

abbrev pub factors_in : Work → m.Factors
factors_in w = m.factors w.e1.now w.e2r.now w.e2i.now w.ip1.now w.ip2.now

abbrev pub differences_in : Work → m.Differences
differences_in w = m.differences w.y_perturbed.now w.f_perturbed.now w.f_origin.now

abbrev pub SameLengths : Work → Work → Type 0
SameLengths a b =
    (length a.scal.now ≡ length b.scal.now)
    × (length a.cont.now ≡ length b.cont.now)
    × (length a.z1.now ≡ length b.z1.now)
    × (length a.z2.now ≡ length b.z2.now)
    × (length a.z3.now ≡ length b.z3.now)
    × (length a.f1.now ≡ length b.f1.now)
    × (length a.f2.now ≡ length b.f2.now)
    × (length a.f3.now ≡ length b.f3.now)
    × (length a.jac.now ≡ length b.jac.now)
    × (length a.e1.now ≡ length b.e1.now)
    × (length a.e2r.now ≡ length b.e2r.now)
    × (length a.e2i.now ≡ length b.e2i.now)
    × (length a.ip1.now ≡ length b.ip1.now)
    × (length a.ip2.now ≡ length b.ip2.now)
    × (length a.y_perturbed.now ≡ length b.y_perturbed.now)
    × (length a.f_perturbed.now ≡ length b.f_perturbed.now)
    × (length a.f_origin.now ≡ length b.f_origin.now)
