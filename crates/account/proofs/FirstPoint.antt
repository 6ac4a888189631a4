-- What an accepted opening leaves: its first run, with memory of the right lengths and pivots that are rows.
use Prim.Native.Nat.{ℕ, ◌+◌, ◌*◌, ◌≤◌}
use mathlib.Core.Path.{◌≡◌, refl, ap, subst}
use mathlib.Core.Bool.{false}
use mathlib.Core.List.{List}
use native.Mathlib.Omega.{arith}
use lib.ListN.{length-replicate}
use lib.Ieee.{Float}
use borrow.Author.Tests.{ltb-false, eqb-true, not-false}
use Rattle.words.specs.Words.{◌⊖◌}
use Rattle.words.specs.Grid.{Square}
use Rattle.scalar.specs.Order.{signum_of}
use Rattle.state.specs.declared.settings.Mass.{Mass}
use Rattle.state.specs.declared.settings.Mass.TheVariants as mass
use Rattle.state.specs.declared.settings.Rule.{Rule}
use Rattle.state.specs.declared.run.Run.{Run}
use Rattle.state.specs.declared.run.Tolerances.{Tolerances}
use Rattle.state.specs.declared.run.Tolerances.TheVariants.{Scalars, Lists}
use Rattle.state.specs.declared.run.Stage.TheVariants as stage
use Rattle.state.specs.declared.talk.Place.{Place}
use Rattle.state.specs.declared.talk.Place.TheVariants.{YToF0}
use Rattle.state.specs.declared.talk.Request.{Request}
use Rattle.state.specs.declared.talk.Request.TheVariants as request
use Rattle.state.specs.Settings.{or_none}
use Rattle.state.specs.Memory.{Memory, zeros, noughts}
use Rattle.state.specs.Pivots.{stray}
use Rattle.state.proofs.Pivots.{noughts-no-stray}
use Rattle.opening.specs.Rows.{Opening, opening_rows, range_rows, verdict_of, partition_fails}
use Rattle.opening.specs.Tolerances.{Columns, columns, Converted, converted_of, list_turn_at}
use Rattle.opening.specs.Opening.{first_counts, first_control, first_notes, first_run, fixed_of, shape_of}
use Rattle.opening.specs.Opening.{nind1_of, mass_kept, cleared_of, accepted_of, by_verdict, open_of}
use Rattle.opening.proofs.RowLaws.{NoneHolds}
use Rattle.opening.proofs.Theorems.{verdict-first}
use Rattle.opening.proofs.OpeningLaws.{within}
use Rattle.solve_blocks.specs.Needs.{MemoryLong}
use Rattle.solve_blocks.proofs.AdmittedLaws.{long_of}
use Rattle.history.specs.History.{Point}
use Rattle.account.specs.Journal.{Journal, Starts}
use Rattle.solve_blocks.proofs.Decompositions.{Long, loop-keeps, set_long}
use Rattle.account.proofs.Lengths.{zeros-long}
use Rattle.account.proofs.Admits.{over, no_row}
use Rattle.std.specs.Prelude.{None, Some, Option, Ok, Err}
use Rattle.state.specs.declared.talk.Call.{Call}
use Rattle.state.specs.Talk.{Verdict, call, passed_all}

-- ---- the memory

turn-long : (n i : ℕ) (c : Columns) → Long n c.rtols × Long n c.atols
    → Long n (list_turn_at i c).rtols × Long n (list_turn_at i c).atols
unfolding list_turn_at
turn-long n i c h = (set_long c.rtols i _ h.0, set_long c.atols i _ h.1)

tolerances-long : (r : Rule) (n : ℕ) (t : Tolerances) (rtols atols : List Float) → Long n rtols → Long n atols
    → Long n (converted_of r n t rtols atols).rtols × Long n (converted_of r n t rtols atols).atols
unfolding converted_of
tolerances-long r n (Scalars rtol atol) rtols atols a b = (zeros-long refl, zeros-long refl)
tolerances-long r n Lists rtols atols a b =
    loop-keeps (λ (c : Columns). Long n c.rtols × Long n c.atols) list_turn_at
    (turn-long n) 0 n (columns rtols atols) (a, b)

mass-long : (s : Mass) (k : ℕ) (m : List Float) → Long k m → Long k (mass_kept s k m)
unfolding mass_kept
mass-long mass.Identity k m e = zeros-long refl
mass-long mass.Full k m e = e

noughts-long : (n : ℕ) → Long n (noughts n)
unfolding noughts
noughts-long n = length-replicate n 0

cleared-long : (s : Mass) (n : ℕ) (c : Converted) (m : Memory) → n ≤ 32 → Long n c.rtols → Long n c.atols
    → MemoryLong n m → MemoryLong n (cleared_of s n c m)
unfolding cleared_of
cleared-long s n c m small rtols atols l =
    let square : Square n (zeros (n * n)) = record { small = small; full = zeros-long refl } in
    record {
      y = l.y;
      f0 = zeros-long refl;
      scal = zeros-long refl;
      cont = zeros-long refl;
      newton = record {
        z1 = zeros-long refl;
        z2 = zeros-long refl;
        z3 = zeros-long refl;
        f1 = zeros-long refl;
        f2 = zeros-long refl;
        f3 = zeros-long refl;
      };
      rtol = rtols;
      atol = atols;
      mass = record { small = small; full = mass-long s (n * n) m.given.mass l.mass.full };
      jac = square;
      factors = record { e1 = square; e2r = square; e2i = square; ip1 = noughts-long n; ip2 = noughts-long n };
      y_perturbed = zeros-long refl;
      f_perturbed = zeros-long refl;
      f_origin = zeros-long refl;
    }

-- ---- the partition

partition-whole : (n : ℕ) (one two three : Option ℕ) → partition_fails n one two three ≡ false
    → nind1_of n one (or_none two) (or_none three) + or_none two + or_none three ≡ n
unfolding partition_fails nind1_of
partition-whole n None two three e = omega (arith, ltb-false n (or_none two + or_none three) e)
partition-whole n (Some one) two three e = eqb-true _ _ (not-false _ e)

-- ---- accepted

accepted-only : (v : Verdict) (o : Opening) (r : Run) (q : Request) (p : Place)
    → (by_verdict v o).answer ≡ Ok (call r q p) → v ≡ passed_all
unfolding by_verdict
accepted-only (Ok tt) o r q p e = refl
accepted-only (Err x) o r q p e = let z : ◌≡◌ {A = ℕ} 0 1 = cc in absurd (omega arith)

-- the point at which an accepted opening leaves the talk
pub record Opens (o : Opening) (here : Point) : Type 0 where
  pub none : NoneHolds (opening_rows o)
  pub settings : here.run.settings ≡ o.settings
  pub shape : here.run.shape ≡ shape_of o.n o.settings
  pub order : here.run.shape.n ≡ o.n
  pub xend : here.run.fixed.xend ≡ o.xend
  pub posneg : here.run.fixed.posneg ≡ signum_of (o.xend ⊖ o.x0)
  pub counts : here.run.counts ≡ first_counts
  pub control : here.run.control ≡ first_control
  pub notes : here.run.notes ≡ first_notes
  pub stage : here.run.stage ≡ stage.FirstDerivative
  pub request : here.request ≡ request.Derivative o.x0
  pub place : here.place ≡ YToF0
  pub long : MemoryLong o.n here.memory
  pub ip1 : stray o.n here.memory.factors.ip1 ≡ false
  pub ip2 : stray o.n here.memory.factors.ip2 ≡ false

module _ (o : Opening) (none : NoneHolds (opening_rows o)) where
  pub order-within : (1 ≤ o.n) × (o.n ≤ 32)
  order-within = within 1 32 o.n (none 0 (omega arith))

  given-long : MemoryLong o.n o.memory
  given-long = long_of o.n o.memory order-within.1 (not-false _ (none 1 (omega arith)))

  pub limit-within : (1 ≤ o.settings.max_steps) × (o.settings.max_steps ≤ 1_000_000)
  limit-within = within 1 1_000_000 o.settings.max_steps (none 16 (omega arith))

  pub rounds-within : (1 ≤ o.settings.newton_maxiter) × (o.settings.newton_maxiter ≤ 16)
  rounds-within = within 1 16 o.settings.newton_maxiter (none 20 (omega arith))

  pub range-passes : verdict_of (range_rows o.settings) ≡ passed_all
  range-passes =
      over _ _ (none 16 (omega arith)) (over _ _ (none 17 (omega arith))
      (over _ _ (none 18 (omega arith)) (over _ _ (none 19 (omega arith)) (over _ _ (none 20 (omega arith)) no_row))))

  pub partition-sums : (let h = shape_of o.n o.settings in h.nind1 + h.nind2 + h.nind3) ≡ o.n
  unfolding shape_of
  partition-sums =
      partition-whole o.n o.settings.nind1 o.settings.nind2 o.settings.nind3 (none 23 (omega arith))

abbrev converted_by : Opening → Converted
converted_by o = converted_of o.settings.rule o.n o.tolerances o.memory.given.rtol o.memory.given.atol

module _ (o : Opening) (j : Journal) (none : NoneHolds (opening_rows o)) where
  opens_by : Starts (by_verdict passed_all o) j → Opens o j.point
  unfolding Starts by_verdict accepted_of first_run fixed_of shape_of cleared_of
  opens_by s =
      let first = first_run o.settings o.n o.x0 o.xend (converted_by o).conversion in
      let same : call j.point.run j.point.request j.point.place ≡ call first (request.Derivative o.x0) YToF0 = cc in
      let run : j.point.run ≡ first = ap (λ (c : Call). c.run) same in
      let asks : j.point.request ≡ request.Derivative o.x0 = ap (λ (c : Call). c.request) same in
      let into : j.point.place ≡ YToF0 = ap (λ (c : Call). c.place) same in
      let t = tolerances-long o.settings.rule o.n o.tolerances o.memory.given.rtol
      o.memory.given.atol (given-long o none).rtol (given-long o none).atol in
      let l = cleared-long o.settings.mass o.n (converted_by o) o.memory
      (order-within o none).1 t.0 t.1 (given-long o none) in
      record {
        none = none;
        settings = ap (λ (r : Run). r.settings) run;
        shape = ap (λ (r : Run). r.shape) run;
        order = ap (λ (r : Run). r.shape.n) run;
        xend = ap (λ (r : Run). r.fixed.xend) run;
        posneg = ap (λ (r : Run). r.fixed.posneg) run;
        counts = ap (λ (r : Run). r.counts) run;
        control = ap (λ (r : Run). r.control) run;
        notes = ap (λ (r : Run). r.notes) run;
        stage = ap (λ (r : Run). r.stage) run;
        request = asks;
        place = into;
        long = subst (MemoryLong o.n) s.1 l;
        ip1 = subst (λ (m : Memory). stray o.n m.factors.ip1 ≡ false) s.1 (noughts-no-stray o.n);
        ip2 = subst (λ (m : Memory). stray o.n m.factors.ip2 ≡ false) s.1 (noughts-no-stray o.n);
      }

pub opens : (o : Opening) (j : Journal) → Starts (open_of o) j → Opens o j.point
unfolding Starts open_of
opens o j s =
    let passed = accepted-only (verdict_of (opening_rows o)) o _ _ _ s.0 in
    let none = (verdict-first (opening_rows o)).1.0 passed in
    opens_by o j none (subst (λ (v : Verdict). Starts (by_verdict v o) j) passed s)
