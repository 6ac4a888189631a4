-- The account of a run is sound at every point of its journal: at the opening, and past every advance that a fair host
-- makes. Each line of `Sound` is the work of one file before this one; here they are carried from advance to advance.
use Prim.Native.Nat.{ℕ, ◌+◌, ◌≤◌}
use mathlib.Core.Path.{◌≡◌, refl, sym, ap, ◌∙◌, subst}
use mathlib.Core.Bool.{false}
use mathlib.Core.List.{List, []}
use lib.Ieee.{Float}
use Rattle.state.specs.declared.settings.Settings.{Settings}
use Rattle.state.specs.declared.run.Run.{Run}
use Rattle.state.specs.declared.run.Fixed.{Fixed}
use Rattle.state.specs.declared.run.Notes.{Notes}
use Rattle.state.specs.declared.run.Shape.{Shape}
use Rattle.state.specs.Memory.{Memory, Given, Factors}
use Rattle.state.specs.Pivots.{stray}
use Rattle.opening.specs.Rows.{Opening, opening_rows, range_rows, verdict_of}
use Rattle.opening.specs.Opening.{shape_of}
use Rattle.opening.specs.Admission.{asking_at, answers_report, stride_below, admission_rows}
use Rattle.opening.proofs.RowLaws.{NoneHolds}
use Rattle.solve_blocks.specs.Events.{Event, Logged}
use Rattle.solve_blocks.specs.Advance.{Stepped, Called, received_of, passed_of}
use Rattle.solve_blocks.specs.Needs.{MemoryLong}
use Rattle.history.specs.Host.{Action}
use Rattle.history.specs.History.{Point}
use Rattle.account.specs.Journal.{Fair, Journal}
use Rattle.account.specs.Latest.{Latest, never, latest_events, kept_of}
use Rattle.account.specs.Strides.{step_events, strides_of, kept_strides, kept_notes}
use Rattle.solve_blocks.proofs.AdvanceWhole.{whole_of}
use Rattle.solve_blocks.proofs.Rules.{Position, replied, asked, Closed}
use Rattle.solve_blocks.proofs.EveryRule.{everyway}
use Rattle.account.proofs.Matches.{Matches, kind_of, kind_at, place_at, matches-kind}
use Rattle.account.proofs.Counted.{Counted, counted_start, counted-end, counted-closed}
use Rattle.account.proofs.Lengths.{advance-long}
use Rattle.account.proofs.PivotsKept.{called-given, advance-pivots}
use Rattle.account.proofs.Bounds.{Within, WithinAt, Ceilings, bounds-fit, bounds-closed, bounds-first}
use Rattle.account.proofs.SuccessLands.{Lands, Reports, lands-first, lands-next, lands-closed}
use Rattle.account.proofs.NoteLaws.{notes-closed, none_below}
use Rattle.account.proofs.Admits.{Bounded, admits}
use Rattle.account.proofs.FirstPoint.{Opens, range-passes, partition-sums, order-within, rounds-within}
use Rattle.account.proofs.Advance.{wrote-long, wrote-factors, handed, advanced}
use Rattle.state.specs.Talk.{passed_all}

-- ---- what is carried

-- the notes are those of some history; Tally.antt says of which
pub record Noted (r : Run) : Type 0 where
  pub latest : Latest
  pub steps : List Float
  pub are : r.notes ≡ kept_notes latest steps

-- the state and the memory stay those of the opening
pub record Held (o : Opening) (here : Point) : Type 0 where
  pub settings : here.run.settings ≡ o.settings
  pub shape : here.run.shape ≡ shape_of o.n o.settings
  pub xend : here.run.fixed.xend ≡ o.xend
  pub long : MemoryLong o.n here.memory
  pub ip1 : stray o.n here.memory.factors.ip1 ≡ false
  pub ip2 : stray o.n here.memory.factors.ip2 ≡ false
  pub within : WithinAt here.run.stage here.run
  pub noted : Noted here.run
  pub matches : Matches here.run.stage here.request here.place
  pub lands : Lands [] (replied here.run.stage here.run)
  pub reports : Reports here.request here.run

-- ---- an advance is admitted

module _ (o : Opening) (none : NoneHolds (opening_rows o)) where
  pub order_is : (here : Point) → Held o here → here.run.shape.n ≡ o.n
  unfolding shape_of
  order_is here h = ap (λ (s : Shape). s.n) h.shape

  -- whether it goes on or has ended, with memory that the host handed back
  pub bounded : (here : Point) (m : Memory) → Held o here → MemoryLong o.n m → m.factors ≡ here.memory.factors
      → Ceilings here.run → (asking_at here.run.stage).column ≤ here.run.shape.n
      → ((asking_at here.run.stage).ended ≡ false
      → (here.run.counts.total ≤ here.run.settings.max_steps) × (here.run.control.singular_count ≤ 5))
      → Bounded here.run m
  bounded here m h l same c column running =
      let n = sym (order_is here h) in
      record {
        low = subst (λ (k : ℕ). 1 ≤ k) n (order-within o none).0;
        high = subst (λ (k : ℕ). k ≤ 32) n (order-within o none).1;
        long = subst (λ (k : ℕ). MemoryLong k m) n l;
        range = ap (λ (s : Settings). verdict_of (range_rows s)) h.settings ∙ range-passes o none;
        partition = ap (λ (s : Shape). s.nind1 + s.nind2 + s.nind3) h.shape ∙ partition-sums o none ∙ n;
        total = λ e. (running e).0;
        rounds = c.rounds;
        column = column;
        failures = λ e. (running e).1;
        ip1 =
            ap (λ (g : Factors). stray here.run.shape.n g.ip1) same
            ∙ ap (λ (k : ℕ). stray k here.memory.factors.ip1) (sym n) ∙ h.ip1;
        ip2 =
            ap (λ (g : Factors). stray here.run.shape.n g.ip2) same
            ∙ ap (λ (k : ℕ). stray k here.memory.factors.ip2) (sym n) ∙ h.ip2;
        ode = c.ode;
        jac = c.jac;
        lu = c.lu;
        accepted = c.accepted;
        rejected = c.rejected;
        strides = ap (λ (k : Notes). stride_below k.strides) h.noted.are ∙ none_below h.noted.steps;
      }

  running-bounded : (here : Point) (m : Memory) → Held o here → (asking_at here.run.stage).ended ≡ false
      → MemoryLong o.n m → m.factors ≡ here.memory.factors → Bounded here.run m
  running-bounded here m h running l same =
      let f = bounds-fit here.run.stage here.run running h.within in
      bounded here m h l same f.ceilings f.column (λ e. (f.total, f.failures))

  -- ---- one advance

  module _ (j : Journal) (a : Action) (h : Held o j.point) (fair : Fair j.point a) where
    abbrev r : Run
    r = j.point.run

    abbrev l : Logged Called
    l = whole_of r a.reply (handed j a)

    pub in-kind : ((asking_at r.stage).ended ≡ false) × (answers_report a.reply ≡ (asking_at r.stage).report)
    in-kind = matches-kind h.matches a.reply fair.kind

    handed-long : MemoryLong o.n (handed j a)
    handed-long = wrote-long o.n j.point.request j.point.place a j.point.memory fair.kept h.long

    handed-factors : (handed j a).factors ≡ j.point.memory.factors
    handed-factors = wrote-factors j.point.request j.point.place a j.point.memory

    -- it is admitted, whatever the floats
    pub passes : verdict_of (admission_rows r a.reply (handed j a)) ≡ passed_all
    passes =
        admits r (handed j a) (running-bounded j.point (handed j a) h in-kind.0 handed-long handed-factors)
        a.reply in-kind.0 in-kind.1

    -- where the reply leads, and what the passes there work on: the mass and the Jacobian that the next request finds
    abbrev there : Stepped
    there = (received_of r a.reply (handed j a)).core

    abbrev pub kept : Given
    kept = l.core.memory.given

    given-same : kept ≡ there.memory.given
    given-same = called-given (passed_of there).core.step (passed_of there).core.memory

    -- so what every way keeps holds of it
    pub everywhere : {P : List Event → Position → Type 0} → Closed a.reply kept.mass kept.jac P
        → P [] (replied r.stage r) → P l.log (asked l.core.call)
    everywhere {P} c p =
        everyway r a.reply (handed j a) passes
        (subst (λ (k : Given). Closed a.reply k.mass k.jac P) given-same c) p

    pub counted : Counted r l.log l.core.call
    counted =
        counted-end r l.log l.core.call
        (everywhere (counted-closed r a.reply kept.mass kept.jac) (counted_start r))

    within-next : WithinAt l.core.call.run.stage l.core.call.run
    unfolding Within
    within-next = everywhere (bounds-closed a.reply kept.mass kept.jac) h.within

    noted-next : Noted l.core.call.run
    unfolding latest_events step_events
    noted-next =
        let was = h.noted in
        record {
          latest = latest_events l.core.memory l.log was.latest;
          steps = step_events l.log was.steps;
          are =
              everywhere
              (notes-closed l.core.memory was.latest was.steps a.reply kept.mass kept.jac)
              was.are;
        }

    lands-there : Lands l.log (asked l.core.call)
    lands-there = everywhere (lands-closed a.reply kept.mass kept.jac) h.lands

    reports-next : Reports l.core.call.request l.core.call.run
    unfolding Lands
    reports-next = lands-there.1

    pub held_next : Held o (advanced j a).point
    held_next =
        let c = counted in
        let n = order_is j.point h in
        let p = advance-pivots o.n r a.reply (handed j a) n handed-long
        (ap (λ (f : Factors). stray o.n f.ip1) handed-factors ∙ h.ip1)
        (ap (λ (f : Factors). stray o.n f.ip2) handed-factors ∙ h.ip2) in
        record {
          settings = c.settings ∙ h.settings;
          shape = c.shape ∙ h.shape;
          xend = ap (λ (f : Fixed). f.xend) c.fixed ∙ h.xend;
          long = advance-long o.n r a.reply (handed j a) n handed-long;
          ip1 = p.0;
          ip2 = p.1;
          within = within-next;
          noted = noted-next;
          matches = c.matches;
          lands = lands-next l.log l.core.call lands-there;
          reports = reports-next;
        }

-- ---- the opening

module _ (o : Opening) (here : Point) (p : Opens o here) where
  matches-first : Matches here.run.stage here.request here.place
  unfolding kind_of kind_at place_at
  matches-first = record { kind = rw (p.stage, p.request) refl; place = rw (p.stage, p.place) refl }

  reports-first : Reports here.request here.run
  unfolding Reports
  reports-first = rw p.request tt

  noted-first : Noted here.run
  unfolding kept_of strides_of kept_strides
  noted-first = record { latest = never; steps = []; are = p.notes }

  pub held_first : Held o here
  held_first =
      record {
        settings = p.settings;
        shape = p.shape;
        xend = p.xend;
        long = p.long;
        ip1 = p.ip1;
        ip2 = p.ip2;
        within = bounds-first here.run p.stage p.counts p.control
            (subst (λ (s : Settings). 1 ≤ s.newton_maxiter) (sym p.settings) (rounds-within o p.none).0)
            (subst (λ (k : ℕ). 1 ≤ k) (sym p.order) (order-within o p.none).0);
        noted = noted-first;
        matches = matches-first;
        lands = lands-first here.run p.stage p.control;
        reports = reports-first;
      }
