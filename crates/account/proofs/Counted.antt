-- What one advance does to the counts is what its request and its events say, the rest of what a run is opened with
-- stays, and the request is that of the stage (`Counted`). Of the run at hand it takes one equation: the kept part of
-- the run is that of the first run with the events counted. Every rule of Rules.antt hands it on.
--     counted_start, counted-closed    it holds at the reply, and every rule keeps it
--     counted-end                      at the next request it says the six counts
use Prim.Native.Nat.{ℕ, zero, suc, ◌+◌}
use mathlib.Core.Path.{◌≡◌, refl, sym, ap, ◌∙◌}
use mathlib.Core.Bool.{Bool, not}
use mathlib.Core.List.{List, [], ◌∷◌, ◌++◌}
use native.Mathlib.Omega.{arith}
use lib.Ieee.{Float}
use Rattle.words.specs.Loop.{pick}
use Rattle.state.specs.declared.settings.Settings.{Settings}
use Rattle.state.specs.declared.run.Counts.{Counts}
use Rattle.state.specs.declared.run.Fixed.{Fixed}
use Rattle.state.specs.declared.run.Run.{Run}
use Rattle.state.specs.declared.run.Shape.{Shape}
use Rattle.state.specs.declared.run.Stage.{Stage}
use Rattle.state.specs.declared.talk.Place.{Place}
use Rattle.state.specs.declared.talk.Place.TheVariants as place
use Rattle.state.specs.declared.talk.Reply.{Reply}
use Rattle.state.specs.declared.talk.Request.{Request}
use Rattle.state.specs.declared.talk.Call.{Call}
use Rattle.solve_blocks.specs.Setters.{counts}
use Rattle.solve_blocks.specs.Events.{Event, real-singular, complex-singular, factored, over-limit, too_small, begun}
use Rattle.solve_blocks.specs.Events.{rounds-used, diverged, slow, error-solve, failed, accepted, aimed, not-aimed}
use Rattle.account.specs.Reading.{one, many, asks_at, is_ode, is_jac, means_of}
use Rattle.account.specs.Reading.{later, later_all, rejected_by, rejections}
use Rattle.solve_blocks.proofs.Rules.{Position, replied, reporting, arrived, main, matrices}
use Rattle.solve_blocks.proofs.Rules.{attempt, failing, newton, estimate, judging, asked, Closed}
use Rattle.account.proofs.Matches.{derivative, kind_of, kind_at, place_at, place_at-next, Matches}

-- from the run r, through the events es, to the call c
pub record Counted (r : Run) (es : List Event) (c : Call) : Type 0 where
  pub settings : c.run.settings ≡ r.settings
  pub shape : c.run.shape ≡ r.shape
  pub fixed : c.run.fixed ≡ r.fixed
  pub ode : c.run.counts.ode ≡ r.counts.ode + one (is_ode c.request c.place)
  pub jac : c.run.counts.jac ≡ r.counts.jac + one (is_jac c.request c.place)
  pub lu : c.run.counts.lu ≡ r.counts.lu + many (λ (e : Event). (means_of e).lu) es
  pub total : c.run.counts.total ≡ r.counts.total + many (λ (e : Event). (means_of e).total) es
  pub accepted : c.run.counts.accepted ≡ r.counts.accepted + many (λ (e : Event). (means_of e).accepted) es
  pub rejected : c.run.counts.rejected ≡ r.counts.rejected + rejections (not r.control.first) es
  -- the flag `first` says that no attempt was accepted yet
  pub first : not c.run.control.first ≡ later_all es (not r.control.first)
  pub matches : Matches c.run.stage c.request c.place

-- ---- the part of a run that only counts change

record Core : Type 0 where
  settings : Settings
  shape : Shape
  fixed : Fixed
  counts : Counts
  -- an attempt was accepted before
  after : Bool

abbrev core_of : Run → Core
core_of r =
    record {
      settings = r.settings;
      shape = r.shape;
      fixed = r.fixed;
      counts = r.counts;
      after = not r.control.first;
    }

abbrev with_counts : Core → Counts → Core
with_counts k c = record { settings = k.settings; shape = k.shape; fixed = k.fixed; counts = c; after = k.after }

-- So many more. The counts are told by these, and not by + and `many` as in `Counted`: at given events they compute,
-- which n + 0 does not.
more : ℕ → ℕ → ℕ
more zero n = n
more (suc k) n = more k (n + 1)

grow : {A : Type 0} → (A → ℕ) → List A → ℕ → ℕ
grow kind [] n = n
grow kind (a ∷ rest) n = grow kind rest (more (kind a) n)

reject : Bool → List Event → ℕ → ℕ
reject b [] n = n
reject b (e ∷ es) n = reject (later e b) es (more (rejected_by b e) n)

abbrev events : List Event → Core → Core
events es k =
    record {
      settings = k.settings;
      shape = k.shape;
      fixed = k.fixed;
      counts = counts
          k.counts.ode
          k.counts.jac
          (grow (λ (e : Event). (means_of e).lu) es k.counts.lu)
          (grow (λ (e : Event). (means_of e).total) es k.counts.total)
          (grow (λ (e : Event). (means_of e).accepted) es k.counts.accepted)
          (reject k.after es k.counts.rejected);
      after = later_all es k.after;
    }

abbrev requested : Request → Place → Core → Core
requested q p k =
    with_counts k (counts
    (more (one (is_ode q p)) k.counts.ode)
    (more (one (is_jac q p)) k.counts.jac)
    k.counts.lu
    k.counts.total
    k.counts.accepted
    k.counts.rejected)

more-plus : (k n : ℕ) → more k n ≡ n + k
unfolding more
more-plus zero n = omega arith
more-plus (suc k) n = omega (arith, more-plus k (n + 1))

grow-many : {A : Type 0} (kind : A → ℕ) (es : List A) (n : ℕ) → grow kind es n ≡ n + many kind es
unfolding grow many
grow-many kind [] n = omega arith
grow-many kind (e ∷ es) n = omega (arith, grow-many kind es (more (kind e) n), more-plus (kind e) n)

grow-append : {A : Type 0} (kind : A → ℕ) (es fs : List A) (n : ℕ)
    → grow kind (es ++ fs) n ≡ grow kind fs (grow kind es n)
unfolding grow
grow-append kind [] fs n = refl
grow-append kind (e ∷ es) fs n = grow-append kind es fs (more (kind e) n)

later-append : (es fs : List Event) (b : Bool) → later_all (es ++ fs) b ≡ later_all fs (later_all es b)
unfolding later_all
later-append [] fs b = refl
later-append (e ∷ es) fs b = later-append es fs (later e b)

reject-many : (es : List Event) (b : Bool) (n : ℕ) → reject b es n ≡ n + rejections b es
unfolding reject rejections
reject-many [] b n = omega arith
reject-many (e ∷ es) b n =
    omega (arith, reject-many es (later e b) (more (rejected_by b e) n), more-plus (rejected_by b e) n)

reject-append : (es fs : List Event) (b : Bool) (n : ℕ)
    → reject b (es ++ fs) n ≡ reject (later_all es b) fs (reject b es n)
unfolding reject later_all
reject-append [] fs b n = refl
reject-append (e ∷ es) fs b n = reject-append es fs (later e b) _

events-append : (es fs : List Event) (k : Core) → events fs (events es k) ≡ events (es ++ fs) k
events-append es fs k = simp (grow-append, later-append, reject-append)

-- ---- at every position

-- the next request is counted too
record Asked (r : Run) (es : List Event) (c : Call) : Type 0 where
  core : core_of c.run ≡ requested c.request c.place (events es (core_of r))
  matches : Matches c.run.stage c.request c.place

-- at a report: a modified point is asked for at the stage s, as a derivative into f0
record Again (s : Stage) : Type 0 where
  kind : derivative ≡ kind_at s
  place : place.YToF0 ≡ place_at s

-- wherever an advance stands that began at the run r
pub CountedAt : Run → List Event → Position → Type 0
CountedAt r es (replied s t) = core_of t ≡ events es (core_of r)
CountedAt r es (reporting s t) = (core_of t ≡ events es (core_of r)) × Again s
CountedAt r es (arrived t) = core_of t ≡ events es (core_of r)
CountedAt r es (main t) = core_of t ≡ events es (core_of r)
CountedAt r es (matrices t) = core_of t ≡ events es (core_of r)
CountedAt r es (attempt t) = core_of t ≡ events es (core_of r)
CountedAt r es (failing t) = core_of t ≡ events es (core_of r)
CountedAt r es (newton t) = core_of t ≡ events es (core_of r)
CountedAt r es (estimate t) = core_of t ≡ events es (core_of r)
CountedAt r es (judging t) = core_of t ≡ events es (core_of r)
CountedAt r es (asked c) = Asked r es c

-- a failed error test counts by the flag `first`
abbrev missing : Run → Bool → Core
missing r first =
    let c = r.counts in
    let n = more (one (not first)) c.rejected in
    with_counts (core_of r) (counts c.ode c.jac c.lu c.total c.accepted n)

module _ (r : Run) where
  -- events more
  grown : {k : Core} (es fs : List Event) → k ≡ events es (core_of r) → events fs k ≡ events (es ++ fs) (core_of r)
  grown es fs w = ap (events fs) w ∙ events-append es fs (core_of r)

  -- the next request
  asks : (es : List Event) (c : Call) {k : Core} → k ≡ events es (core_of r)
      → core_of c.run ≡ requested c.request c.place k → kind_of c.request ≡ kind_at c.run.stage
      → c.place ≡ place_at c.run.stage → CountedAt r es (asked c)
  unfolding CountedAt
  asks es c w here kind place = record {
    core = here ∙ ap (requested c.request c.place) w;
    matches = record { kind = kind; place = place };
  }

  pub counted_start : CountedAt r [] (replied r.stage r)
  unfolding CountedAt grow reject later_all
  counted_start = refl

  pub counted-end : (es : List Event) (c : Call) → CountedAt r es (asked c) → Counted r es c
  unfolding CountedAt
  counted-end es c w =
      record {
        settings = ap (λ (k : Core). k.settings) w.core;
        shape = ap (λ (k : Core). k.shape) w.core;
        fixed = ap (λ (k : Core). k.fixed) w.core;
        ode =
            ap (λ (k : Core). k.counts.ode) w.core
            ∙ more-plus (one (is_ode c.request c.place)) r.counts.ode;
        jac =
            ap (λ (k : Core). k.counts.jac) w.core
            ∙ more-plus (one (is_jac c.request c.place)) r.counts.jac;
        lu = ap (λ (k : Core). k.counts.lu) w.core ∙ grow-many (λ (e : Event). (means_of e).lu) es r.counts.lu;
        total =
            ap (λ (k : Core). k.counts.total) w.core
            ∙ grow-many (λ (e : Event). (means_of e).total) es r.counts.total;
        accepted =
            ap (λ (k : Core). k.counts.accepted) w.core
            ∙ grow-many (λ (e : Event). (means_of e).accepted) es r.counts.accepted;
        rejected =
            ap (λ (k : Core). k.counts.rejected) w.core
            ∙ reject-many es (not r.control.first) r.counts.rejected;
        first = ap (λ (k : Core). k.after) w.core;
        matches = w.matches;
      }

  pub counted-closed : (p : Reply) (mass jac : List Float) → Closed p mass jac (CountedAt r)
  unfolding CountedAt kind_of kind_at place_at is_ode is_jac asks_at grow reject rejected_by later later_all more
      means_of pick
  counted-closed p mass jac =
      record {
        first-filled = λ w. asks _ _ w refl refl refl;
        first-report = λ w. (w, record { kind = refl; place = refl });
        later-report = λ w. (w, record { kind = refl; place = refl });
        interrupted = λ _ w. asks _ _ w.0 refl refl refl;
        modified = λ x _ w. asks _ _ w.0 refl w.1.kind w.1.place;
        first-told = λ mark _ _ w. w.0;
        later-told = λ mark _ _ w. w.0;
        first-again = λ w. w;
        later-again = λ w. w;
        success = λ _ w. asks _ _ w refl refl refl;
        aims = λ {es} {r = t} hnew hhfac jac _ _ w. grown es (aimed t.numbers.x hnew ∷ []) w;
        onward = λ {es} {r = t} hnew h hhfac decomp jac _ _ w. grown es (not-aimed t.numbers.x hnew ∷ []) w;
        host-asked = λ _ _ w. asks _ _ w refl refl refl;
        origin-asked = λ _ _ w. asks _ _ w refl refl refl;
        jacobian-kept = λ _ w. w;
        host-filled = λ w. w;
        origin-filled = λ w. asks _ _ w refl refl refl;
        column-filled = λ c _ w. asks _ _ w refl refl (place_at-next (c + 1));
        columns-filled = λ c _ w. w;
        matrices-kept = λ _ w. w;
        real-stopped = λ {es} {r = t} f k _ _ w. grown es (real-singular t.numbers.h k ∷ []) w;
        complex-stopped = λ {es} {r = t} f k _ _ _ w. grown es (complex-singular t.numbers.h k ∷ []) w;
        decomposed = λ {es} {r = t} f _ _ _ w. grown es (factored t.numbers.h ∷ []) w;
        sixth = λ _ w. asks _ _ w refl refl refl;
        another = λ h hhfac _ w. w;
        limited = λ {es} _ w. asks _ _ (grown es (over-limit ∷ []) w) refl refl refl;
        shortened =
            λ {es} {r = t} _ _ w. asks _ _ (grown es (too_small t.numbers.h t.numbers.x ∷ []) w) refl refl refl;
        begins =
            λ {es} {r = t} faccon theta x _ _ w.
            asks _ _ (grown es (begun t.numbers.h t.numbers.x ∷ []) w) refl refl refl;
        first-stage = λ x w. asks _ _ w refl refl refl;
        second-stage = λ x w. asks _ _ w refl refl refl;
        not-near = λ theta thqold faccon dynold w. w;
        near = λ theta thqold faccon dynold w. w;
        diverges = λ {es} theta thqold faccon dynold _ w. grown es (diverged theta ∷ []) w;
        slow-rust = λ {es} theta thqold faccon dynold dyth h hhfac _ _ w. grown es (slow dyth ∷ []) w;
        slow-book = λ {es} theta thqold faccon dynold dyth h hhfac _ _ w. grown es (slow dyth ∷ []) w;
        used-up = λ {es} {r = t} _ w. grown es (rounds-used t.control.newt_iter ∷ []) w;
        another-round = λ x _ w. asks _ _ w refl refl refl;
        refines = λ {es} w. asks _ _ (grown es (error-solve ∷ []) w) refl refl refl;
        estimated = λ {es} w. grown es (error-solve ∷ []) w;
        refined = λ w. w;
        accepts =
            λ {es} {r = t} err hnew hacc erracc _ w.
            asks _ _ (grown es (accepted err t.numbers.h ∷ []) w) refl refl refl;
        fails-first = λ {es} {r = t} err hnew h hhfac _ on w. ap (missing t) (sym on) ∙ grown es (failed err ∷ []) w;
        fails-later = λ {es} {r = t} err hnew h hhfac _ off w. ap (missing t) (sym off) ∙ grown es (failed err ∷ []) w;
        accepted-filled = λ offered w. asks _ _ w refl refl refl;
      }
