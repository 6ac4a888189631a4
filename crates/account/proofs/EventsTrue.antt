-- Every event that an advance writes is true. Each rule of Rules.antt that writes one has its test as a premise; what
-- else its truth asks for, the history before it, is carried along as `Where`, position by position.
--     true-closed    every rule writes true events, and keeps the run where the history says that it is
--     true-start     from a request that stands where the history says (`Asked`), past its reply
--     true-end       what is left of it at the next request
use Prim.Native.Nat.{ℕ, zero, suc, ◌+◌, ◌*◌, ◌≤◌, ◌<◌}
use mathlib.Core.Path.{◌≡◌, refl, sym, ap, ap₂, ◌∙◌, subst}
use mathlib.Core.Bool.{Bool, true, false, false≢true, true≢false}
use mathlib.Core.List.{List, [], ◌∷◌, ◌++◌}
use native.Mathlib.Omega.{arith}
use lib.ListN.{length-replicate}
use lib.Ieee.{Float, le}
use Rattle.words.specs.Words.{◌⊕◌, ◌⊖◌, ◌⊗◌, ◌⊘◌}
use Rattle.words.specs.Constants.{«0·0», «1·0», «0·1»}
use Rattle.words.specs.Loop.{pick}
use Rattle.scalar.specs.Order.{abs_of, signum_of}
use Rattle.matrix.specs.Complex.{parts}
use Rattle.matrix.specs.Elimination.{worked}
use Rattle.matrix.specs.Lu.{real}
use Rattle.matrix.specs.LuComplex.{complex_kind}
use Rattle.state.specs.declared.settings.Settings.{Settings}
use Rattle.state.specs.declared.run.Fixed.{Fixed}
use Rattle.state.specs.declared.run.Run.{Run}
use Rattle.state.specs.declared.run.Stage.{Stage}
use Rattle.state.specs.declared.run.Stage.TheVariants as stage
use Rattle.state.specs.declared.talk.Place.{Place}
use Rattle.state.specs.declared.talk.Reply.{Reply}
use Rattle.state.specs.declared.talk.Reply.TheVariants as reply
use Rattle.state.specs.declared.talk.Request.{Request}
use Rattle.state.specs.declared.talk.Request.TheVariants as request
use Rattle.state.specs.Memory.{Memory, Factors, zeros, noughts}
use Rattle.opening.specs.Rows.{Opening}
use Rattle.opening.specs.Admission.{asking_at}
use Rattle.state.specs.declared.talk.Call.{Call}
use Rattle.solve_blocks.specs.Entries.{Three, three}
use Rattle.solve_blocks.specs.Matrices.{built_of}
use Rattle.solve_blocks.specs.Needs.{FactorsLong}
use Rattle.solve_blocks.specs.Report.{ask_modified}
use Rattle.solve_blocks.specs.Events.{Event, real-singular, complex-singular, factored, over-limit, too_small, begun}
use Rattle.solve_blocks.specs.Events.{rounds-used, diverged, slow, error-solve, failed, accepted, aimed, not-aimed}
use Rattle.account.specs.Reading.{one, is_report, asks_at}
use Rattle.account.specs.Reading.{Progress, progress_event, progress_events, reported_at, progress_reply}
use Rattle.account.specs.Reading.{Standing, past_event, past_events, past_reply}
use Rattle.account.specs.Truth.{e1_at, e2_at, TooSmall, Reaches, Aims, True, AllTrue}
use Rattle.solve_blocks.proofs.Anew.{built-anew, stop-anew}
use Rattle.solve_blocks.proofs.Decompositions.{Long}
use Rattle.solve_blocks.proofs.Passes.{Each}
use Rattle.solve_blocks.proofs.Tries.{built, e1_stop, e2_stop}
use Rattle.account.proofs.Matches.{derivative, jacobian, report, kind_of, kind_at, place_at, Matches}
use Rattle.account.proofs.SuccessLands.{Reports}
use Rattle.solve_blocks.proofs.Rules as ways
use Rattle.solve_blocks.proofs.Rules.{Position, replied, reporting, arrived, main, matrices, attempt, failing, newton}
use Rattle.solve_blocks.proofs.Rules.{estimate, judging, asked, is_modified, Closed}

-- ---- what stays of an opening

-- what the tests of a run are made with; the records here go by what they read of a run, so that a rule that changes
-- something else hands them on as they are
pub record GroundsOf (o : Opening) (settings : Settings) (order : ℕ) (fixed : Fixed) : Type 0 where
  pub settings-are : settings ≡ o.settings
  pub order_is : order ≡ o.n
  pub xend-is : fixed.xend ≡ o.xend
  pub posneg-is : fixed.posneg ≡ signum_of (o.xend ⊖ o.x0)

abbrev pub Grounds : Opening → Run → Type 0
Grounds o r = GroundsOf o r.settings r.shape.n r.fixed

-- the run that an advance has at a position
abbrev pub run_at : Position → Run
run_at (replied s r) = r
run_at (reporting s r) = r
run_at (arrived r) = r
run_at (main r) = r
run_at (matrices r) = r
run_at (attempt r) = r
run_at (failing r) = r
run_at (newton r) = r
run_at (estimate r) = r
run_at (judging r) = r
run_at (asked c) = c.run

-- ---- where a run stands in its history

module _ (o : Opening) (st : Standing) (g : Progress) where
  -- before an attempt, or within it: at the point of the history, and with what is left as its step if it is aimed
  pub record ReadyAt (x h : Float) : Type 0 where
    pub point : x ≡ g.x
    pub aim : Aims o st g h

  -- within it, with so many rounds answered
  pub record IteratingAt (rounds : ℕ) (x h : Float) : Type 0 where
    pub ready : ReadyAt x h
    pub rounds-are : g.rounds ≡ rounds

  -- past its rounds
  pub record IteratedAt (x h : Float) : Type 0 where
    pub ready : ReadyAt x h
    pub some : 1 ≤ g.rounds

  abbrev pub Ready : Run → Type 0
  Ready r = ReadyAt r.numbers.x r.numbers.h

  abbrev pub Iterating : ℕ → Run → Type 0
  Iterating k r = IteratingAt k r.numbers.x r.numbers.h

  abbrev pub Iterated : Run → Type 0
  Iterated r = IteratedAt r.numbers.x r.numbers.h

  -- at an open request
  unfoldable pub AskedAt : Stage → Run → Type 0
  AskedAt stage.FirstDerivative r = st.aim ≡ false
  AskedAt stage.FirstReport r = st.aim ≡ false
  AskedAt stage.FirstDerivativeAgain r = (st.aim ≡ false) × (r.numbers.x ≡ g.x)
  AskedAt stage.Jacobian r = Ready r
  AskedAt (stage.Column c) r = Ready r
  AskedAt stage.Newton1 r = Iterating r.control.newt_iter r
  AskedAt stage.Newton2 r = Iterating (r.control.newt_iter + 1) r
  AskedAt stage.Newton3 r = Iterating (r.control.newt_iter + 1) r
  AskedAt stage.Refinement r = Iterated r
  AskedAt stage.Accepted r = Unit
  AskedAt stage.Report r = Unit
  AskedAt stage.DerivativeAgain r = r.numbers.x ≡ g.x
  AskedAt (stage.Ended s) r = Unit

  -- past the reply p to it
  unfoldable pub RepliedAt : Reply → Stage → Run → Type 0
  RepliedAt p stage.FirstDerivative r = st.aim ≡ false
  RepliedAt p stage.FirstReport r = (st.aim ≡ false) × (g.x ≡ reported_at r.numbers.x p)
  RepliedAt p stage.FirstDerivativeAgain r = (st.aim ≡ false) × (r.numbers.x ≡ g.x)
  RepliedAt p stage.Jacobian r = Ready r
  RepliedAt p (stage.Column c) r = Ready r
  RepliedAt p stage.Newton1 r = Iterating (r.control.newt_iter + 1) r
  RepliedAt p stage.Newton2 r = Iterating (r.control.newt_iter + 1) r
  RepliedAt p stage.Newton3 r = Iterating (r.control.newt_iter + 1) r
  RepliedAt p stage.Refinement r = Iterated r
  RepliedAt p stage.Accepted r = Unit
  RepliedAt p stage.Report r = g.x ≡ reported_at r.numbers.x p
  RepliedAt p stage.DerivativeAgain r = r.numbers.x ≡ g.x
  RepliedAt p (stage.Ended s) r = Unit

  unfoldable pub Where : Reply → Position → Type 0
  Where p (replied s r) = RepliedAt p s r
  Where p (reporting s r) =
      ((x : Float) → g.x ≡ x → AskedAt s (ask_modified s x r).run)
      × (g.x ≡ reported_at r.numbers.x p)
  Where p (arrived r) = r.numbers.x ≡ g.x
  Where p (main r) = Ready r
  Where p (matrices r) = Ready r
  Where p (attempt r) = Ready r
  Where p (failing r) = (r.numbers.x ≡ g.x) × (st.aim ≡ false)
  Where p (newton r) = Iterating r.control.newt_iter r
  Where p (estimate r) = Iterated r
  Where p (judging r) = Iterated r
  Where p (asked c) = AskedAt c.run.stage c.run

-- a reply that doesn't move the point leaves it
unmoved : (x : Float) (p : Reply) → is_modified p ≡ false → reported_at x p ≡ x
unfolding is_modified reported_at
unmoved x reply.Filled e = refl
unmoved x reply.Continue e = refl
unmoved x reply.Interrupt e = refl
unmoved x (reply.Modified v) e = absurd (true≢false e)
unmoved x (reply.Mark v) e = refl

-- ---- the matrices of a pass are those that the opening, the mass, the Jacobian and h make

module _ (o : Opening) (m : Memory) (r : Run) (f : Factors) (long : FactorsLong r.shape.n f) (g : Grounds o r) where
  abbrev room_of : ℕ → Three
  room_of n = three (zeros (n * n)) (zeros (n * n)) (zeros (n * n))

  abbrev made : Settings → ℕ → Three
  made s n = built_of s.mass n m.given.mass m.given.jac r.numbers.h (room_of n)

  anew : built r m.given.mass m.given.jac f ≡ made o.settings o.n
  unfolding zeros
  anew =
      let room : Each (Long (r.shape.n * r.shape.n)) (room_of r.shape.n) =
      (length-replicate _ _, length-replicate _ _, length-replicate _ _) in
      built-anew r.settings.mass r.shape.n m.given.mass m.given.jac r.numbers.h _ _
      (long.e1.full, long.e2r.full, long.e2i.full) room
      ∙ ap₂ made g.settings-are g.order_is

  e1-made : e1_stop r m.given.mass m.given.jac f ≡ e1_at o m r.numbers.h
  e1-made =
      stop-anew real r.shape.n _ f.ip1 (noughts r.shape.n)
      ∙ ap₂ (λ (n : ℕ) (b : Three). (worked real n b.one (noughts n)).stop) g.order_is anew

  e2-made : e2_stop r m.given.mass m.given.jac f ≡ e2_at o m r.numbers.h
  e2-made =
      stop-anew complex_kind r.shape.n _ f.ip2 (noughts r.shape.n)
      ∙ ap₂ (λ (n : ℕ) (b : Three). (worked complex_kind n (parts b.two b.three) (noughts n)).stop)
      g.order_is anew

-- ---- one block of events after another

past-append : (es fs : List Event) (st : Standing) → past_events (es ++ fs) st ≡ past_events fs (past_events es st)
unfolding past_events
past-append [] fs st = refl
past-append (e ∷ es) fs st = past-append es fs (past_event e st)

progress-append : (es fs : List Event) (g : Progress)
    → progress_events (es ++ fs) g ≡ progress_events fs (progress_events es g)
unfolding progress_events
progress-append [] fs g = refl
progress-append (e ∷ es) fs g = progress-append es fs (progress_event e g)

true-append : (o : Opening) (m : Memory) (st : Standing) (g : Progress) (es fs : List Event) → AllTrue o m st g es
    → AllTrue o m (past_events es st) (progress_events es g) fs → AllTrue o m st g (es ++ fs)
unfolding AllTrue past_events progress_events
true-append o m st g [] fs s t = t
true-append o m st g (e ∷ es) fs s t =
    (s.0, true-append o m (past_event e st) (progress_event e g) es fs s.1 t)

-- ---- the rules

module _ (o : Opening) (m : Memory) (p : Reply) (st : Standing) (g : Progress) where
  -- what has happened is true, and the run stands where the history says
  pub record TrueAt (es : List Event) (here : Position) : Type 0 where
    pub truth : AllTrue o m st g es
    pub grounds : Grounds o (run_at here)
    pub attempts : (run_at here).counts.total ≡ (progress_events es g).attempts
    pub stands : Where o (past_events es st) (progress_events es g) p here

  -- nothing happens
  goes : {es : List Event} {here : Position} (there : Position) → TrueAt es here → Grounds o (run_at there)
      → (run_at there).counts.total ≡ (progress_events es g).attempts
      → Where o (past_events es st) (progress_events es g) p there → TrueAt es there
  goes there w k t s = record { truth = w.truth; grounds = k; attempts = t; stands = s }

  -- an event
  notes : (es : List Event) {here : Position} (there : Position) (e : Event) → TrueAt es here → Grounds o (run_at there)
      → (run_at there).counts.total ≡ (progress_event e (progress_events es g)).attempts
      → True o m (past_events es st) (progress_events es g) e
      → Where o (past_event e (past_events es st)) (progress_event e (progress_events es g)) p there
      → TrueAt (es ++ (e ∷ [])) there
  unfolding AllTrue past_events progress_events
  notes es there e w k t so s =
      record {
        truth = true-append o m st g es (e ∷ []) w.truth (so, tt);
        grounds = k;
        attempts = t ∙ ap (λ (h : Progress). h.attempts) (sym (progress-append es (e ∷ []) g));
        stands =
            subst (λ (u : Standing). Where o u (progress_events (es ++ (e ∷ [])) g) p there)
            (sym (past-append es (e ∷ []) st))
            (subst (λ (h : Progress). Where o (past_event e (past_events es st)) h p there)
            (sym (progress-append es (e ∷ []) g)) s);
      }

  -- where the attempt isn't aimed, nothing is asked of its step
  no-aim : {b : Bool} {A : Type 0} → b ≡ false → b ≡ true → A
  no-aim off on = absurd (false≢true (sym off ∙ on))

  -- the tests are made with the numbers of the opening
  reaches-from : (r : Run) (hnew : Float) (b : Bool) → Grounds o r → ways.Reaches r hnew b
      → Reaches o r.numbers.x hnew b
  reaches-from r hnew b k e =
      ap₂ (λ (end sign : Float). le «0·0» ((r.numbers.x ⊕ hnew ⊘ «1·0» ⊖ end) ⊗ sign))
      (sym k.xend-is) (sym k.posneg-is) ∙ e

  small-from : (r : Run) (b : Bool) → Grounds o r → ways.TooSmall r b → TooSmall o r.numbers.h r.numbers.x b
  small-from r b k e =
      ap (λ (s : Settings). le («0·1» ⊗ abs_of r.numbers.h) (abs_of r.numbers.x ⊗ s.uround))
      (sym k.settings-are) ∙ e

  within : {es : List Event} {r : Run} → TrueAt es (attempt r) → r.counts.total + 1 ≤ r.settings.max_steps
      → (progress_events es g).attempts < o.settings.max_steps
  within w l = omega (arith, l, w.attempts, ap (λ (s : Settings). s.max_steps) w.grounds.settings-are)

  pub true-closed : Closed p m.given.mass m.given.jac TrueAt
  unfolding Where AskedAt RepliedAt reported_at True progress_event past_event
  true-closed =
      record {
        first-filled = λ w. goes _ w w.grounds w.attempts w.stands;
        first-report = λ w. goes _ w w.grounds w.attempts (λ x e. (w.stands.0, sym e), w.stands.1);
        later-report = λ w. goes _ w w.grounds w.attempts (λ x e. sym e, w.stands);
        interrupted = λ _ w. goes _ w w.grounds w.attempts tt;
        modified = λ {es} {s} {r} x e w.
            goes _ w w.grounds w.attempts (w.stands.0 x (w.stands.1 ∙ ap (reported_at r.numbers.x) e));
        first-told = λ {es} {r} mark _ e w.
            let here = w.stands.1 ∙ unmoved r.numbers.x p e in
            goes _ w w.grounds w.attempts
            (record { point = sym here; aim = no-aim (w.stands.0 r.numbers.x here).0 });
        later-told = λ {es} {r} mark _ e w.
            goes _ w w.grounds w.attempts (sym (w.stands.1 ∙ unmoved r.numbers.x p e));
        first-again =
            λ w. goes _ w w.grounds w.attempts (record { point = w.stands.1; aim = no-aim w.stands.0 });
        later-again = λ w. goes _ w w.grounds w.attempts w.stands;
        success = λ _ w. goes _ w w.grounds w.attempts tt;
        aims = λ {es} {r} hnew hhfac jac _ e w.
            notes es _ (aimed r.numbers.x hnew) w w.grounds w.attempts
            (w.stands, reaches-from r hnew true w.grounds e)
            (record { point = w.stands; aim = λ _. ap₂ ◌⊖◌ w.grounds.xend-is w.stands });
        onward = λ {es} {r} hnew h hhfac decomp jac _ e w.
            notes es _ (not-aimed r.numbers.x hnew) w w.grounds w.attempts
            (w.stands, reaches-from r hnew false w.grounds e)
            (record { point = w.stands; aim = no-aim refl });
        host-asked = λ _ _ w. goes _ w w.grounds w.attempts w.stands;
        origin-asked = λ _ _ w. goes _ w w.grounds w.attempts w.stands;
        jacobian-kept = λ _ w. goes _ w w.grounds w.attempts w.stands;
        host-filled = λ w. goes _ w w.grounds w.attempts w.stands;
        origin-filled = λ w. goes _ w w.grounds w.attempts w.stands;
        column-filled = λ c _ w. goes _ w w.grounds w.attempts w.stands;
        columns-filled = λ c _ w. goes _ w w.grounds w.attempts w.stands;
        matrices-kept = λ _ w. goes _ w w.grounds w.attempts w.stands;
        real-stopped = λ {es} {r} f k long e w.
            notes es _ (real-singular r.numbers.h k) w w.grounds w.attempts
            (sym (e1-made o m r f long w.grounds) ∙ e) (w.stands.point, refl);
        complex-stopped = λ {es} {r} f k long d e w.
            notes es _ (complex-singular r.numbers.h k) w w.grounds w.attempts
            (sym (e1-made o m r f long w.grounds) ∙ d, sym (e2-made o m r f long w.grounds) ∙ e)
            (w.stands.point, refl);
        decomposed = λ {es} {r} f long d e w.
            notes es _ (factored r.numbers.h) w w.grounds w.attempts
            (sym (e1-made o m r f long w.grounds) ∙ d, sym (e2-made o m r f long w.grounds) ∙ e) w.stands;
        sixth = λ _ w. goes _ w w.grounds w.attempts tt;
        another = λ h hhfac _ w.
            goes _ w w.grounds w.attempts (record { point = w.stands.0; aim = no-aim w.stands.1 });
        limited = λ {es} l w.
            notes es _ over-limit w w.grounds (ap (λ (k : ℕ). k + 1) w.attempts)
            (omega (arith, l, w.attempts, ap (λ (s : Settings). s.max_steps) w.grounds.settings-are)) tt;
        shortened = λ {es} {r} l e w.
            notes es _ (too_small r.numbers.h r.numbers.x) w w.grounds (ap (λ (k : ℕ). k + 1) w.attempts)
            (within w l, w.stands.point, small-from r true w.grounds e) tt;
        begins = λ {es} {r} faccon theta x l e w.
            notes es _ (begun r.numbers.h r.numbers.x) w w.grounds (ap (λ (k : ℕ). k + 1) w.attempts)
            (within w l, w.stands.point, small-from r false w.grounds e, w.stands.aim)
            (record { ready = record { point = w.stands.point; aim = w.stands.aim }; rounds-are = refl });
        first-stage = λ x w. goes _ w w.grounds w.attempts w.stands;
        second-stage = λ x w. goes _ w w.grounds w.attempts w.stands;
        not-near = λ theta thqold faccon dynold w. goes _ w w.grounds w.attempts w.stands;
        near = λ theta thqold faccon dynold w.
            goes _ w w.grounds w.attempts
            (record { ready = w.stands.ready; some = omega (arith, w.stands.rounds-are) });
        diverges = λ {es} theta thqold faccon dynold e w.
            notes es _ (diverged theta) w w.grounds w.attempts e (w.stands.ready.point, refl);
        slow-rust = λ {es} theta thqold faccon dynold dyth h hhfac _ e w.
            notes es _ (slow dyth) w w.grounds w.attempts e
            (record {
              ready = record { point = w.stands.ready.point; aim = no-aim refl };
              some = omega (arith, w.stands.rounds-are);
            });
        slow-book = λ {es} theta thqold faccon dynold dyth h hhfac _ e w.
            notes es _ (slow dyth) w w.grounds w.attempts e
            (record { point = w.stands.ready.point; aim = no-aim refl });
        used-up = λ {es} {r} l w.
            notes es _ (rounds-used r.control.newt_iter) w w.grounds w.attempts (
              sym w.stands.rounds-are,
              subst (λ (s : Settings). s.newton_maxiter ≤ r.control.newt_iter) w.grounds.settings-are l,
            )
            (w.stands.ready.point, refl);
        another-round = λ x _ w. goes _ w w.grounds w.attempts w.stands;
        refines = λ {es} w. notes es _ error-solve w w.grounds w.attempts w.stands.some w.stands;
        estimated = λ {es} w. notes es _ error-solve w w.grounds w.attempts w.stands.some w.stands;
        refined = λ w. goes _ w w.grounds w.attempts w.stands;
        accepts = λ {es} {r} err hnew hacc erracc e w.
            notes es _ (accepted err r.numbers.h) w w.grounds w.attempts (e, w.stands.ready.aim) tt;
        fails-first = λ {es} err hnew h hhfac e _ w.
            notes es _ (failed err) w w.grounds w.attempts e
            (record { point = w.stands.ready.point; aim = no-aim refl });
        fails-later = λ {es} err hnew h hhfac e _ w.
            notes es _ (failed err) w w.grounds w.attempts e
            (record { point = w.stands.ready.point; aim = no-aim refl });
        accepted-filled = λ offered w. goes _ w w.grounds w.attempts tt;
      }

  pub true-end : (es : List Event) (c : Call) → TrueAt es (asked c)
      → AskedAt o (past_events es st) (progress_events es g) c.run.stage c.run
  unfolding Where
  true-end es c w = w.stands

-- ---- past a reply

-- a request of a kind
by-derivative : (X : Request → Type 0) (q : Request) → kind_of q ≡ derivative
    → ((x : Float) → X (request.Derivative x)) → X q
unfolding kind_of
by-derivative X (request.Derivative x) e f = f x
by-derivative X (request.Jacobian x) e f = absurd (true≢false cc)
by-derivative X (request.Report xold x offered) e f = absurd (true≢false cc)
by-derivative X (request.Ended s) e f = absurd (true≢false cc)

by-jacobian : (X : Request → Type 0) (q : Request) → kind_of q ≡ jacobian → ((x : Float) → X (request.Jacobian x)) → X q
unfolding kind_of
by-jacobian X (request.Derivative x) e f = absurd (true≢false cc)
by-jacobian X (request.Jacobian x) e f = f x
by-jacobian X (request.Report xold x offered) e f = absurd (true≢false cc)
by-jacobian X (request.Ended s) e f = absurd (true≢false cc)

module _ (r : Run) where
  by-report : (X : Request → Type 0) (q : Request) → kind_of q ≡ report → Reports q r
      → ((xold x : Float) (offered : Bool) → x ≡ r.numbers.x → X (request.Report xold x offered)) → X q
  unfolding kind_of Reports
  by-report X (request.Derivative x) e h f = absurd (true≢false cc)
  by-report X (request.Jacobian x) e h f = absurd (true≢false cc)
  by-report X (request.Report xold x offered) e h f = f xold x offered h.1
  by-report X (request.Ended s) e h f = absurd (true≢false cc)

module _ (o : Opening) (p : Reply) (st : Standing) (g : Progress) (r : Run) (q : Request) (at : Place) where
  abbrev Past : Stage → Request → Type 0
  Past s q = RepliedAt o (past_reply q p st) (progress_reply q at p g) p s r

  ready : {h : Progress} → h.x ≡ g.x → Ready o st g r → Ready o st h r
  ready e w = record { point = w.point ∙ sym e; aim = λ on. w.aim on ∙ ap (λ (v : Float). o.xend ⊖ v) (sym e) }

  -- the first stage of a round is answered, or another request is
  counts-round : (s : Stage) → at ≡ place_at s → one (asks_at at).z1 ≡ one (asks_at (place_at s)).z1
  counts-round s e = ap (λ (v : Place). one (asks_at v).z1) e

  pub replied-from : (s : Stage) → Matches s q at → Reports q r
      → (asking_at s).ended ≡ false → AskedAt o st g s r → Past s q
  unfolding AskedAt RepliedAt progress_reply is_report pick kind_at place_at asks_at asking_at
  replied-from stage.FirstDerivative m _ _ h = by-derivative (Past stage.FirstDerivative) q m.kind (λ x. h)
  replied-from stage.FirstReport m w _ h =
      by-report r (Past stage.FirstReport) q m.kind w (λ xold x offered e. (h, ap (λ (v : Float). reported_at v p) e))
  replied-from stage.FirstDerivativeAgain m _ _ h = by-derivative (Past stage.FirstDerivativeAgain) q m.kind (λ x. h)
  replied-from stage.Jacobian m _ _ h = by-jacobian (Past stage.Jacobian) q m.kind (λ x. h)
  replied-from (stage.Column c) m _ _ h = by-derivative (Past (stage.Column c)) q m.kind (λ x. ready refl h)
  replied-from stage.Newton1 m _ _ h =
      by-derivative (Past stage.Newton1) q m.kind
      (λ x. record {
        ready = ready refl h.ready;
        rounds-are = omega (arith, h.rounds-are, counts-round stage.Newton1 m.place);
      })
  replied-from stage.Newton2 m _ _ h =
      by-derivative (Past stage.Newton2) q m.kind
      (λ x. record {
        ready = ready refl h.ready;
        rounds-are = omega (arith, h.rounds-are, counts-round stage.Newton2 m.place);
      })
  replied-from stage.Newton3 m _ _ h =
      by-derivative (Past stage.Newton3) q m.kind
      (λ x. record {
        ready = ready refl h.ready;
        rounds-are = omega (arith, h.rounds-are, counts-round stage.Newton3 m.place);
      })
  replied-from stage.Refinement m _ _ h =
      by-derivative (Past stage.Refinement) q m.kind
      (λ x. record { ready = ready refl h.ready; some = omega (arith, h.some) })
  replied-from stage.Accepted m _ _ h = tt
  replied-from stage.Report m w _ h =
      by-report r (Past stage.Report) q m.kind w (λ xold x offered e. ap (λ (v : Float). reported_at v p) e)
  replied-from stage.DerivativeAgain m _ _ h = by-derivative (Past stage.DerivativeAgain) q m.kind (λ x. h)
  replied-from (stage.Ended t) m _ e h = absurd (true≢false e)

-- ---- the rounds of the attempt at hand, where its first stage is asked

pub rounds-asked : (o : Opening) (st : Standing) (g : Progress) (s : Stage) (r : Run) → AskedAt o st g s r
    → (asks_at (place_at s)).z1 ≡ true → g.rounds ≡ r.control.newt_iter
unfolding AskedAt place_at asks_at
rounds-asked o st g stage.FirstDerivative r h e = absurd (true≢false (sym e))
rounds-asked o st g stage.FirstReport r h e = absurd (true≢false (sym e))
rounds-asked o st g stage.FirstDerivativeAgain r h e = absurd (true≢false (sym e))
rounds-asked o st g stage.Jacobian r h e = absurd (true≢false (sym e))
rounds-asked o st g (stage.Column zero) r h e = absurd (true≢false (sym e))
rounds-asked o st g (stage.Column (suc c)) r h e = absurd (true≢false (sym e))
rounds-asked o st g stage.Newton1 r h e = h.rounds-are
rounds-asked o st g stage.Newton2 r h e = absurd (true≢false (sym e))
rounds-asked o st g stage.Newton3 r h e = absurd (true≢false (sym e))
rounds-asked o st g stage.Refinement r h e = absurd (true≢false (sym e))
rounds-asked o st g stage.Accepted r h e = absurd (true≢false (sym e))
rounds-asked o st g stage.Report r h e = absurd (true≢false (sym e))
rounds-asked o st g stage.DerivativeAgain r h e = absurd (true≢false (sym e))
rounds-asked o st g (stage.Ended t) r h e = absurd (true≢false (sym e))
