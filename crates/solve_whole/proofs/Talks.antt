-- `solve` and the advances of an accepted opening do the same, whatever the host:
--     solve-exactly-proof   `solve` returns with e and w exactly where the advances, each of a reply that is admitted,
--                           talk to them: the same calls, memory and result
--     solve-talks           so for any number of passes with which solve_of finishes
--     talk-solves           and it finishes, where k advances end the run, with six passes for each and six more
--     one_end               a talk has one end, so it always finishes with the same
--     solve-advances        the advances as they are offered, where the host's replies are admitted
use Prim.Native.Nat.{ℕ, zero, suc, ◌+◌, ◌*◌, ◌≤◌, ◌<◌}
use mathlib.Core.Bool.{Bool, true, false, true≢false}
use mathlib.Core.Path.{◌≡◌, refl, sym, ap, ◌∙◌, subst}
use mathlib.Core.Logic.{◌↔◌}
use mathlib.Core.List.{[], ◌∷◌}
use native.Mathlib.Omega.{arith}
use borrow.Author.Tests.{ltb-true, ltb-false}
use lib.Dec.{ltb}
use lib.ListN.{length}
use Rattle.words.specs.Loop.{loop, pick}
use Rattle.state.specs.declared.run.Run.{Run}
use Rattle.state.specs.declared.run.Stage.TheVariants as stage
use Rattle.state.specs.declared.talk.Place.{Place}
use Rattle.state.specs.declared.talk.Place.TheVariants as place
use Rattle.state.specs.declared.talk.Request.{Request}
use Rattle.state.specs.declared.talk.Request.TheVariants as request
use Rattle.state.specs.Memory.{Memory}
use Rattle.opening.specs.Rows.{Opening, opening_rows, verdict_of}
use Rattle.opening.specs.Opening.{OpeningOutcome, opening_outcome, open_of, by_verdict, accepted_of, first_run}
use Rattle.opening.specs.Opening.{shape_of}
use Rattle.opening.proofs.Theorems.{verdict-first}
use Rattle.opening.proofs.OpeningLaws.{within}
use Rattle.solve_blocks.specs.Matrices.{passes_of, pass_at}
use Rattle.solve_blocks.specs.Advance as advance
use Rattle.solve_blocks.specs.Advance.{advance_by, called_of}
use Rattle.history.specs.Host.{is_end, wrote}
use Rattle.history.specs.History.{Point, point, next_point}
use Rattle.solve_whole.specs.Talk.{exchange, Host, World, world, Talk, talk, action_at, Advance}
use Rattle.solve_whole.specs.Talk.{admitted, offered, advanced_by, talk_by, talk_of, Admits, TalksTo}
use Rattle.solve_whole.specs.Solve.{Result, finished, unfinished, solve_of, Returns}
use Rattle.solve_whole.proofs.RunSound.{Sound}
use Rattle.solve_whole.proofs.FollowsTalk.{Goes, Arrives}
use Rattle.solve_whole.proofs.Passes.{never}
use Rattle.solve_whole.proofs.SolveFollows.{solve-goes}
use Rattle.std.specs.Prelude.{Ok, Err}
use Rattle.state.specs.Talk.{Verdict, Opened, call}

-- ---- an accepted opening

-- it stands before its first derivative
unfoldable Fresh : Opened → Type 0
Fresh (Ok c) =
    Sound 0 c.run × (c.run.stage ≡ stage.FirstDerivative) × (c.request ≡ request.Derivative c.run.numbers.x)
    × (c.place ≡ place.YToF0)
Fresh (Err x) = Unit

fresh-by : (o : Opening) (v : Verdict) → verdict_of (opening_rows o) ≡ v → Fresh (by_verdict v o).answer
unfolding Fresh by_verdict accepted_of first_run shape_of
fresh-by o (Ok tt) e =
    let none = (verdict-first (opening_rows o)).1.0 e in
    let order : 1 ≤ o.n = (within 1 32 o.n (none 0 (omega arith))).0 in
    let rounds : 1
    ≤ o.settings.newton_maxiter = (within 1 16 o.settings.newton_maxiter (none 20 (omega arith))).0 in
    ((omega arith, omega arith, rounds, order), refl, refl, refl)
fresh-by o (Err x) e = tt

fresh : (o : Opening) → Fresh (open_of o).answer
unfolding open_of
fresh o = fresh-by o (verdict_of (opening_rows o)) refl

-- ---- advances that are admitted

-- are the ones that are offered
pub offered-same : (host : Host) (k : ℕ) (t : Talk) → ((j : ℕ) → j < k → Admits host (talk_by offered host j t))
    → talk_by offered host k t ≡ talk_of host k t
unfolding talk_by
offered-same host zero t admits = refl
offered-same host (suc k) t admits =
    let here = t.point in
    let a = action_at host t in
    let m = wrote here.request here.place a here.memory in
    let same : offered here.run a.reply m
    ≡ admitted here.run a.reply m =
    ap (λ (v : Verdict). (advance_by v here.run a.reply m).core) (admits 0 (omega arith)) in
    let es = exchange here.request here.place here.memory a ∷ t.exchanges in
    offered-same host k (advanced_by offered host t) (λ j l. admits (suc j) (omega (arith, l)))
    ∙ ap (λ (x : advance.AdvanceOutcome). talk_of host k (talk (next_point here x.answer x.memory) es)) same

-- ---- one end

clash : {A : Type 0} {b : Bool} → b ≡ true → b ≡ false → A
clash t f = absurd (true≢false (sym t ∙ f))

-- a result that is finished, after at most k calls of the host
pub record Finishes (R : Result) (k : ℕ) : Type 0 where
  pub run : Run
  pub world : World
  pub is : R ≡ finished run world
  pub calls : length world.exchanges ≤ k

module _ (advance : Advance) (host : Host) (start : Point) where
  abbrev pub EndedAt : ℕ → Bool → Type 0
  EndedAt k b = is_end (talk_by advance host k (talk start [])).point.request ≡ b

  pub first-end : (k l : ℕ) → EndedAt k true → ((j : ℕ) → j < l → EndedAt j false) → l ≤ k
  first-end k l ended before = ltb-false k l (never (ltb k l) (λ h. clash ended (before k (ltb-true k l h))))

  pub at-end : (e : Run) (w : World) → TalksTo advance host start e w → EndedAt (length w.exchanges) true
  unfolding is_end
  at-end e w a = ap (λ (t : Talk). is_end t.point.request) a.talks

  -- a talk has one end
  pub one_end : (e f : Run) (w v : World) → TalksTo advance host start e w
      → TalksTo advance host start f v → (e ≡ f) × (w ≡ v)
  one_end e f w v a b =
      let l : length w.exchanges ≤ length v.exchanges = first-end _ _ (at-end f v b) a.before in
      let g : length v.exchanges ≤ length w.exchanges = first-end _ _ (at-end e w a) b.before in
      let many : length w.exchanges ≡ length v.exchanges = omega (arith, l, g) in
      let same = sym a.talks ∙ ap (λ (k : ℕ). talk_by advance host k (talk start [])) many ∙ b.talks in
      (ap (λ (t : Talk). t.point.run) same, ap (λ (t : Talk). world t.point.memory t.exchanges) same)

-- what one kind of advances, with one host, talks to, so do another and its host that go the same way up to there
pub talks-alike : (f g : Advance) (host same-host : Host) (start : Point) (e : Run) (w : World)
    → ((k : ℕ) → k ≤ length w.exchanges → talk_by f host k (talk start []) ≡ talk_by g same-host k (talk start []))
    → TalksTo f host start e w → TalksTo g same-host start e w
talks-alike f g host same-host start e w same a =
    record {
      status = a.status;
      stage = a.stage;
      talks = sym (same (length w.exchanges) (omega arith)) ∙ a.talks;
      before = λ j l. ap (λ (t : Talk). is_end t.point.request) (sym (same j (omega (arith, l)))) ∙ a.before j l;
    }

finishes : (host : Host) (start : Point) (k : ℕ) → EndedAt admitted host start k true → (R : Result)
    → Goes host (k + 1) (talk start []) R → Finishes R k
unfolding Goes
finishes host start k ended (finished e w) g =
    record {
      run = e;
      world = w;
      is = refl;
      calls = let l : g.advances ≤ k = first-end admitted host start k g.advances ended g.before in
          omega (arith, l, g.count);
    }
finishes host start k ended unfinished g = clash ended (g k (omega arith))

-- ---- the theorem

module _ (host : Host) (o : Opening) (r : Run) (q : Request) (p : Place) (m : Memory)
    (accepted : open_of o ≡ opening_outcome (Ok (call r q p)) m) where
  abbrev start : Point
  start = point r q p m

  goes : (fuel d : ℕ) → 6 * d ≤ fuel → Goes host d (talk start []) (solve_of host fuel r m)
  unfolding Fresh passes_of pass_at loop pick called_of
  goes fuel d enough =
      let f : Fresh (Ok (call r q p)) = subst (λ (x : OpeningOutcome). Fresh x.answer) accepted (fresh o) in
      subst (λ (x : Request). Goes host d (talk (point r x p m) []) (solve_of host fuel r m)) (sym f.2)
      (subst
      (λ (x : Place). Goes host d (talk (point r (request.Derivative r.numbers.x) x m) []) (solve_of host fuel r m))
      (sym f.3)
      (solve-goes host fuel d r m f.0 f.1 enough))

  pub solve-talks : (fuel : ℕ) (e : Run) (w : World) → solve_of host fuel r m ≡ finished e w
      → TalksTo admitted host start e w
  unfolding Goes
  solve-talks fuel e w is =
      let t = talk start [] in
      let a : Arrives host t e w = subst (Goes host 0 t) is (goes fuel 0 (omega arith)) in
      let many : a.advances ≡ length w.exchanges = omega (arith, a.count) in
      record {
        status = a.status;
        stage = a.stage;
        talks =
            subst (λ (k : ℕ). talk_of host k t
            ≡ talk (point e (request.Ended a.status) place.Nowhere w.memory) w.exchanges)
            many a.is;
        before = λ j l. a.before j (omega (arith, many, l));
      }

  pub talk-solves : (k fuel : ℕ) → is_end (talk_of host k (talk start [])).point.request ≡ true → 6 * (k + 1) ≤ fuel
      → Finishes (solve_of host fuel r m) k
  talk-solves k fuel ended enough = finishes host start k ended (solve_of host fuel r m) (goes fuel (k + 1) enough)

  talk-returns : (e : Run) (w : World) → TalksTo admitted host start e w → Returns host r m e w
  talk-returns e w a =
      let k = length w.exchanges in
      let f = talk-solves k (6 * (k + 1)) (at-end admitted host start e w a) (omega arith) in
      let same =
      one_end admitted host start f.run e f.world w (solve-talks (6 * (k + 1)) f.run f.world f.is) a in
      record {
        passes = 6 * (k + 1);
        is = f.is ∙ ap (λ (x : Run). finished x f.world) same.0 ∙ ap (finished e) same.1;
      }

  pub solve-exactly-proof : (e : Run) (w : World) → Returns host r m e w ↔ TalksTo admitted host start e w
  solve-exactly-proof e w = (λ s. solve-talks s.passes e w s.is, talk-returns e w)

  pub solve-advances : (e : Run) (w : World) → Returns host r m e w
      → ((j : ℕ) → j < length w.exchanges → Admits host (talk_by offered host j (talk start [])))
      → TalksTo offered host start e w
  solve-advances e w s admits =
      talks-alike admitted offered host host start e w
      (λ k l. sym (offered-same host k (talk start []) (λ j h. admits j (omega (arith, h, l)))))
      (solve-talks s.passes e w s.is)
