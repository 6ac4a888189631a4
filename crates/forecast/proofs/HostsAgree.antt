-- The code's host, which reads a model's reactions from the reader's memory, does what the model's host does, wherever
-- the talk of the model's opening stands; so both have one talk.
use Prim.Native.Nat.{ℕ, ◌≤◌, ◌<◌}
use mathlib.Core.Bool.{Bool, true, false, true≢false}
use mathlib.Core.Path.{◌≡◌, refl, sym, ap, ◌∙◌, subst}
use mathlib.Core.List.{List, [], ◌∷◌, map}
use native.Mathlib.Omega.{arith}
use borrow.Author.Tests.{ltb-true, ltb-false}
use lib.Dec.{ltb}
use lib.ListN.{length, length-take}
use lib.Ieee.{Float}
use Rattle.state.specs.declared.run.Run.{Run}
use Rattle.state.specs.declared.talk.Place.{Place}
use Rattle.state.specs.declared.talk.Place.TheVariants as place
use Rattle.state.specs.declared.talk.Request.{Request}
use Rattle.state.specs.declared.talk.Request.TheVariants as request
use Rattle.state.specs.Memory.{Memory}
use Rattle.opening.specs.Opening.{opening_outcome, open_of}
use Rattle.solve_blocks.specs.Needs.{MemoryLong}
use Rattle.history.specs.Host.{part_at}
use Rattle.history.specs.History.{Point, point}
use Rattle.account.specs.Journal.{Fair}
use Rattle.account.proofs.Sound.{Held}
use Rattle.solve_whole.specs.Talk.{Talk, talk, action_at, offered, talk_by, FairTalk, TalksTo}
use Rattle.solve_whole.proofs.Talks.{talks-alike}
use Rattle.solve_whole.proofs.HostsAlike.{hosts-alike, still-ended}
use Rattle.model.specs.Model as model
use Rattle.model.specs.Model.{derivative_of}
use Rattle.model.specs.Answers.{Derivation}
use Rattle.model.proofs.ReactionLaws.{derivative-length}
use Rattle.model.proofs.TestLaws.{Fit}
use Rattle.model.proofs.Theorems.{accepted, length-kept}
use Rattle.sheet.specs.Sheet as sheet
use Rattle.sheet.specs.Sheet.{Valid}
use Rattle.model_run.specs.Host.{source_at, action, derived_at, answered_by}
use Rattle.model_run.specs.Budget.{Answering}
use Rattle.forecast.specs.Forecast.{opening_for, reaction_for, done, host_of}
use Rattle.forecast.proofs.Turns.{always, done_at, point_at, held_at}
use Rattle.model_run.proofs.HostFair.{host-fair}
use Rattle.forecast.specs.Account.{most_of}
use Rattle.forecast.proofs.BudgetLasts.{Reaches, starts, reaches}
use Rattle.forecast.proofs.ModelRead.{rates_for, species_for, rates-enough}
use Rattle.forecast.proofs.ModelRead.{species-enough, species-fit, reactions-left}
use Rattle.std.specs.Prelude.{Ok}
use Rattle.state.specs.Talk.{call}

-- ---- what a derivative reads and writes has the length of the amounts

module _ (n : ℕ) (m : Memory) (long : MemoryLong n m) where
  first-long : length (source_at place.ContToZ1 m) ≡ n
  unfolding source_at
  first-long = omega (arith, length-take (length m.amounts.y) m.amounts.cont, long.y, long.cont)

  abbrev FullAt : Place → Type 0
  FullAt p = (length (source_at p m) ≡ n) × (length (part_at p m) ≡ n)

  -- what holds where both are n long, and where there are neither, holds at every place
  by_place : (X : Place → Type 0) → X place.Nowhere → ((p : Place) → FullAt p → X p) → (p : Place) → X p
  unfolding source_at part_at
  by_place X none full place.Nowhere = none
  by_place X none full place.YToF0 = full place.YToF0 (long.y, long.f0)
  by_place X none full place.ContToZ1 = full place.ContToZ1 (first-long, long.newton.z1)
  by_place X none full place.ContToZ2 = full place.ContToZ2 (first-long, long.newton.z2)
  by_place X none full place.ContToZ3 = full place.ContToZ3 (first-long, long.newton.z3)
  by_place X none full place.ContToF1 = full place.ContToF1 (first-long, long.newton.f1)
  by_place X none full place.YToFOrigin = full place.YToFOrigin (long.y, long.f_origin)
  by_place X none full place.YPerturbedToFPerturbed =
      full place.YPerturbedToFPerturbed (long.y_perturbed, long.f_perturbed)

empty-same : (a b : List Float) → length a ≡ 0 → length b ≡ 0 → a ≡ b
empty-same [] [] p q = refl
empty-same [] (x ∷ b) p q = absurd (let no : ⊥ = omega arith in no)
empty-same (x ∷ a) b p q = absurd (let no : ⊥ = omega arith in no)

-- ---- the two hosts

abbrev pub code_host : sheet.Model → Answering
code_host m = answered_by (length m.reactions) (rates_for m) (species_for m)

abbrev pub model_host : sheet.Model → Answering
model_host m = done (map reaction_for m.reactions)

module _ (m : sheet.Model) (valid : Valid m) (memory : Memory) (long : MemoryLong (length m.amounts) memory) where
  abbrev rs : List model.Reaction
  rs = map reaction_for m.reactions

  abbrev SameAt : Place → Type 0
  SameAt p =
      derived_at (length m.reactions) (rates_for m) (species_for m) p memory ≡ derivative_of (source_at p memory) rs

  derived-nowhere : SameAt place.Nowhere
  unfolding source_at part_at
  derived-nowhere =
      empty-same _ _ (length-kept (length m.reactions) [] (rates_for m) (species_for m) []) (derivative-length [] rs)

  derived-full : (p : Place)
      → (length (source_at p memory) ≡ length m.amounts) × (length (part_at p memory) ≡ length m.amounts) → SameAt p
  derived-full p full =
      let fits : Fit (length m.reactions) (length (source_at p memory)) (length (rates_for m)) (length (species_for m))
      (length (part_at p memory)) =
      record {
        target = full.1 ∙ sym full.0;
        enough-rates = omega (arith, rates-enough m valid, valid.reactions);
        enough-species = omega (arith, species-enough m valid, valid.reactions);
      } in
      ap (λ (d : Derivation). d.dy)
      (accepted (length m.reactions) (source_at p memory) (rates_for m) (species_for m) (part_at p memory) fits
      (λ k h. omega (arith, full.0, species-fit m valid k h)))
      ∙ ap (derivative_of (source_at p memory)) (reactions-left m valid)

  pub does-same : (q : Request) (p : Place) → code_host m q p memory ≡ model_host m q p memory
  unfolding answered_by done
  does-same (request.Derivative x) p =
      ap (λ (v : List Float). action (request.Derivative x) v memory)
      (by_place (length m.amounts) memory long SameAt derived-nowhere derived-full p)
  does-same (request.Jacobian x) p = refl
  does-same (request.Report xold x offered) p = refl
  does-same (request.Ended s) p = refl

-- ---- one talk

module _ (m : sheet.Model) (valid : Valid m) (r : Run) (q : Request) (p : Place) (memory : Memory)
    (opens : open_of (opening_for m) ≡ opening_outcome (Ok (call r q p)) memory) where
  abbrev start : Point
  start = point r q p memory

  pub reached : Reaches (code_host m) start (most_of (opening_for m))
  reached = reaches (length m.reactions) (rates_for m) (species_for m) (opening_for m) r q p memory opens

  abbrev end : ℕ
  end = length reached.world.exchanges

  fair-code : (i : ℕ) → i < end
      → Fair (point_at (code_host m) start i) (done_at (code_host m) (point_at (code_host m) start i))
  fair-code i l =
      let here = point_at (code_host m) start i in
      host-fair (length m.reactions) (rates_for m) (species_for m) here.run here.request here.place
      here.memory (reached.talks.before i l)

  held : (k : ℕ) → k ≤ end → Held (opening_for m) (point_at (code_host m) start k)
  held k l =
      held_at (code_host m) (opening_for m) start
      (starts (length m.reactions) (rates_for m) (species_for m) (opening_for m) r q p memory opens) k
      (λ i h. fair-code i (omega arith))

  pub same_at : (k : ℕ) → k < end
      → (let here = point_at (code_host m) start k in done_at (code_host m) here ≡ done_at (model_host m) here)
  same_at k l =
      let here = point_at (code_host m) start k in
      does-same m valid here.memory (held k (omega arith)).long here.request here.place

  alike : (k : ℕ) → k ≤ end
      → talk_by offered (always (code_host m)) k (talk start []) ≡ talk_by offered (host_of m) k (talk start [])
  alike k l = hosts-alike offered (always (code_host m)) (host_of m) k (talk start []) (λ j h. same_at j (omega arith))

  pub model-talks : TalksTo offered (host_of m) start reached.run reached.world
  model-talks =
      talks-alike offered offered (always (code_host m)) (host_of m) start
      reached.run reached.world alike reached.talks

  -- so the model's host is fair up to the end, and past it nothing is asked
  pub model-fair-before : (k : ℕ) → k < end
      → (let here = point_at (model_host m) start k in Fair here (done_at (model_host m) here))
  model-fair-before k l =
      subst (λ (t : Talk). Fair t.point (done_at (model_host m) t.point)) (alike k (omega arith))
      (subst (Fair (point_at (code_host m) start k)) (same_at k l) (fair-code k l))

  pub model-fair : FairTalk (host_of m) start
  model-fair k on = by (ltb k end) refl
    where
      by : (b : Bool) → ltb k end ≡ b
          → (let t = talk_by offered (host_of m) k (talk start []) in Fair t.point (action_at (host_of m) t))
      by true h = model-fair-before k (ltb-true k end h)
      by false h =
          absurd (true≢false
          (sym (still-ended (host_of m) start reached.run reached.world model-talks k (ltb-false k end h)) ∙ on))

  -- and the amounts keep their number
  pub amounts-kept : length reached.world.memory.amounts.y ≡ length m.amounts
  amounts-kept =
      subst (λ (t : Talk). length t.point.memory.amounts.y ≡ length m.amounts) reached.talks.talks
      (held end (omega arith)).long.y
