-- The run keeps in its notes what its history says: the latest singular decomposition, which is true, and the strides,
-- none of which is negative.
--     latest-more, steps-more    one event more
--     one-more                   one accepted step more
--     notes-closed               every rule keeps the notes of the run in step with the events; only a singular
--                                decomposition and an acceptance change them
--     latest-true                the latest of a history whose events are true is of the matrices of its pass
--     smallest-told, ..          what the notes tell of the strides
--     none_below                 no stride of a history is negative, and so refusal 13 is never met for one
use Prim.Native.Nat.{zero, suc}
use mathlib.Core.Path.{◌≡◌, refl, sym, ap, ◌∙◌}
use mathlib.Core.Bool.{false}
use mathlib.Core.List.{List, [], ◌∷◌, ◌++◌}
use lib.Ieee.{Float, nan, inf, fin, is_nan, lt}
use Rattle.words.specs.Constants.{«0·0»}
use Rattle.words.specs.Loop.{pick}
use Rattle.words.proofs.Branch.{pick_all}
use Rattle.scalar.specs.Order.{abs_of, max_of, min_of}
use Rattle.scalar.proofs.Tests.{negative, below-zero}
use Rattle.state.specs.declared.run.Notes.{Notes}
use Rattle.state.specs.declared.talk.Reply.{Reply}
use Rattle.state.specs.Memory.{Memory}
use Rattle.state.specs.Numbers.{smallest_stride, largest_stride}
use Rattle.opening.specs.Rows.{Opening}
use Rattle.opening.specs.Admission.{stride_below}
use Rattle.solve_blocks.specs.Events.{Event, real-singular, complex-singular, factored, over-limit, too_small, begun}
use Rattle.solve_blocks.specs.Events.{rounds-used, diverged, slow, error-solve, failed, accepted, aimed, not-aimed}
use Rattle.solve_blocks.specs.Setters.{set_latest, set_strides}
use Rattle.solve_blocks.specs.Judge.{with_stride}
use Rattle.account.specs.Journal.{Turn}
use Rattle.account.specs.Reading.{Progress, progress_event, progress_reply, progress_at}
use Rattle.account.specs.Reading.{Standing, past_event, past_reply, standing_at}
use Rattle.account.specs.Truth.{True, AllTrue, TrueIn}
use Rattle.account.specs.Latest.{Latest, latest_event, latest_events, latest_in}
use Rattle.account.specs.Latest.{kept_of, OfItsPass}
use Rattle.account.specs.Strides.{step_event, step_events, strides_of, best_with, best_of, kept_strides, kept_notes}
use Rattle.account.proofs.EventsTrue.{run_at}
use Rattle.solve_blocks.proofs.Rules.{Position, Closed}
use Rattle.std.specs.Prelude.{Some, Option}
use Rattle.state.specs.declared.run.Strides.{Strides}
use Rattle.state.specs.declared.run.Singular.TheVariants.{Real, Complex}

-- ---- the run keeps them

latest-more : (m : Memory) (l : Latest) (es : List Event) (e : Event)
    → latest_events m (es ++ (e ∷ [])) l ≡ latest_event m e (latest_events m es l)
unfolding latest_events
latest-more m l [] e = refl
latest-more m l (f ∷ es) e = latest-more m (latest_event m f l) es e

steps-more : (hs : List Float) (es : List Event) (e : Event)
    → step_events (es ++ (e ∷ [])) hs ≡ step_event e (step_events es hs)
unfolding step_events
steps-more hs [] e = refl
steps-more hs (f ∷ es) e = steps-more (step_event f hs) es e

-- min and max pass over a NaN
min-nan : (a : Float) → min_of a nan ≡ a
unfolding min_of is_nan lt pick
min-nan nan = refl
min-nan (inf s) = refl
min-nan (fin s m e) = refl

max-nan : (a : Float) → max_of a nan ≡ a
unfolding max_of is_nan lt pick
max-nan nan = refl
max-nan (inf s) = refl
max-nan (fin s m e) = refl

-- one stride more, unless it is a NaN
stride-more : (h : Float) (rest : List Float)
    → with_stride (abs_of h) (kept_strides rest) ≡ kept_strides (pick (is_nan h) rest (abs_of h ∷ rest))
unfolding with_stride kept_strides best_with is_nan abs_of pick
stride-more nan [] = refl
stride-more nan (a ∷ rest) = rw (min-nan (best_with min_of a rest), max-nan (best_with max_of a rest)) refl
stride-more (inf s) [] = refl
stride-more (inf s) (a ∷ rest) = refl
stride-more (fin s m e) [] = refl
stride-more (fin s m e) (a ∷ rest) = refl

one-more : (h : Float) (hs : List Float)
    → with_stride (abs_of h) (kept_strides (strides_of hs)) ≡ kept_strides (strides_of (h ∷ hs))
unfolding strides_of
one-more h hs = stride-more h (strides_of hs)

-- an acceptance
strode-is : {n : Notes} (l : Latest) (h : Float) (hs : List Float) → n ≡ kept_notes l hs
    → set_strides (with_stride (abs_of h) n.strides) n ≡ kept_notes l (h ∷ hs)
strode-is l h hs w =
    ap (λ (k : Notes). set_strides (with_stride (abs_of h) k.strides) k) w
    ∙ ap (λ (s : Option Strides). record { singular = kept_of l; strides = s }) (one-more h hs)

module _ (m : Memory) (l : Latest) (hs : List Float) where
  -- the notes past the events es of an advance that was begun with the latest l and the steps hs
  abbrev past : List Event → Notes
  past es = kept_notes (latest_events m es l) (step_events es hs)

  abbrev pub Keeps : List Event → Position → Type 0
  Keeps es q = (run_at q).notes ≡ past es

  -- an event past which the run keeps n
  notes : {n : Notes} (es : List Event) (e : Event)
      → n ≡ kept_notes (latest_event m e (latest_events m es l)) (step_event e (step_events es hs))
      → n ≡ past (es ++ (e ∷ []))
  notes es e w =
      w ∙ sym (ap (λ (k : Latest). kept_notes k (step_events (es ++ (e ∷ [])) hs)) (latest-more m l es e)
      ∙ ap (kept_notes (latest_event m e (latest_events m es l))) (steps-more hs es e))

  pub notes-closed : (p : Reply) (mass jac : List Float) → Closed p mass jac Keeps
  unfolding latest_event step_event kept_of
  notes-closed p mass jac =
      record {
        first-filled = λ w. w;
        first-report = λ w. w;
        later-report = λ w. w;
        interrupted = λ _ w. w;
        modified = λ x _ w. w;
        first-told = λ mark _ _ w. w;
        later-told = λ mark _ _ w. w;
        first-again = λ w. w;
        later-again = λ w. w;
        success = λ _ w. w;
        aims = λ {es} {r} hnew hhfac jac _ _ w. notes es (aimed r.numbers.x hnew) w;
        onward = λ {es} {r} hnew h hhfac decomp jac _ _ w. notes es (not-aimed r.numbers.x hnew) w;
        host-asked = λ _ _ w. w;
        origin-asked = λ _ _ w. w;
        jacobian-kept = λ _ w. w;
        host-filled = λ w. w;
        origin-filled = λ w. w;
        column-filled = λ c _ w. w;
        columns-filled = λ c _ w. w;
        matrices-kept = λ _ w. w;
        real-stopped =
            λ {es} {r} f k _ _ w. notes es (real-singular r.numbers.h k) (ap (set_latest (Some (Real k))) w);
        complex-stopped = λ {es} {r} f k _ _ _ w.
            notes es (complex-singular r.numbers.h k) (ap (set_latest (Some (Complex k))) w);
        decomposed = λ {es} {r} f _ _ _ w. notes es (factored r.numbers.h) w;
        sixth = λ _ w. w;
        another = λ h hhfac _ w. w;
        limited = λ {es} {r} _ w. notes es over-limit w;
        shortened = λ {es} {r} _ _ w. notes es (too_small r.numbers.h r.numbers.x) w;
        begins = λ {es} {r} faccon theta x _ _ w. notes es (begun r.numbers.h r.numbers.x) w;
        first-stage = λ x w. w;
        second-stage = λ x w. w;
        not-near = λ theta thqold faccon dynold w. w;
        near = λ theta thqold faccon dynold w. w;
        diverges = λ {es} {r} theta thqold faccon dynold _ w. notes es (diverged theta) w;
        slow-rust = λ {es} {r} theta thqold faccon dynold dyth h hhfac _ _ w. notes es (slow dyth) w;
        slow-book = λ {es} {r} theta thqold faccon dynold dyth h hhfac _ _ w. notes es (slow dyth) w;
        used-up = λ {es} {r} _ w. notes es (rounds-used r.control.newt_iter) w;
        another-round = λ x _ w. w;
        refines = λ {es} {r} w. notes es error-solve w;
        estimated = λ {es} {r} w. notes es error-solve w;
        refined = λ w. w;
        accepts = λ {es} {r} err hnew hacc erracc _ w.
            notes es (accepted err r.numbers.h)
            (strode-is (latest_events m es l) r.numbers.h (step_events es hs) w);
        fails-first = λ {es} {r} err hnew h hhfac _ _ w. notes es (failed err) w;
        fails-later = λ {es} {r} err hnew h hhfac _ _ w. notes es (failed err) w;
        accepted-filled = λ offered w. w;
      }

-- ---- it is true

module _ (o : Opening) where
  event-true : (m : Memory) (st : Standing) (g : Progress) (e : Event) (l : Latest) → True o m st g e → OfItsPass o l
      → OfItsPass o (latest_event m e l)
  unfolding True latest_event OfItsPass
  event-true m st g (real-singular h k) l w v = w
  event-true m st g (complex-singular h k) l w v = w
  event-true m st g (factored h) l w v = v
  event-true m st g over-limit l w v = v
  event-true m st g (too_small h x) l w v = v
  event-true m st g (begun h x) l w v = v
  event-true m st g (rounds-used k) l w v = v
  event-true m st g (diverged theta) l w v = v
  event-true m st g (slow dyth) l w v = v
  event-true m st g error-solve l w v = v
  event-true m st g (failed err) l w v = v
  event-true m st g (accepted err h) l w v = v
  event-true m st g (aimed x hnew) l w v = v
  event-true m st g (not-aimed x hnew) l w v = v

  events-true : (m : Memory) (st : Standing) (g : Progress) (es : List Event) (l : Latest) → AllTrue o m st g es
      → OfItsPass o l → OfItsPass o (latest_events m es l)
  unfolding AllTrue latest_events
  events-true m st g [] l w v = v
  events-true m st g (e ∷ es) l w v =
      events-true m (past_event e st) (progress_event e g) es (latest_event m e l) w.1 (event-true m st g e l w.0 v)

  pub latest-true : (m : Memory) (ts : List Turn) → TrueIn o m ts → OfItsPass o (latest_in m ts)
  unfolding TrueIn latest_in OfItsPass
  latest-true m [] w = tt
  latest-true m (t ∷ ts) w =
      events-true m (past_reply t.here.request t.action.reply (standing_at ts))
      (progress_reply t.here.request t.here.place t.action.reply (progress_at ts)) t.events
      (latest_in t.here.memory ts) w.0 (latest-true t.here.memory ts w.1)

-- ---- the two that are told, and that neither is negative

pub smallest-told : (rest : List Float) → smallest_stride (kept_strides rest) ≡ best_of min_of rest
unfolding kept_strides best_of
smallest-told [] = refl
smallest-told (a ∷ rest) = refl

pub largest-told : (rest : List Float) → largest_stride (kept_strides rest) ≡ best_of max_of rest
unfolding kept_strides best_of
largest-told [] = refl
largest-told (a ∷ rest) = refl

not_negative : (h : Float) → negative (abs_of h) ≡ false
unfolding abs_of
not_negative nan = refl
not_negative (inf s) = refl
not_negative (fin s zero e) = refl
not_negative (fin s (suc m) e) = refl

abbrev NotBelow : Float → Type 0
NotBelow a = lt a «0·0» ≡ false

unfoldable NoneBelow : List Float → Type 0
NoneBelow [] = Unit
NoneBelow (a ∷ rest) = NotBelow a × NoneBelow rest

strides-not-below : (hs : List Float) → NoneBelow (strides_of hs)
unfolding NoneBelow strides_of
strides-not-below [] = tt
strides-not-below (h ∷ hs) =
    let rest = strides-not-below hs in
    pick_all NoneBelow (is_nan h) _ _ (λ _. rest) (λ _. (below-zero (abs_of h) ∙ not_negative h, rest))

min-not-below : (a b : Float) → NotBelow a → NotBelow b → NotBelow (min_of a b)
unfolding min_of
min-not-below a b p q = pick_all NotBelow (is_nan a) _ _ (λ _. q) (λ _. pick_all NotBelow (lt b a) _ _ (λ _. q)
    (λ _. p))

max-not-below : (a b : Float) → NotBelow a → NotBelow b → NotBelow (max_of a b)
unfolding max_of
max-not-below a b p q = pick_all NotBelow (is_nan a) _ _ (λ _. q) (λ _. pick_all NotBelow (lt a b) _ _ (λ _. q)
    (λ _. p))

best-not-below : (best : Float → Float → Float) → ((a b : Float) → NotBelow a → NotBelow b → NotBelow (best a b))
    → (a : Float) (rest : List Float) → NotBelow a → NoneBelow rest → NotBelow (best_with best a rest)
unfolding NoneBelow best_with
best-not-below best keeps a [] p q = p
best-not-below best keeps a (b ∷ bs) p q =
    keeps (best_with best b bs) a (best-not-below best keeps b bs q.0 q.1) p

kept-not-below : (rest : List Float) → NoneBelow rest → stride_below (kept_strides rest) ≡ false
unfolding NoneBelow kept_strides
kept-not-below [] q = refl
kept-not-below (a ∷ rest) q =
    rw (
      best-not-below min_of min-not-below a rest q.0 q.1,
      best-not-below max_of max-not-below a rest q.0 q.1,
    ) refl

pub none_below : (hs : List Float) → stride_below (kept_strides (strides_of hs)) ≡ false
none_below hs = kept-not-below (strides_of hs) (strides-not-below hs)
