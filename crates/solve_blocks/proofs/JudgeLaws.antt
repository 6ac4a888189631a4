-- The ways through an acceptance, a judgement and an estimate, over variables, and the room that
-- they leave in the counts.
use Prim.Native.Nat.{ℕ, ◌+◌, ◌<◌, ◌^◌}
use mathlib.Core.Path.{◌≡◌, refl, sym, ap, ◌∙◌}
use mathlib.Core.Bool.{true, false, ◌&&◌, ◌||◌}
use mathlib.Core.List.{List}
use borrow.Author.Rules.{rules}
use lib.ListN.{length}
use lib.Ieee.{Float, le}
use Rattle.words.specs.Words.{◌⊘◌}
use Rattle.words.specs.Constants.{«1·0»}
use Rattle.words.specs.Loop.{loop}
use Rattle.words.proofs.Branch.{pick_yes, pick_no, pick_all}
use Rattle.state.specs.declared.run.Run.{Run}
use Rattle.state.specs.Memory.{Newton, newton}
use Rattle.state.specs.declared.talk.Call.{Call}
use Rattle.solve_blocks.specs.declared.step.Step.{Step}
use Rattle.solve_blocks.specs.declared.step.Step.TheVariants as step
use Rattle.solve_blocks.specs.Setters.{◌▸◌, in_counts, in_numbers, one_lu, set_hnew}
use Rattle.solve_blocks.specs.Events.{Logged}
use Rattle.solve_blocks.specs.Entries.{Three, three}
use Rattle.solve_blocks.specs.Estimate.{Sides, sides, defect_of, sides_of, solved_first, error_of, plus_at, sum_at}
use Rattle.solve_blocks.specs.Judge.{quot_of, predictive_quot, remembered, accepted_point, accepted_of, rejected_of}
use Rattle.solve_blocks.specs.Judge.{Moved, moved, moved_of, ask_accepted, Judged, judged, judged_of}
use Rattle.solve_blocks.specs.Judge.{Estimated, estimated, ask_refinement, tested_of, estimate_of, refined_of}
use Rattle.solve_blocks.specs.Needs.{Fit, StepFit}
use Rattle.solve_blocks.proofs.FitLaws.{fit-less, counted-fit}

-- what a loop over two lists keeps: both lengths
pub record Both (a b a₀ b₀ : List Float) : Type 0 where
  pub first : length a ≡ length a₀
  pub second : length b ≡ length b₀

-- ---- an acceptance

pub accepted-by : (r : Run) (err quot q : Float) (t s : Run) → q ≡ predictive_quot r err quot
    → t ≡ remembered err (r ▸ in_numbers (set_hnew (r.numbers.h ⊘ q)))
    → s ≡ accepted_point t → s ≡ accepted_of r err quot
unfolding accepted_of
accepted-by r err quot q t s e f g = rw (g, f, e)

-- the controller's memory is no count
pub remembered-counts : (err : Float) (r s : Run) → s ≡ remembered err r → s.counts ≡ r.counts
remembered-counts err r s e =
    ap (λ (t : Run). t.counts) e
    ∙ pick_all (λ (t : Run). t.counts ≡ r.counts) r.settings.predictive _ _ (λ _. refl) (λ _. refl)

-- the first acceptance is over, and counted
pub accepted-counted : (r : Run)
    → ((accepted_point r).counts.accepted ≡ r.counts.accepted + 1) × ((accepted_point r).control.first ≡ false)
accepted-counted r = (refl, refl)

pub accepted-room : {n : ℕ} (r : Run) (err quot : Float) (s : Run) → s ≡ accepted_of r err quot → Fit 1 n r
    → s.counts.ode + 1 < 2 ^ 64
unfolding accepted_of
accepted-room r err quot s e f =
    rw e (pick_all (λ (t : Run). t.counts.ode + 1 < 2 ^ 64) r.settings.predictive _ _ (λ _. f.ode) (λ _. f.ode))

-- ---- the judgement

module _ (r : Run) (err : Float) (z : Three) (y cont : List Float) where
  pub judge-accepted : (q : Float) (y' cont' : List Float) (s : Run) (a : Call) → le err «1·0» ≡ true
      → q ≡ quot_of r.settings r.control.newt_iter err
      → moved y' cont' ≡ moved_of r.shape.n z (moved y cont)
      → s ≡ accepted_of r err q
      → a ≡ ask_accepted s
      → judged (step.Asked a) y' cont' ≡ (judged_of r err z y cont).core
  unfolding judged_of
  judge-accepted q y' cont' s a h e m f g =
      rw (
        g,
        f,
        e,
      ) (ap (λ (m : Moved).
      judged (step.Asked (ask_accepted (accepted_of r err (quot_of r.settings r.control.newt_iter err))))
      m.y m.cont)
      m)
      ∙ sym (ap (λ (l : Logged Judged). l.core) (pick_yes _ _ h))

  pub judge-rejected : (q : Float) (s : Run) → le err «1·0» ≡ false
      → q ≡ quot_of r.settings r.control.newt_iter err
      → s ≡ rejected_of (r ▸ in_numbers (set_hnew (r.numbers.h ⊘ q))) (r.numbers.h ⊘ q)
      → judged (step.Main s) y cont ≡ (judged_of r err z y cont).core
  unfolding judged_of
  judge-rejected q s h e f = rw (f, e) (sym (ap (λ (l : Logged Judged). l.core) (pick_no _ _ h)))

  pub tested-asked : (cont' : List Float) (a : Call)
      → (le «1·0» err && (r.control.first || r.control.reject)) ≡ true
      → cont' ≡ loop (plus_at y) 0 r.shape.n cont
      → a ≡ ask_refinement r
      → judged (step.Asked a) y cont' ≡ (tested_of r err z y cont).core
  unfolding tested_of
  tested-asked cont' a h e f = rw (f, e) (sym (ap (λ (l : Logged Judged). l.core) (pick_yes _ _ h)))

  pub tested-judged : (le «1·0» err && (r.control.first || r.control.reject)) ≡ false
      → (judged_of r err z y cont).core ≡ (tested_of r err z y cont).core
  unfolding tested_of
  tested-judged h = sym (ap (λ (l : Logged Judged). l.core) (pick_no _ _ h))

-- ---- the estimate

module _ (r : Run) (e1 : List Float) (ip1 : List ℕ) (scal y cont z1 z2 z3 f1 f2 f3 : List Float) where
  -- what follows the sides
  abbrev judged_by : List Float → Sides → Estimated
  judged_by f s =
      let c = solved_first r.shape.n e1 ip1 s.cont in
      let j = (tested_of (in_counts one_lu r) (error_of r.shape.n scal c) (three z1 z2 z3) y c).core in
      estimated j.step j.y j.cont f s.f2

  pub estimate-by : (mass f0 f1' f2' c1 c2 c3 y' : List Float) (err : Float) (t : Run) (s : Step)
      → f1' ≡ defect_of r.shape.n r.numbers.h (three z1 z2 z3) f1
      → sides f2' c1 ≡ sides_of r.settings.mass r.shape.n mass f0 f1' (sides f2 cont)
      → c2 ≡ solved_first r.shape.n e1 ip1 c1
      → err ≡ error_of r.shape.n scal c2
      → t ≡ in_counts one_lu r
      → judged s y' c3 ≡ (tested_of t err (three z1 z2 z3) y c2).core
      → estimated s y' c3 f1' f2' ≡ (estimate_of r mass e1 ip1 f0 scal y cont (newton z1 z2 z3 f1 f2 f3)).core
  unfolding estimate_of
  estimate-by mass f0 f1' f2' c1 c2 c3 y' err t s a b d e f g =
      ap (λ (j : Judged). estimated j.step j.y j.cont f1' f2') g ∙ rw (f, e, d) (ap (judged_by f1') b ∙ rw a)

  pub refined-by : (c1 c2 : List Float) (err : Float)
      → c1 ≡ loop (sum_at f1 f2) 0 r.shape.n cont
      → c2 ≡ solved_first r.shape.n e1 ip1 c1
      → err ≡ error_of r.shape.n scal c2
      → (judged_of r err (three z1 z2 z3) y c2).core ≡ (refined_of r e1 ip1 scal y cont (newton z1 z2 z3 f1 f2 f3)).core
  unfolding refined_of
  refined-by c1 c2 err a b d = rw (d, b, a)

-- ---- the room in the counts

fit-rejected : (k n : ℕ) (r : Run) (hnew : Float) → Fit k n r → r.counts.rejected + (k + 1) < 2 ^ 64
    → Fit k n (rejected_of (in_numbers (set_hnew hnew) r) hnew)
unfolding rejected_of
fit-rejected k n r hnew f h = pick_all (Fit k n) r.control.first _ _ (λ _. search rules) (λ _. search rules)

-- of what a judgement counts, only a rejection is left in a run that no request is open for
module _ (k n : ℕ) (r : Run) (f : Fit k n r) (h : r.counts.rejected + (k + 1) < 2 ^ 64)
    (err : Float) (z : Three) (y cont : List Float) where
  judged-fit : StepFit k n (judged_of r err z y cont).core.step
  unfolding judged_of StepFit
  judged-fit =
      pick_all (λ (l : Logged Judged). StepFit k n l.core.step) (le err «1·0») _ _
      (λ _. tt)
      (λ _. fit-rejected k n r _ f h)

  tested-fit : StepFit k n (tested_of r err z y cont).core.step
  unfolding tested_of StepFit
  tested-fit =
      pick_all (λ (l : Logged Judged). StepFit k n l.core.step)
      (le «1·0» err && (r.control.first || r.control.reject)) _ _
      (λ _. tt)
      (λ _. judged-fit)

module _ (k n : ℕ) (r : Run) (f : Fit (k + 1) n r) (e1 : List Float) (ip1 : List ℕ)
    (scal y cont : List Float) (m : Newton) where
  pub estimate-fit : (mass f0 : List Float) → StepFit k n (estimate_of r mass e1 ip1 f0 scal y cont m).core.step
  unfolding estimate_of
  estimate-fit mass f0 = tested-fit k n (in_counts one_lu r) (counted-fit f) f.rejected _ _ _ _

  pub refined-fit : StepFit k n (refined_of r e1 ip1 scal y cont m).core.step
  unfolding refined_of
  refined-fit = judged-fit k n r (fit-less f) f.rejected _ _ _ _
