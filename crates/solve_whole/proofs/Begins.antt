-- 'main begins: the Jacobian and the matrices. Where what follows them goes as the talk does, so do they.
use Prim.Native.Nat.{ℕ, zero, suc, ◌+◌, ◌≤◌}
use mathlib.Core.Bool.{true, false, not}
use mathlib.Core.Path.{◌≡◌, refl, sym, ap, ◌∙◌, subst}
use native.Mathlib.Omega.{arith}
use native.Mathlib.Numerals.{add-one}
use borrow.Author.Tests.{ltb-true, ltb-false}
use lib.Dec.{ltb}
use lib.ListN.{set}
use Rattle.words.specs.Words.{◌⊕◌, ◌!◌}
use Rattle.words.specs.Loop.{loop, pick}
use Rattle.words.proofs.Branch.{pick_all, pick_yes, pick_no}
use Rattle.words.proofs.Loops.{loop-none, loop-stays}
use Rattle.state.specs.declared.settings.Source.{Source}
use Rattle.state.specs.declared.settings.Source.TheVariants as source
use Rattle.state.specs.declared.run.Run.{Run}
use Rattle.state.specs.declared.run.Stage.TheVariants as stage
use Rattle.state.specs.declared.talk.Place.TheVariants as place
use Rattle.state.specs.declared.talk.Reply.{Reply}
use Rattle.state.specs.declared.talk.Request.TheVariants as request
use Rattle.state.specs.Memory.{Memory}
use Rattle.state.specs.MemorySetters.{set_factors, set_column, set_differences}
use Rattle.solve_blocks.specs.declared.step.Step.TheVariants as step
use Rattle.solve_blocks.specs.Setters.{◌▸◌, at_stage}
use Rattle.solve_blocks.specs.Matrices.{Tried, tried, tried_of, passes_of, pass_at}
use Rattle.state.specs.Talk.{call}
use Rattle.solve_blocks.specs.Jacobian.{Columned, columned, ask_jacobian_by}
use Rattle.solve_blocks.specs.Jacobian.{ask_column_of, column_at, column_of, perturbation}
use Rattle.solve_blocks.specs.Advance.{Stepped, stepped, jacobian_of, replied_of, called_of}
use Rattle.solve_blocks.proofs.PassLaws.{passed, passes-core}
use Rattle.history.specs.Host.{is_end, wrote, filled}
use Rattle.solve_whole.specs.Talk.{Host, World, on_memory, ask, reply_of}
use Rattle.solve_whole.specs.Solve.{Result, Next, columns, jacobian_by, jacobian, matrices}
use Rattle.solve_whole.proofs.RunSound.{Sound, tried-past}
use Rattle.solve_whole.proofs.FollowsTalk.{finish, From, Sim, alike, ask-on}
use Rattle.solve_whole.proofs.Passes.{never, always, pass-first}
use Rattle.solve_whole.proofs.Pieces.{Mains, onward-goes}

-- ---- the matrices

module _ (host : Host) (d i : ℕ) (main next : Next) (mains : Mains host d (i + 1) main)
    (goes : (r : Run) (w : World) → Sound i r → Sim host d (step.Attempt r) w (next r w)) where
  pub matrices-goes : (r : Run) (w : World) → Sound i r → Sim host d (step.Matrices r) w (matrices host r w main next)
  unfolding matrices
  matrices-goes r w sound =
      let m = w.memory in
      let t = (tried_of r m.given.mass m.given.jac m.factors).core in
      alike host d _ _ w.exchanges _
      (pass-first (step.Matrices r) m refl (omega arith, sound.1, sound.2, sound.3))
      (onward-goes host d (i + 1) (Sound i) main next mains goes t.step (w ▸ on_memory (set_factors t.factors))
      (tried-past i r sound m.given.mass m.given.jac m.factors))

-- ---- the Jacobian

-- where one is wanted no pass is made before it is asked for
module _ (r : Run) (m : Memory) where
  kept : r.control.call_jac ≡ true → (j : ℕ)
      → passed m.given.mass m.given.jac j (tried (step.Main r) m.factors) ≡ tried (step.Main r) m.factors
  unfolding passed
  kept on j = pick_no _ _ (ap not on)

  wanted : r.control.call_jac ≡ true
      → finish (stepped (step.Main r) m) ≡ finish (stepped (step.Asked (jacobian_of r m).call) (jacobian_of r m).memory)
  unfolding passes_of pass_at loop pick called_of
  wanted on =
      let f = passed m.given.mass m.given.jac in
      let t = tried (step.Main r) m.factors in
      ap (λ (u : Tried). (called_of u.step (set_factors u.factors m)).core)
      (passes-core m.given.mass m.given.jac (step.Main r) m.factors
      ∙ loop-stays f 0 0 t t (omega arith) (loop-none f 0 t) (kept on) 6 (omega arith))

  -- and where none is, 'main begins with the matrices
  unwanted : r.control.call_jac ≡ false → Sound 0 r
      → finish (stepped (step.Main r) m) ≡ finish (stepped (step.Matrices r) m)
  unwanted off sound = pass-first (step.Main r) m (ap not off) sound ∙ sym (pass-first (step.Matrices r) m refl sound)

-- the label before a column, or past the last
abbrev columned_at : Memory → Columned → Stepped
columned_at m a = stepped a.step (set_column a.y_perturbed a.jac m)

abbrev columns_at : ℕ → Run → Memory → Stepped
columns_at col r m =
    let yp = m.differences.y_perturbed in
    columned_at m (pick (ltb col r.shape.n) (ask_column_of r col m.amounts.y yp m.given.jac)
    (columned (step.Matrices r) yp m.given.jac))

-- the derivative at the point is there
origin-made : (p : Reply) (r : Run) (m : Memory) → 1 ≤ r.shape.n
    → (replied_of (stage.Column 0) p r m).core ≡ columns_at 0 r m
unfolding replied_of column_of
origin-made p r m low =
    ap (columned_at m) (sym (pick_yes _ _ (always (ltb 0 r.shape.n) (λ f. omega (arith, low, ltb-false)))))

-- a column is made, and the next label is met
column-made : (col : ℕ) (p : Reply) (r : Run) (m : Memory)
    → (let d = m.differences in
    let jac = loop (column_at r.shape.n col (perturbation (m.amounts.y ! col)) d.f_perturbed d.f_origin)
    0 r.shape.n m.given.jac in
    (replied_of (stage.Column (col + 1)) p r m).core
    ≡ columns_at (col + 1) r (set_column (set d.y_perturbed col (m.amounts.y ! col)) jac m))
unfolding replied_of column_of
column-made col p r m = ap (λ (j : ℕ). (replied_of (stage.Column j) p r m).core) (add-one col)

module _ (host : Host) (d i : ℕ) (next : Next)
    (goes : (r : Run) (w : World) → Sound i r → Sim host d (step.Matrices r) w (next r w)) where
  columns-go : (k col : ℕ) (r : Run) (w : World) → Sound i r → col + k ≡ r.shape.n
      → From host d (columns_at col r w.memory) w.exchanges (columns host k col r w next)
  unfolding columns ask_column_of wrote filled is_end
  columns-go zero col r w sound e =
      subst (λ (a : Columned). From host d (columned_at w.memory a) w.exchanges (next r w))
      (sym (pick_no _ _ (never (ltb col r.shape.n) (λ f. omega (arith, e, ltb-true)))))
      (goes r w sound)
  columns-go (suc k) col r w sound e =
      let y = w.memory.amounts.y in
      let c =
      call (r ▸ at_stage (stage.Column (col + 1))) (request.Derivative r.numbers.x) place.YPerturbedToFPerturbed in
      let u = w
      ▸ on_memory (set_column (set w.memory.differences.y_perturbed col (y ! col ⊕ perturbation (y ! col)))
      w.memory.given.jac) in
      let v = ask host c u in
      let f = v.memory.differences in
      let jac = loop (column_at r.shape.n col (perturbation (y ! col)) f.f_perturbed f.f_origin) 0
      r.shape.n v.memory.given.jac in
      let R = columns host (suc k) col r w next in
      subst (λ (a : Columned). From host d (columned_at w.memory a) w.exchanges R)
      (sym (pick_yes _ _ (always (ltb col r.shape.n) (λ f. omega (arith, e, ltb-false)))))
      (ask-on host d c u R refl
      (subst (λ (t : Stepped). From host d t v.exchanges R) (sym (column-made col _ c.run v.memory))
      (columns-go k (col + 1) c.run
      (v ▸ on_memory (set_column (set f.y_perturbed col (y ! col)) jac)) sound (omega (arith, e)))))

  -- past the request for it
  asked-goes : (s : Source) (r : Run) (w : World) → Sound i r
      → (let a = ask_jacobian_by s r w.memory.amounts.y w.memory.differences in
      let v = w ▸ on_memory (set_differences a.differences) in
      Sim host d (step.Asked a.call) v (jacobian_by host s a.call.run (ask host a.call v) next))
  unfolding ask_jacobian_by jacobian_by replied_of is_end
  asked-goes source.Host r w sound = ask-on host d _ _ _ refl (goes _ _ sound)
  asked-goes source.Differences r w sound =
      let a = ask_jacobian_by source.Differences r w.memory.amounts.y w.memory.differences in
      let c = a.call in
      let v = w ▸ on_memory (set_differences a.differences) in
      ask-on host d c v _ refl
      (subst (λ (t : Stepped).
      From host d t (ask host c v).exchanges (columns host r.shape.n 0 c.run (ask host c v) next))
      (sym (origin-made (reply_of host c v) c.run (ask host c v).memory sound.3))
      (columns-go r.shape.n 0 c.run (ask host c v) sound (omega arith)))

  pub jacobian-goes : (r : Run) (w : World) → Sound i r → Sim host d (step.Main r) w (jacobian host r w next)
  unfolding jacobian
  jacobian-goes r w sound =
      pick_all (λ (R : Result). Sim host d (step.Main r) w R) r.control.call_jac _ _
      (λ on. alike host d _ _ w.exchanges _ (wanted r w.memory on) (asked-goes r.settings.source r w sound))
      (λ off. alike host d _ _ w.exchanges _
      (unwanted r w.memory off (omega arith, sound.1, sound.2, sound.3)) (goes r w sound))
