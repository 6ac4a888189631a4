-- The ways out of the functions of src/host.rt: what a callee promises is what the definition says at the place, or the
-- request, that was matched.
use Prim.Native.Nat.{ℕ}
use mathlib.Core.Path.{◌≡◌, refl, sym, ap, ◌∙◌}
use mathlib.Core.List.{List}
use lib.Ieee.{Float}
use Rattle.state.specs.declared.talk.Place.{Place}
use Rattle.state.specs.declared.talk.Request.{Request}
use Rattle.state.specs.declared.talk.Request.TheVariants as request
use Rattle.state.specs.Memory.{Memory, Given, Factors, memory, amounts, newton, differences}
use Rattle.history.specs.Host.{filled, wrote}
use Rattle.model_run.specs.Host.{reply_to, derived_at, answered_by}

-- the memory of a run: the parts that the host is lent, then those that it is not
abbrev pub hosted : (y f0 cont z1 z2 z3 f1 yp fp fo scal f2 f3 : List Float) → Given → Factors → Memory
hosted y f0 cont z1 z2 z3 f1 yp fp fo scal f2 f3 g f =
    memory (amounts y f0 scal cont) (newton z1 z2 z3 f1 f2 f3) g f (differences yp fp fo)

module _ (reactions : ℕ) (rates : List Float) (species : List ℕ) where
  -- the derivative that was written at a place
  pub filled_at : (p q : Place) (m : Memory) {v : List Float} → p ≡ q → v ≡ derived_at reactions rates species q m
      → filled q v m ≡ filled p (derived_at reactions rates species p m) m
  filled_at p q m {v} e d =
      ap (λ (w : List Float). filled q w m) d
      ∙ ap (λ (x : Place). filled x (derived_at reactions rates species x m) m) (sym e)

  -- what was written at a request
  pub wrote_at : (q q' : Request) (p : Place) (m : Memory) {w : Memory} → q ≡ q'
      → w ≡ wrote q' p (answered_by reactions rates species q' p m) m
      → w ≡ wrote q p (answered_by reactions rates species q p m) m
  wrote_at q q' p m e d = d ∙ ap (λ (x : Request). wrote x p (answered_by reactions rates species x p m) m) (sym e)

  -- the reply is settled by the request
  pub replies : (q : Request) (p : Place) (m : Memory) → (answered_by reactions rates species q p m).reply ≡ reply_to q
  unfolding answered_by
  replies (request.Derivative x) p m = refl
  replies (request.Jacobian x) p m = refl
  replies (request.Report xold x offered) p m = refl
  replies (request.Ended s) p m = refl
