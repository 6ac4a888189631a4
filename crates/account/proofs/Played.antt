-- A journal that a host as a whole plays is one by a list of actions, so it is a journal of its opening where the
-- host is fair up to there.
use Prim.Native.Nat.{ℕ, zero, suc, ◌<◌}
use mathlib.Core.Path.{◌≡◌, refl, sym, ap, ◌∙◌, subst}
use mathlib.Core.List.{List, [], ◌∷◌}
use native.Mathlib.Omega.{arith}
use Rattle.opening.specs.Rows.{Opening}
use Rattle.opening.specs.Opening.{open_of}
use Rattle.history.specs.Host.{Action}
use Rattle.account.specs.Journal.{Fair, Journal, next, FairFrom, after, Starts, JournalOf}
use Rattle.account.specs.Account.{Strategy, played}

module _ (h : Strategy) where
  -- the first of the advances apart
  pub first-played : (k : ℕ) (j : Journal) → played h j (suc k) ≡ played h (next j (h j)) k
  unfolding played
  first-played zero j = refl
  first-played (suc k) j = ap (λ (i : Journal). next i (h i)) (first-played k j)

  actions : ℕ → Journal → List Action
  actions zero j = []
  actions (suc k) j = h j ∷ actions k (next j (h j))

  after-actions : (k : ℕ) (j : Journal) → after j (actions k j) ≡ played h j k
  unfolding after actions played
  after-actions zero j = refl
  after-actions (suc k) j = after-actions k (next j (h j)) ∙ sym (first-played k j)

  fair-actions : (k : ℕ) (j : Journal)
      → ((i : ℕ) → i < k → Fair (played h j i).point (h (played h j i))) → FairFrom j (actions k j)
  unfolding FairFrom actions played
  fair-actions zero j fair = tt
  fair-actions (suc k) j fair = (
    fair 0 (omega arith),
    fair-actions k (next j (h j))
        (λ i l. subst (λ (x : Journal). Fair x.point (h x)) (first-played i j) (fair (suc i) (omega arith))),
  )

pub played-of : (o : Opening) (j : Journal) (h : Strategy) (k : ℕ) → Starts (open_of o) j
    → ((i : ℕ) → i < k → Fair (played h j i).point (h (played h j i)))
    → JournalOf o (played h j k)
played-of o j h k starts fair =
    record {
      first = j;
      starts = starts;
      acts = actions h k j;
      fair = fair-actions h k j fair;
      is = sym (after-actions h k j);
    }
