-- What a plan is made of, step by step, and that the sums by a plan are the derivative.
use Prim.Native.Nat.{ℕ, zero, suc, ◌+◌, ◌-◌, ◌*◌, ◌/◌, ◌≤◌, ◌<◌}
use mathlib.Core.Bool.{Bool, true, false}
use mathlib.Core.Path.{◌≡◌, refl, sym, ap, ◌∙◌}
use mathlib.Core.List.{List}
use mathlib.Core.Logic.{⊎_elim}
use native.Mathlib.Nat.{eq-or-lt_of_le}
use native.Mathlib.Omega.{arith}
use lib.Dec.{eqb}
use lib.ListN.{length, get_or, set, take, drop, length-set, length-drop, get_or-replicate}
use lib.Seq.{get_or-set_same, get_or-set_other, ext_get_or, length-take-le, get_or-take, get_or-drop}
use lib.Ieee.{Float, nan, neg, sub}
use borrow.Author.Tests.{eqb-true, eqb-false, eq-eqb, ne_eqb}
use Rattle.words.specs.Constants.{«0·0»}
use Rattle.words.specs.Words.{◌⊕◌, ◌⊖◌, ◌!◌}
use Rattle.words.specs.Loop.{loop, pick}
use Rattle.words.proofs.Loops.{loop-none, loop-more}
use Rattle.words.proofs.Branch.{pick_yes, pick_no}
use Rattle.state.specs.Memory.{zeros}
use Rattle.model.specs.Model.{Reaction, speed_of, lessened, raised, reacted, all_reacted, derivative_of}
use Rattle.model.specs.Derivative.{reaction_at, reactions_of}
use Rattle.model.specs.Plan.{term_at, place_at, Changes, Listing, Lists, Listings, Planned}
use Rattle.model.proofs.ReactionLaws.{one-more, lessened-length, raised-length, derivative-length}

-- ---- loops whose turns do the same leave the same

module _ {A : Type 0} (f g : ℕ → A → A) (lo : ℕ) (s : A) where
  alike : (d : ℕ) → ((t : ℕ) (a : A) → lo ≤ t → t < lo + d → f t a ≡ g t a)
      → loop f lo (lo + d) s ≡ loop g lo (lo + d) s
  alike zero same =
      let e : lo + 0 ≡ lo = omega arith in
      rw e (loop-none f lo s ∙ sym (loop-none g lo s))
  alike (suc d) same =
      let e : lo + suc d ≡ lo + d + 1 = omega arith in
      let l : lo ≤ lo + d = omega arith in
      rw e (loop-more f lo (lo + d) s l
      ∙ ap (f (lo + d)) (alike d (λ t a h b. same t a h (omega arith)))
      ∙ same (lo + d) (loop g lo (lo + d) s) l (omega arith)
      ∙ sym (loop-more g lo (lo + d) s l))

  pub loop-alike : (hi : ℕ) → lo ≤ hi → ((t : ℕ) (a : A) → lo ≤ t → t < hi → f t a ≡ g t a)
      → loop f lo hi s ≡ loop g lo hi s
  loop-alike hi h same =
      let e : hi ≡ lo + (hi - lo) = omega arith in
      rw e (alike (hi - lo) (λ t a l b. same t a l (omega arith)))

-- a loop that starts at `lo`, counted from 0
module _ {A : Type 0} (f g : ℕ → A → A) (lo : ℕ) (s : A) where
  pub loop-shifted : (d : ℕ) → ((t : ℕ) (a : A) → t < d → g t a ≡ f (lo + t) a) → loop g 0 d s ≡ loop f lo (lo + d) s
  loop-shifted zero same =
      let e : lo + 0 ≡ lo = omega arith in
      rw e (loop-none g 0 s ∙ sym (loop-none f lo s))
  loop-shifted (suc d) same =
      let e : lo + suc d ≡ lo + d + 1 = omega arith in
      let e' : suc d ≡ d + 1 = omega arith in
      rw (e, e') (loop-more g 0 d s (omega arith)
      ∙ ap (g d) (loop-shifted d (λ t a b. same t a (omega arith)))
      ∙ same d (loop f lo (lo + d) s) (omega arith)
      ∙ sym (loop-more f lo (lo + d) s (omega arith)))

-- ---- a listing

module _ (species : List ℕ) (s : ℕ) where
  pub none-listed : (terms : List ℕ) (from : ℕ) → Listing species 0 s terms from from
  none-listed terms from =
      record {
        small = λ t l h. absurd (omega arith);
        sums =
            λ changes sum. loop-none (term_at terms changes) from sum
            ∙ sym (loop-none (place_at species s changes) 0 sum);
      }

  -- later entries may change
  pub listed-still : (count : ℕ) (terms after : List ℕ) (from to : ℕ) → from ≤ to
      → ((t : ℕ) → t < to → get_or after t 0 ≡ get_or terms t 0)
      → Listing species count s terms from to → Listing species count s after from to
  unfolding term_at
  listed-still count terms after from to rises same l =
      record {
        small = λ t low high. rw (same t high) (l.small t low high);
        sums = λ changes sum.
            loop-alike (term_at after changes) (term_at terms changes) from sum to rises
            (λ t a low high. ap (λ (k : ℕ). a ⊕ changes ! k) (same t high))
            ∙ l.sums changes sum;
      }

  -- a place that is the species', and one that isn't
  module _ (count : ℕ) (terms : List ℕ) (from to : ℕ) (rises : from ≤ to) (l : Listing species count s terms from to)
    where
      pub more-listed : get_or species count 0 ≡ s → count < 256 → to < length terms
          → Listing species (count + 1) s (set terms to (count / 2)) from (to + 1)
      unfolding term_at place_at
      more-listed here few room =
          let after = set terms to (count / 2) in
          let still = listed-still count terms after from to rises
          (λ t h. get_or-set_other terms to t (count / 2) 0 (λ e. omega arith)) l in
          let put : get_or after to 0 ≡ count / 2 = get_or-set_same terms to (count / 2) 0 room in
          record {
            small = λ t low high.
                ⊎_elim (λ (e : t ≡ to). rw (e, put) (omega arith)) (λ (b : t < to). still.small t low b)
                (eq-or-lt_of_le (omega arith));
            sums = λ changes sum.
                loop-more (term_at after changes) from to sum rises
                ∙ ap (λ (k : ℕ). loop (term_at after changes) from to sum ⊕ changes ! k) put
                ∙ ap (λ (a : Float). a ⊕ changes ! (count / 2)) (still.sums changes sum)
                ∙ sym (pick_yes _ _ (eq-eqb (get_or species count 0) s here))
                ∙ sym (loop-more (place_at species s changes) 0 count sum (omega arith));
          }

      pub passed-listed : (get_or species count 0 ≡ s → ⊥) → Listing species (count + 1) s terms from to
      unfolding place_at
      passed-listed other =
          record {
            small = l.small;
            sums = λ changes sum.
                l.sums changes sum
                ∙ sym (pick_no _ _ (ne_eqb (get_or species count 0) s other))
                ∙ sym (loop-more (place_at species s changes) 0 count sum (omega arith));
          }

-- ---- the changes of a species, place by place

module _ (species : List ℕ) (s at : ℕ) (before : List ℕ) where
  pub lists-none : length before ≡ 256 → Lists species s at before 0 before at
  lists-none long =
      record {
        rises = omega arith;
        close = omega arith;
        long = long;
        kept = λ t h. refl;
        listing = λ room. none-listed species s before at;
      }

  module _ (k : ℕ) (terms : List ℕ) (to : ℕ) (l : Lists species s at before k terms to) where
    pub lists-passed : (get_or species k 0 ≡ s → ⊥) → Lists species s at before (k + 1) terms to
    lists-passed other =
        record {
          rises = l.rises;
          close = omega (arith, l.close);
          long = l.long;
          kept = l.kept;
          listing = λ room. passed-listed species s k terms at to l.rises (l.listing room) other;
        }

    pub lists-full : 256 ≤ to → Lists species s at before (k + 1) terms (to + 1)
    lists-full full =
        record {
          rises = omega (arith, l.rises);
          close = omega (arith, l.close);
          long = l.long;
          kept = l.kept;
          listing = λ room. absurd (omega arith);
        }

    pub lists-put : get_or species k 0 ≡ s → k < 256 → to < 256
        → Lists species s at before (k + 1) (set terms to (k / 2)) (to + 1)
    lists-put here few room =
        record {
          rises = omega (arith, l.rises);
          close = omega (arith, l.close);
          long = length-set terms to (k / 2) ∙ l.long;
          kept = λ t h. get_or-set_other terms to t (k / 2) 0 (λ e. omega (arith, l.rises)) ∙ l.kept t h;
          listing = λ _. more-listed species s k terms at to l.rises (l.listing (omega arith)) here few
              (omega (arith, l.long));
        }

-- ---- species by species

module _ (species : List ℕ) (count : ℕ) where
  pub listings-none : (starts terms : List ℕ) → length starts ≡ 33 → length terms ≡ 256 → get_or starts 0 0 ≡ 0
      → Listings 0 species count starts terms
  listings-none starts terms sized long first =
      record {
        sized = sized;
        long = long;
        near = omega arith;
        rising = λ s h. absurd (omega arith);
        below = λ s h. absurd (omega arith);
        listed = λ room s h. absurd (omega arith);
      }

  module _ (n : ℕ) (starts terms after : List ℕ) (to : ℕ) (few : count ≤ 256) (small : n < 32)
      (l : Listings n species count starts terms)
      (here : Lists species (n + 1) (get_or starts n 0) terms count after to) where
    abbrev now : List ℕ
    now = set starts (n + 1) to

    put : get_or now (n + 1) 0 ≡ to
    put = get_or-set_same starts (n + 1) to 0 (omega (arith, l.sized))

    still : (s : ℕ) → s ≤ n → get_or now s 0 ≡ get_or starts s 0
    still s h = get_or-set_other starts (n + 1) s to 0 (λ e. omega arith)

    below-now : (s : ℕ) → s < n + 1 → get_or now (s + 1) 0 ≤ get_or now (n + 1) 0
    below-now s h =
        ⊎_elim (λ (e : s ≡ n). rw e (omega arith))
        (λ (b : s < n). omega (arith, put, still (s + 1) (omega arith), l.below s b, here.rises))
        (eq-or-lt_of_le (omega arith))

    listed-now : get_or now (n + 1) 0 ≤ 256 → (s : ℕ) → s < n + 1
        → Listing species count (s + 1) after (get_or now s 0) (get_or now (s + 1) 0)
    listed-now room s h =
        ⊎_elim
        (λ (e : s ≡ n). rw (e, put, still n (omega arith)) (here.listing (omega (arith, put))))
        (λ (b : s < n).
        let low = still s (omega arith) in
        let high = still (s + 1) (omega arith) in
        rw (low, high)
        (listed-still species (s + 1) count terms after (get_or starts s 0) (get_or starts (s + 1) 0)
        (l.rising s b)
        (λ t u. here.kept t (omega (arith, l.below s b)))
        (l.listed (omega (arith, put, here.rises)) s b)))
        (eq-or-lt_of_le (omega arith))

    rising-now : (s : ℕ) → s < n + 1 → get_or now s 0 ≤ get_or now (s + 1) 0
    rising-now s h =
        ⊎_elim
        (λ (e : s ≡ n). rw (e, put, still n (omega arith)) here.rises)
        (λ (b : s < n). rw (still s (omega arith), still (s + 1) (omega arith)) (l.rising s b))
        (eq-or-lt_of_le (omega arith))

    pub listings-more : Listings (n + 1) species count now after
    listings-more =
        record {
          sized = length-set starts (n + 1) to ∙ l.sized;
          long = here.long;
          near = omega (arith, put, here.close, l.near);
          rising = rising-now;
          below = below-now;
          listed = listed-now;
        }

-- A part of the numbers lists as much as they do.
listed-part : (species : List ℕ) (count s : ℕ) (terms : List ℕ) (from to : ℕ) → count ≤ length species
    → Listing (take count species) (length (take count species)) s terms from to → Listing species count s terms from to
unfolding place_at
listed-part species count s terms from to enough l =
    let part = take count species in
    let size : length part ≡ count = length-take-le count species enough in
    record {
      small = l.small;
      sums = λ changes sum.
          l.sums changes sum
          ∙ ap (λ (k : ℕ). loop (place_at part s changes) 0 k sum) size
          ∙ loop-alike (place_at part s changes) (place_at species s changes) 0 sum count (omega arith)
          (λ t a low high.
          ap (λ (q : ℕ). pick (eqb q s) (a ⊕ changes ! (t / 2)) a) (get_or-take count species t 0 high));
    }

-- The plan, once all are listed and there was room.
pub all-planned : (n reactions : ℕ) (species starts terms : List ℕ) → n < 33 → reactions ≤ 64
    → 4 * reactions ≤ length species → ((k : ℕ) → k < 4 * reactions → get_or species k 0 ≤ n)
    → Listings n (take (4 * reactions) species) (length (take (4 * reactions) species)) starts terms
    → get_or starts n 0 ≤ 256 → Planned n reactions species starts terms
all-planned n reactions species starts terms few handful enough known l room =
    record {
      few = omega arith;
      handful = handful;
      enough = enough;
      known = known;
      rising = l.rising;
      room = λ s h. omega (arith, l.below s h);
      listed = λ s h.
          listed-part species (4 * reactions) (s + 1) terms (get_or starts s 0) (get_or starts (s + 1) 0) enough
          (l.listed room s h);
    }

-- ---- an entry of the derivative

-- one change at species q, seen at species s + 1
module _ (f : Float → Float) (q s : ℕ) (dy : List Float) (room : s < length dy) where
  changed-by : (b : Bool) → eqb q (s + 1) ≡ b
      → pick (eqb q 0) dy (set dy (q - 1) (f (dy ! (q - 1)))) ! s ≡ pick (eqb q (s + 1)) (f (dy ! s)) (dy ! s)
  changed-by true e =
      let here : q ≡ s + 1 = eqb-true q (s + 1) e in
      let back : q - 1 ≡ s = omega arith in
      ap (λ (l : List Float). l ! s) (pick_no dy _ (ne_eqb q 0 (λ z. omega arith)))
      ∙ ap (λ (k : ℕ). set dy k (f (dy ! k)) ! s) back
      ∙ get_or-set_same dy s (f (dy ! s)) nan room
      ∙ sym (pick_yes _ _ e)
  changed-by false e =
      ⊎_elim
      (λ (z : 0 ≡ q). ap (λ (l : List Float). l ! s) (pick_yes dy _ (eq-eqb q 0 (sym z))))
      (λ (p : 0 < q). ap (λ (l : List Float). l ! s) (pick_no dy _ (ne_eqb q 0 (λ z. omega arith)))
      ∙ get_or-set_other dy (q - 1) s (f (dy ! (q - 1))) nan (λ h. eqb-false q (s + 1) e (omega arith)))
      (eq-or-lt_of_le (omega arith))
      ∙ sym (pick_no _ _ e)

  changed : pick (eqb q 0) dy (set dy (q - 1) (f (dy ! (q - 1)))) ! s ≡ pick (eqb q (s + 1)) (f (dy ! s)) (dy ! s)
  changed = changed-by (eqb q (s + 1)) refl

-- what species s + 1 has after one change at species q
abbrev added : ℕ → ℕ → Float → Float → Float
added s q v a = pick (eqb q (s + 1)) (a ⊕ v) a

module _ (s : ℕ) where
  lessened-at : (v : Float) (q : ℕ) (dy : List Float) → s < length dy → lessened v q dy ! s ≡ added s q (neg v) (dy ! s)
  unfolding lessened sub
  lessened-at v q dy room = changed (λ (a : Float). a ⊖ v) q s dy room

  raised_at : (v : Float) (q : ℕ) (dy : List Float) → s < length dy → raised v q dy ! s ≡ added s q v (dy ! s)
  unfolding raised
  raised_at v q dy room = changed (λ (a : Float). a ⊕ v) q s dy room

  reacted-at : (y : List Float) (r : Reaction) (dy : List Float) → s < length dy
      → reacted y r dy ! s
      ≡ added s r.product2 (speed_of y r) (added s r.product1 (speed_of y r)
      (added s r.reactant2 (neg (speed_of y r)) (added s r.reactant1 (neg (speed_of y r)) (dy ! s))))
  unfolding reacted
  reacted-at y r dy room =
      let v = speed_of y r in
      let one = lessened v r.reactant1 dy in
      let two = lessened v r.reactant2 one in
      let three = raised v r.product1 two in
      let in_one : s < length one = omega (arith, lessened-length v r.reactant1 dy) in
      let in_two : s < length two = omega (arith, lessened-length v r.reactant2 one) in
      let in_three : s < length three = omega (arith, raised-length v r.product1 two) in
      raised_at v r.product2 three in_three
      ∙ ap (added s r.product2 v) (raised_at v r.product1 two in_two
      ∙ ap (added s r.product1 v) (lessened-at v r.reactant2 one in_one
      ∙ ap (added s r.reactant2 (neg v)) (lessened-at v r.reactant1 dy room)))

-- ---- all reactions: the places one after the other

module _ (reactions : ℕ) (y rates : List Float) (species : List ℕ) (changes : List Float)
    (all : Changes reactions y rates species changes) (s : ℕ) (here : s < length y) where
  abbrev up_to : ℕ → Float
  up_to k = loop (place_at species (s + 1) changes) 0 k «0·0»

  step : (k after m : ℕ) (v : Float) {a : Float} → after ≡ k + 1 → k / 2 ≡ m → changes ! m ≡ v → up_to k ≡ a
      → up_to after ≡ added s (get_or species k 0) v a
  unfolding place_at
  step k after m v {a} e half is before =
      ap up_to e ∙ loop-more (place_at species (s + 1) changes) 0 k «0·0» (omega arith)
      ∙ ap (place_at species (s + 1) changes k) before
      ∙ ap (λ (x : Float). added s (get_or species k 0) x a) (ap (λ (j : ℕ). changes ! j) half ∙ is)

  abbrev reached : ℕ → List Float
  reached i = all_reacted y (reactions_of rates species i) (zeros (length y))

  reached-room : (i : ℕ) → s < length (reached i)
  unfolding derivative_of
  reached-room i = omega (arith, derivative-length y (reactions_of rates species i))

  summed : (i : ℕ) → i ≤ reactions → up_to (4 * i) ≡ reached i ! s
  unfolding zeros
  summed zero few =
      let e : 4 * 0 ≡ 0 = omega arith in
      ap up_to e ∙ loop-none (place_at species (s + 1) changes) 0 «0·0»
      ∙ sym (get_or-replicate (length y) s «0·0» nan here)
  summed (suc i) few =
      let v = speed_of y (reaction_at rates species i) in
      let below : i < reactions = omega arith in
      step (4 * i + 3) (4 * suc i) (2 * i + 1) v (omega arith) (omega arith) (all.more i below)
      (step (4 * i + 2) (4 * i + 3) (2 * i + 1) v (omega arith) (omega arith) (all.more i below)
      (step (4 * i + 1) (4 * i + 2) (2 * i) (neg v) (omega arith) (omega arith) (all.less i below)
      (step (4 * i) (4 * i + 1) (2 * i) (neg v) (omega arith) (omega arith) (all.less i below)
      (summed i (omega arith)))))
      ∙ sym (reacted-at s y (reaction_at rates species i) (reached i) (reached-room i))
      ∙ ap (λ (l : List Float). l ! s)
      (one-more y (reactions_of rates species i) (reaction_at rates species i) (zeros (length y)))

-- The sums by a plan are the derivative.
pub planned-derivative :
    (n reactions : ℕ) (y rates : List Float) (species starts terms : List ℕ) (changes dy : List Float)
    → Planned n reactions species starts terms
    → Changes reactions y rates species changes
    → length y ≡ n
    → length dy ≡ n
    → ((s : ℕ) → s < n → dy ! s ≡ loop (term_at terms changes) (get_or starts s 0) (get_or starts (s + 1) 0) «0·0»)
    → dy ≡ derivative_of y (reactions_of rates species reactions)
unfolding derivative_of
planned-derivative n reactions y rates species starts terms changes dy plan all long sized sums =
    ext_get_or nan dy (derivative_of y (reactions_of rates species reactions))
    (sized ∙ sym long ∙ sym (derivative-length y (reactions_of rates species reactions)))
    (λ s h. let below : s < n = omega arith in
    sums s below ∙ (plan.listed s below).sums changes «0·0»
    ∙ summed reactions y rates species changes all s (omega arith) reactions (omega arith))

-- ---- the changes, reaction by reaction

module _ (y rates : List Float) (species : List ℕ) where
  pub changes-none : (changes : List Float) → Changes 0 y rates species changes
  changes-none changes = record { less = λ i h. absurd (omega arith); more = λ i h. absurd (omega arith) }

  module _ (n : ℕ) (changes : List Float) (v : Float) (room : n < 64) (long : length changes ≡ 128)
      (is : v ≡ speed_of y (reaction_at rates species n)) (all : Changes n y rates species changes) where
    abbrev pair : List Float
    pair = set (set changes (2 * n) (neg v)) (2 * n + 1) v

    earlier : (k : ℕ) → k < 2 * n → pair ! k ≡ changes ! k
    earlier k h =
        get_or-set_other (set changes (2 * n) (neg v)) (2 * n + 1) k v nan (λ e. omega arith)
        ∙ get_or-set_other changes (2 * n) k (neg v) nan (λ e. omega arith)

    pub changes-more : (length pair ≡ 128) × Changes (n + 1) y rates species pair
    changes-more = (
      length-set (set changes (2 * n) (neg v)) (2 * n + 1) v ∙ length-set changes (2 * n) (neg v) ∙ long,
      record {
        less = λ i h. ⊎_elim
            (λ (e : i ≡ n). rw e (get_or-set_other (set changes (2 * n) (neg v)) (2 * n + 1) (2 * n) v nan
            (λ e. omega arith)
            ∙ get_or-set_same changes (2 * n) (neg v) nan (omega arith) ∙ ap neg is))
            (λ (b : i < n). earlier (2 * i) (omega arith) ∙ all.less i b)
            (eq-or-lt_of_le (omega arith));
        more = λ i h. ⊎_elim
            (λ (e : i ≡ n). rw e (get_or-set_same (set changes (2 * n) (neg v)) (2 * n + 1) v nan
            (omega (arith, length-set changes (2 * n) (neg v))) ∙ is))
            (λ (b : i < n). earlier (2 * i + 1) (omega arith) ∙ all.more i b)
            (eq-or-lt_of_le (omega arith));
      },
    )

-- ---- the sums, species by species

-- the sum of the changes that a part of the terms names
pub part-sum : (terms : List ℕ) (changes : List Float) (from to : ℕ) (sum : Float) → from ≤ to → to ≤ length terms
    → loop (term_at (take (to - from) (drop from terms)) changes) 0 (length (take (to - from) (drop from terms))) sum
    ≡ loop (term_at terms changes) from to sum
unfolding term_at
part-sum terms changes from to sum rises room =
    let part = take (to - from) (drop from terms) in
    let size : length part ≡ to - from =
    length-take-le (to - from) (drop from terms) (simp length-drop (omega arith)) in
    let end : from + (to - from) ≡ to = omega arith in
    ap (λ (k : ℕ). loop (term_at part changes) 0 k sum) size
    ∙ loop-shifted (term_at terms changes) (term_at part changes) from sum (to - from)
    (λ t a b. ap (λ (k : ℕ). a ⊕ changes ! k)
    (get_or-take (to - from) (drop from terms) t 0 b ∙ get_or-drop from terms t 0))
    ∙ ap (λ (k : ℕ). loop (term_at terms changes) from k sum) end

pub sums-more : (f : ℕ → Float) (n : ℕ) (dy : List Float) (v : Float) → n < length dy → v ≡ f n
    → ((s : ℕ) → s < n → dy ! s ≡ f s) → (s : ℕ) → s < n + 1 → set dy n v ! s ≡ f s
sums-more f n dy v room is before s h =
    ⊎_elim (λ (e : s ≡ n). rw e (get_or-set_same dy n v nan room ∙ is))
    (λ (b : s < n). get_or-set_other dy n s v nan (λ e. omega arith) ∙ before s b)
    (eq-or-lt_of_le (omega arith))
