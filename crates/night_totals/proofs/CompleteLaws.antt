-- A text of a form is taken to its end, and its numbers are found.
use Rattle.std.proofs.Common.{◌≡◌, ℕ, zero, suc, ◌+◌, ◌-◌, ◌*◌, ◌/◌, ◌%◌, ◌^◌, ◌<◌, ◌≤◌, Bool, true, false, eqb, ltb}
use Rattle.std.proofs.Common.{List, [], ◌∷◌, ◌++◌, length, get_or, set, sym, refl, ap, ◌∙◌, append_assoc, append-nil}
use Rattle.std.proofs.Common.{mod-lt, mod-eq_of_lt, div-add-mod', arith, length-append, ltb-false, ltb-true, le-ltb}
use Rattle.std.proofs.Common.{lt-ltb, eq-eqb, ne_eqb, eqb-true}
use mathlib.Core.Bool.{false≢true}
use Rattle.std.proofs.Common.{Option, None, Some, ◌&&◌}
use borrow.Author.Tests.{lt-leb}
use lib.Seq.{get_or-append_seam}
use Rattle.words.specs.Loop.{pick}
use Rattle.words.proofs.Branch.{pick_yes, pick_no, pick_all}
use Rattle.forecast_text.specs.Printed.{numeral_of}
use Rattle.night_totals.specs.Form.{spelt}
use Rattle.night_totals.specs.Filling.{blank_of, numbered_at, onward, valued_of, kept, longer_of, grown}
use Rattle.night_totals.specs.Filling.{passed_of, passed_from, digit_of, stored_of, behind_of, number_of, filled_of}
use Rattle.night_totals.specs.declared.filling.Filling.{Filling}
use Rattle.night_totals.specs.declared.filling.Number.TheVariants as numbers
use Rattle.night_totals.proofs.NumeralLaws.{numeral-one, numeral-more}
use Rattle.night_totals.proofs.FormLaws.{slots_in, spelt-byte, spelt-number, split}

-- bytes one after the other, the first of them where a text of the form has come so far
abbrev pub filled_from : List ℕ → Option Filling → ℕ → Option Filling
filled_from form None b = None
filled_from form (Some q) b = filled_of form q b

unfoldable pub fill_of : List ℕ → Option Filling → List ℕ → Option Filling
fill_of form o [] = o
fill_of form o (b ∷ s) = fill_of form (filled_from form o b) s

pub fill-append : (form : List ℕ) (o : Option Filling) (s t : List ℕ)
    → fill_of form o (s ++ t) ≡ fill_of form (fill_of form o
    s) t
unfolding fill_of
fill-append form o [] t = refl
fill-append form o (b ∷ s) t = fill-append form (filled_from form o b) s t

-- ---- a number

module _ (form : List ℕ) (q : Filling) (slot : numbered_at form q.at ≡ true) where
  digit-filled : (d : ℕ) → d < 10 → filled_of form q (48 + d) ≡ grown q (longer_of q.number d)
  unfolding filled_of number_of digit_of
  digit-filled d h =
      let z : 48 + d - 48 ≡ d = omega arith in
      pick_no _ _ (ne_eqb (48 + d) 35 (λ e. omega arith)) ∙ pick_yes _ _ slot
      ∙ pick_no _ _ (le-ltb (48 + d) 48 (omega arith)) ∙ pick_no _ _ (le-ltb 57 (48 + d) (omega arith))
      ∙ ap (λ e. grown q (longer_of q.number e)) z

  first-digit : {w : ℕ} → q.number ≡ numbers.Awaited w → (d : ℕ) → d < 10
      → filled_of form q (48 + d) ≡ Some (valued_of q d)
  unfolding longer_of
  first-digit idle d h = digit-filled d h ∙ ap (λ o. grown q (longer_of o d)) idle

  next-digit : (v : ℕ) → q.number ≡ numbers.Begun v → 0 < v → v < 1000000000000000 → (d : ℕ) → d < 10
      → filled_of form q (48 + d) ≡ Some (valued_of q (v * 10 + d))
  unfolding longer_of
  next-digit v going some few d h =
      digit-filled d h ∙ ap (λ o. grown q (longer_of o d)) going
      ∙ ap (grown q) (pick_no _ _ (ne_eqb v 0 (λ e. omega arith)) ∙ pick_no _ _ (lt-leb 1000000000000000 v few))

-- whatever value a number holds that has not begun
module _ (form : List ℕ) (q : Filling) {w : ℕ} (idle : q.number ≡ numbers.Awaited w)
    (slot : numbered_at form q.at ≡ true) where
  -- by how large it is
  numeral-by : (n v : ℕ) → v ≤ n → v < 10000000000000000 → fill_of form (Some q) (numeral_of v) ≡ Some (valued_of q v)
  unfolding fill_of
  numeral-by zero v l h =
      rw (numeral-one v (omega arith)) (first-digit form q slot idle v (omega arith))
  numeral-by (suc n) v l h =
      pick_all (λ (x : ℕ). x ≡ x → fill_of form (Some q) (numeral_of v) ≡ Some (valued_of q v)) (ltb v 10) 0 1
      (λ few r. let u : v < 10 = ltb-true _ _ few in
      rw (numeral-one v u) (first-digit form q slot idle v u))
      (λ many r. let u : 10 ≤ v = ltb-false _ _ many in
      let z : v ≡ v / 10 * 10 + v % 10 = sym (div-add-mod' v 10) in
      let t : v % 10 < 10 = mod-lt v (omega arith) in
      let m : numeral_of v ≡ numeral_of (v / 10) ++ ((48 + v % 10) ∷ []) =
      ap numeral_of z ∙ numeral-more (v / 10) (v % 10) (omega arith) (omega arith) t in
      ap (fill_of form (Some q)) m ∙ fill-append form (Some q) (numeral_of (v / 10)) ((48 + v % 10) ∷ [])
      ∙ ap (λ (o : Option Filling). filled_from form o (48 + v % 10)) (numeral-by n (v / 10) (omega arith)
      (omega arith))
      ∙ next-digit form (valued_of q (v / 10)) slot (v / 10) refl (omega arith) (omega arith) (v % 10) t
      ∙ ap (λ w. Some (valued_of q w)) (sym z)) refl

  pub numeral-filled : (v : ℕ) → v < 10000000000000000 → fill_of form (Some q) (numeral_of v) ≡ Some (valued_of q v)
  numeral-filled v h = numeral-by v v (omega arith) h

-- ---- the form

-- behind a number stands a byte of the form that is no digit
unfoldable pub proper_from : Bool → List ℕ → Bool
proper_from after [] = pick after false true
proper_from true (x ∷ form) = pick (ltb x 48) (pick (eqb x 35) false (proper_from false form)) false
proper_from false (x ∷ form) = proper_from (eqb x 35) form

-- the numbers of ws that a form sets among vs, from the k-th on
unfoldable pub set_in : List ℕ → ℕ → List ℕ → List ℕ → List ℕ
set_in [] k vs ws = vs
set_in (x ∷ form) k vs ws =
    set_in form (k + pick (eqb x 35) 1 0) (pick (eqb x 35) (set vs k (get_or ws k 0)) vs) ws

set-byte : (x : ℕ) (f : List ℕ) (k : ℕ) (vs ws : List ℕ) → eqb x 35 ≡ false → set_in (x ∷ f) k vs ws ≡ set_in f k vs ws
unfolding set_in
set-byte x f k vs ws e =
    let z : k + pick (eqb x 35) 1 0 ≡ k = omega (arith, pick_no {A = ℕ} 1 0 e) in
    ap (λ us. set_in f (k + pick (eqb x 35) 1 0) us ws) (pick_no _ _ e) ∙ ap (λ j. set_in f j vs ws) z

set-number : (f : List ℕ) (k : ℕ) (vs ws : List ℕ) → set_in (35 ∷ f) k vs ws ≡ set_in f (suc k) (set vs k (get_or ws k
    0)) ws
unfolding set_in pick
set-number f k vs ws = let z : k + 1 ≡ suc k = omega arith in ap (λ j. set_in f j (set vs k (get_or ws k 0)) ws) z

abbrev pub state_at : List ℕ → ℕ → List ℕ → Filling
state_at done k vs =
    record { at = length done; number = numbers.Awaited 0; filled = k; values = vs }

abbrev number_at : List ℕ → ℕ → List ℕ → ℕ → Filling
number_at done k vs v =
    record { at = length done; number = numbers.Begun v; filled = k; values = vs }

at-seam : (done f : List ℕ) (x : ℕ) → length done < length (done ++ (x ∷ f))
at-seam done f x = omega (arith, length-append done (x ∷ f))

numbered-seam : (done f : List ℕ) (x : ℕ) → numbered_at (done ++ (x ∷ f)) (length done) ≡ eqb x 35
unfolding numbered_at
numbered-seam done f x =
    ap (λ c. c && eqb (get_or (done ++ (x ∷ f)) (length done) 0) 35) (lt-ltb _ _ (at-seam done f x))
    ∙ ap (λ y. eqb y 35) (get_or-append_seam done x f 0)

length-one : (done : List ℕ) (x : ℕ) → length done + 1 ≡ length (done ++ (x ∷ []))
length-one done x = sym (length-append done (x ∷ []))

passed-seam : (done f : List ℕ) (x : ℕ) (q : Filling) → q.at ≡ length done
    → passed_of (done ++ (x ∷ f)) q x ≡ Some (onward q)
unfolding passed_of
passed-seam done f x q e =
    let l : q.at < length (done ++ (x ∷ f)) = omega (arith, at-seam done f x) in
    pick_no _ _ (lt-leb _ _ l)
    ∙ pick_yes _ _ (eq-eqb _ _ (ap (λ k. get_or (done ++ (x ∷ f)) k 0) e ∙ get_or-append_seam done x f 0))

picked : (b x : Bool) → pick b x false ≡ true → (b ≡ true) × (x ≡ true)
unfolding pick
picked true x e = (refl, e)
picked false x e = absurd (false≢true e)

other-true : (b x : Bool) → pick b false x ≡ true → (b ≡ false) × (x ≡ true)
unfolding pick
other-true true x e = absurd (false≢true e)
other-true false x e = (refl, e)

module _ (ws : List ℕ) (few : (k : ℕ) → get_or ws k 0 < 10000000000000000) where
  -- the rest of a form, from a place where no number has begun, or from behind a number that has come whole
  abbrev Goal : Bool → List ℕ → Type 0
  Goal false f =
      (done vs : List ℕ) (k : ℕ) → proper_from false f ≡ true → k + slots_in f ≤ 16 → length (done ++ f) < 2 ^ 32
      → fill_of (done ++ f) (Some (state_at done k vs)) (spelt f k ws)
      ≡ Some (state_at (done ++ f) (k + slots_in f) (set_in f k vs ws))
  Goal true f =
      (done vs : List ℕ) (k : ℕ) → proper_from true f ≡ true → suc k + slots_in f ≤ 16
      → length (done ++ (35 ∷ f)) < 2 ^ 32
      → fill_of (done ++ (35 ∷ f)) (Some (number_at done k vs (get_or ws k 0))) (spelt f (suc k) ws)
      ≡ Some (state_at (done ++ (35 ∷ f)) (suc k + slots_in f) (set_in f (suc k) (set vs k (get_or ws k 0)) ws))

  byte-case : (x : ℕ) (f : List ℕ) → eqb x 35 ≡ false → Goal false f → Goal false (x ∷ f)
  unfolding slots_in proper_from fill_of filled_of
  byte-case x f e g done vs k p l h =
      let form = done ++ (x ∷ f) in
      let q = state_at done k vs in
      let rest = spelt f k ws in
      let more = done ++ (x ∷ []) in
      let step : filled_of form q x ≡ Some (state_at more k vs) =
      pick_no _ _ e ∙ pick_no _ _ (numbered-seam done f x ∙ e)
      ∙ passed-seam done f x q refl
      ∙ ap (λ n. Some (record { at = n; number = numbers.Awaited 0; filled = k; values = vs })) (length-one done x) in
      let z : k + slots_in f ≡ k + (pick (eqb x 35) 1 0 + slots_in f) = omega (arith, pick_no {A = ℕ} 1 0 e) in
      ap (fill_of form (Some q)) (spelt-byte x f k ws e)
      ∙ ap (λ (r : Option Filling). fill_of form r rest) step
      ∙ rw (append_assoc done (x ∷ []) f) at
      (g more vs k (ap (λ b. proper_from b f) (sym e) ∙ p) (omega arith) (rw (append_assoc done (x ∷ []) f) h))
      ∙ ap (λ n. Some (state_at form n (set_in f k vs ws))) z
      ∙ ap (λ us. Some (state_at form (k + (pick (eqb x 35) 1 0 + slots_in f)) us)) (sym (set-byte x f k vs ws e))

  number-case : (f : List ℕ) → Goal true f → Goal false (35 ∷ f)
  unfolding slots_in proper_from fill_of pick
  number-case f g done vs k p l h =
      let form = done ++ (35 ∷ f) in
      let q = state_at done k vs in
      let v = get_or ws k 0 in
      let z : suc k + slots_in f ≡ k + (1 + slots_in f) = omega arith in
      ap (fill_of form (Some q)) (spelt-number f k ws)
      ∙ fill-append form (Some q) (numeral_of v) (spelt f (suc k) ws)
      ∙ ap (λ (r : Option Filling). fill_of form r (spelt f (suc k) ws))
      (numeral-filled form q refl (numbered-seam done f 35) v (few k))
      ∙ g done vs k p (omega arith) h
      ∙ ap (λ n. Some (state_at form n (set_in f (suc k) (set vs k v) ws))) z
      ∙ ap (λ us. Some (state_at form (k + (1 + slots_in f)) us)) (sym (set-number f k vs ws))

  after-case : (y : ℕ) (f : List ℕ) → Goal false f → Goal true (y ∷ f)
  unfolding slots_in proper_from fill_of filled_of number_of behind_of stored_of
  after-case y f g done vs k p l h =
      let form = done ++ (35 ∷ y ∷ f) in
      let v = get_or ws k 0 in
      let q = number_at done k vs v in
      let low = (picked (ltb y 48) _ p).0 in
      let e : eqb y 35 ≡ false = (other-true (eqb y 35) _ (picked (ltb y 48) _ p).1).0 in
      let right = (other-true (eqb y 35) _ (picked (ltb y 48) _ p).1).1 in
      let front = done ++ (35 ∷ []) in
      let more = done ++ (35 ∷ y ∷ []) in
      let us = set vs k v in
      let s : form ≡ front ++ (y ∷ f) = sym (append_assoc done (35 ∷ []) (y ∷ f)) in
      let l₁ : length front ≡ length done + 1 = length-append done (35 ∷ []) in
      let l₂ : length more ≡ length done + 2 = length-append done (35 ∷ y ∷ []) in
      let l₃ : length form ≡ length done + length (35 ∷ y ∷ f) = length-append done (35 ∷ y ∷ f) in
      let a : (length done + 1) % 2 ^ 64 ≡ length done + 1 = mod-eq_of_lt (omega arith) in
      let at : (length done + 1) % 2 ^ 64 + 1 ≡ length more = omega arith in
      let n : k + 1 ≡ suc k = omega arith in
      let step : filled_of form q y ≡ Some (state_at more (suc k) us) =
      pick_no _ _ e ∙ pick_yes _ _ (numbered-seam done (y ∷ f) 35)
      ∙ pick_yes _ _ low
      ∙ ap (λ (r : Option Filling). passed_from form r y) (pick_no _ _ (lt-leb 16 k (omega arith)))
      ∙ ap (λ f'. passed_of f' (kept q v) y) s
      ∙ passed-seam front f y (kept q v) (a ∙ sym l₁)
      ∙ ap (λ j. Some (record { at = j; number = numbers.Awaited 0; filled = k + 1; values = us })) at
      ∙ ap (λ j. Some (state_at more j us)) n in
      let z : suc k + slots_in f ≡ suc k + (pick (eqb y 35) 1 0 + slots_in f) = omega (arith, pick_no {A = ℕ} 1 0 e) in
      ap (fill_of form (Some q)) (spelt-byte y f (suc k) ws e)
      ∙ ap (λ (r : Option Filling). fill_of form r (spelt f (suc k) ws)) step
      ∙ rw (append_assoc done (35 ∷ y ∷ []) f) at
      (g more us (suc k) right (omega arith) (rw (append_assoc done (35 ∷ y ∷ []) f) h))
      ∙ ap (λ n. Some (state_at form n (set_in f (suc k) us ws))) z
      ∙ ap (λ rs. Some (state_at form (suc k + (pick (eqb y 35) 1 0 + slots_in f)) rs)) (sym (set-byte y f
      (suc k) us ws e))

  complete : (after : Bool) (f : List ℕ) → Goal after f
  unfolding proper_from fill_of spelt slots_in set_in pick
  complete true [] = λ done vs k p. absurd (false≢true p)
  complete false [] = λ done vs k p l h. let z : k + 0 ≡ k = omega arith in rw (append-nil done, z) refl
  complete true (y ∷ f) = after-case y f (complete false f)
  complete false (x ∷ f) =
      split (eqb x 35) (λ e. rw (eqb-true x 35 e) (number-case f (complete true f)))
      (λ e. byte-case x f e (complete false f))

  -- from the beginning
  pub filled-whole : (form : List ℕ) → proper_from false form ≡ true → slots_in form ≤ 16 → length form < 2 ^ 32
      → fill_of form (Some blank_of) (spelt form 0 ws)
      ≡ Some (state_at form (slots_in form) (set_in form 0 blank_of.values ws))
  filled-whole form p l h =
      let z : 0 + slots_in form ≡ slots_in form = omega arith in
      rw z at (complete false form [] blank_of.values 0 p (omega arith) h)
