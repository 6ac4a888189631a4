-- A text of a form put number by number, and how long it is.
use Rattle.std.proofs.Common.{Result, Ok, Err, ◌*◌, refl, length-append}
use Rattle.std.proofs.Common.{◌≡◌, ℕ, ◌+◌, ◌<◌, ◌≤◌, eqb, List, [], ◌∷◌, ◌++◌, length, get_or, take, ap, ◌∙◌}
use Rattle.std.proofs.Common.{suc, ◌-◌, sym, false, true, drop, append_assoc, append-nil, add-one, arith}
use Rattle.std.proofs.Common.{take-suc, take_all, length-drop, get_or-drop}
use Rattle.words.specs.Loop.{pick}
use Rattle.words.proofs.Branch.{pick_yes, pick_no}
use Rattle.forecast_text.specs.Printed.{text, numeral_of, width_in}
use Rattle.sheet.proofs.Inverse.{length_digits}
use Rattle.forecast_text.proofs.DigitLaws.{width_few}
use Rattle.night_totals.specs.Form.{spelt}
use Rattle.night_totals.specs.Printed.{totals_form, totals_numbers, one_number, printed_of}
use Rattle.night_totals.specs.declared.totals.Totals.{Totals}
use Rattle.night_totals.specs.declared.night.NightError.{NightError}
use Rattle.night_totals.specs.declared.night.NightError.TheVariants as night_error
use Rattle.night_totals.proofs.FormLaws.{split, slots_in, slots-append, spelt-append}

module _ (form : List ℕ) (i : ℕ) (h : i < length form) where
  abbrev x : ℕ
  x = get_or form i 0

  one-more : take (i + 1) form ≡ take i form ++ (x ∷ [])
  one-more = ap (λ k. take k form) (add-one i) ∙ take-suc form i 0 h

  pub piece-more : (vs : List ℕ) → spelt (take (i + 1) form) 0 vs
      ≡ spelt (take i form) 0 vs ++ pick (eqb x 35) (numeral_of (get_or vs (slots_in (take i form)) 0)) (x ∷ [])
  unfolding spelt
  piece-more vs =
      let z : 0 + slots_in (take i form) ≡ slots_in (take i form) = omega arith in
      ap (λ f. spelt f 0 vs) one-more ∙ spelt-append (take i form) (x ∷ []) 0 vs
      ∙ ap (λ l. spelt (take i form) 0 vs ++ l) (append-nil _)
      ∙ ap (λ k. spelt (take i form) 0 vs ++ pick (eqb x 35) (numeral_of (get_or vs k 0)) (x ∷ [])) z

  -- what is put in one, up to a place
  run-more : (from : ℕ) → from ≤ i
      → take (i + 1 - from) (drop from form) ≡ take (i - from) (drop from form) ++ (x ∷ [])
  run-more from l =
      let k : i + 1 - from ≡ suc (i - from) = omega arith in
      let j : from + (i - from) ≡ i = omega arith in
      let inside : i - from < length (drop from form) = omega (arith, length-drop from form) in
      ap (λ n. take n (drop from form)) k ∙ take-suc (drop from form) (i - from) 0 inside
      ∙ ap (λ y. take (i - from) (drop from form) ++ (y ∷ []))
      (get_or-drop from form (i - from) 0 ∙ ap (λ n. get_or form n 0) j)

  pub slots-more : slots_in (take (i + 1) form) ≡ slots_in (take i form) + pick (eqb x 35) 1 0
  unfolding slots_in
  slots-more = ap slots_in one-more ∙ omega (arith, slots-append (take i form) (x ∷ []))

-- the numbers in front of a place are put, and the bytes behind the last of them are not yet
pub record Passed (form vs : List ℕ) (at from numbers : ℕ) : Type 0 where
  pub before : from ≤ at
  pub counted : numbers ≡ slots_in (take at form)
  pub is : spelt (take at form) 0 vs ≡ spelt (take from form) 0 vs ++ take (at - from) (drop from form)

pub passed-none : (form vs : List ℕ) → Passed form vs 0 0 0
unfolding spelt slots_in
passed-none form vs = record { before = omega arith; counted = refl; is = refl }

module _ (form vs : List ℕ) (i from numbers : ℕ) (h : i < length form) (p : Passed form vs i from numbers) where
  -- a byte of the form
  pub passed-byte : eqb (get_or form i 0) 35 ≡ false → Passed form vs (i + 1) from numbers
  passed-byte e = record {
    before = omega (arith, p.before);
    counted = omega (arith, p.counted, slots-more form i h, pick_no {A = ℕ} 1 0 e);
    is =
        piece-more form i h vs ∙ ap (λ l. spelt (take i form) 0 vs ++ l) (pick_no _ _ e)
        ∙ ap (λ l. l ++ (get_or form i 0 ∷ [])) p.is
        ∙ append_assoc (spelt (take from form) 0 vs) (take (i - from) (drop from form)) (get_or form i 0 ∷ [])
        ∙ ap (λ l. spelt (take from form) 0 vs ++ l) (sym (run-more form i h from p.before));
  }

  -- a number
  module _ (e : eqb (get_or form i 0) 35 ≡ true) where
    pub passed-text : spelt (take (i + 1) form) 0 vs
        ≡ spelt (take from form) 0 vs ++ (take (i - from) (drop from form) ++ numeral_of (get_or vs numbers 0))
    passed-text =
        piece-more form i h vs ∙ ap (λ l. spelt (take i form) 0 vs ++ l) (pick_yes _ _ e)
        ∙ ap (λ n. spelt (take i form) 0 vs ++ numeral_of (get_or vs n 0)) (sym p.counted)
        ∙ ap (λ l. l ++ numeral_of (get_or vs numbers 0)) p.is
        ∙ append_assoc (spelt (take from form) 0 vs) (take (i - from) (drop from form))
        (numeral_of (get_or vs numbers 0))

    pub passed-number : Passed form vs (i + 1) (i + 1) (numbers + 1)
    passed-number =
        let z : i + 1 - (i + 1) ≡ 0 = omega arith in
        record {
          before = omega arith;
          counted = omega (arith, p.counted, slots-more form i h, pick_yes {A = ℕ} 1 0 e);
          is =
              sym (append-nil (spelt (take (i + 1) form) 0 vs))
              ∙ ap (λ n. spelt (take (i + 1) form) 0 vs ++ take n (drop (i + 1) form)) (sym z);
        }

-- the whole form, where all its places are passed
pub passed-all : (form vs : List ℕ) (i from numbers : ℕ) → i ≤ length form → length form ≤ i
    → Passed form vs i from numbers
    → spelt form 0 vs ≡ spelt (take from form) 0 vs ++ take (length form - from) (drop from form)
passed-all form vs i from numbers l h p =
    let z : i - from ≡ length form - from = omega arith in
    ap (λ f. spelt f 0 vs) (sym (take_all i form h)) ∙ p.is
    ∙ ap (λ n. spelt (take from form) 0 vs ++ take n (drop from form)) z

-- a number has no more than twenty digits
numeral-few : (v : ℕ) → length (numeral_of v) ≤ 20
numeral-few v = omega (arith, length_digits 10 (width_in 19 v) v, width_few 19 v)

-- nineteen more than its place in the form
piece-few : (x v : ℕ) → length (pick (eqb x 35) (numeral_of v) (x ∷ [])) ≤ 1 + 19 * pick (eqb x 35) 1 0
piece-few x v =
    split (eqb x 35)
    (λ e. omega (arith, ap length (pick_yes (numeral_of v) (x ∷ []) e), pick_yes {A = ℕ} 1 0 e, numeral-few v))
    (λ e. omega (arith, ap length (pick_no (numeral_of v) (x ∷ []) e), pick_no {A = ℕ} 1 0 e))

spelt-within : (form : List ℕ) (k : ℕ) (vs : List ℕ) → length (spelt form k vs) ≤ length form + 19 * slots_in form
unfolding spelt slots_in
spelt-within [] k vs = omega arith
spelt-within (x ∷ form) k vs =
    let piece = pick (eqb x 35) (numeral_of (get_or vs k 0)) (x ∷ []) in
    let next = k + pick (eqb x 35) 1 0 in
    omega (arith, length-append piece (spelt form next vs), piece-few x (get_or vs k 0), spelt-within form next vs)

slots-few : (form : List ℕ) → slots_in form ≤ length form
unfolding slots_in
slots-few [] = omega arith
slots-few (x ∷ form) =
    split (eqb x 35)
    (λ e. omega (arith, pick_yes {A = ℕ} 1 0 e, slots-few form))
    (λ e. omega (arith, pick_no {A = ℕ} 1 0 e, slots-few form))

-- twenty bytes at most for each byte of the form
pub spelt-few : (form : List ℕ) (k : ℕ) (vs : List ℕ) → length (spelt form k vs) ≤ 20 * length form
spelt-few form k vs = omega (arith, spelt-within form k vs, slots-few form)

-- ---- what is printed

pub form-length : length totals_form ≡ 138
unfolding text
form-length = refl

pub form-slots : slots_in totals_form ≡ 15
unfolding text slots_in pick
form-slots = refl

line-slots : slots_in (text "refused 20 #\n") ≡ 1
unfolding text slots_in pick
line-slots = refl

many-slots : slots_in (text "refused 26\n") ≡ 0
unfolding text slots_in pick
many-slots = refl

pub totals-few : (t : Totals) → length (printed_of (Ok t)) ≤ 423
unfolding printed_of
totals-few t = omega (arith, form-length, form-slots, spelt-within totals_form 0 (totals_numbers t))

pub refusal-few : (e : NightError) → length (printed_of (Err e)) ≤ 32
unfolding printed_of text
refusal-few (night_error.Malformed line) =
    omega (arith, line-slots, spelt-within (text "refused 20 #\n") 0 (one_number line))
refusal-few night_error.TooMany = omega (arith, many-slots, spelt-within (text "refused 26\n") 0 (one_number 0))

-- what is put of a refusal
pub line-put : (line : ℕ) → text "refused 20 " ++ numeral_of line ++ text "\n" ≡ printed_of (Err (night_error.Malformed
    line))
unfolding printed_of spelt text pick
line-put line = simp append_assoc

pub many-put : text "refused 26\n" ≡ printed_of (Err night_error.TooMany)
unfolding printed_of spelt text pick
many-put = refl

-- an error within, by what it is
pub error_is : {o : Result Totals NightError} {e e' : NightError} → o ≡ Err e → e ≡ e' → o ≡ Err e'
error_is p q = rw (← q) p
