-- What is printed of totals: its fourteen lines, and its numbers found again.
use Rattle.std.proofs.Common.{Some}
use Rattle.std.proofs.Common.{◌≡◌, ℕ, zero, suc, ◌+◌, ◌/◌, ◌%◌, ◌≤◌, true, false, eqb, ltb, List, [], ◌∷◌, ◌++◌}
use Rattle.std.proofs.Common.{get_or, sym, refl, ap, ◌∙◌, append_assoc, append-nil, arith, ne_eqb, eqb-true}
use Rattle.words.specs.Loop.{pick}
use Rattle.words.proofs.Branch.{pick_no, pick_all}
use Rattle.sheet.specs.Digits.{byte_of, power, digits}
use Rattle.forecast_text.specs.Printed.{text, numeral_of}
use Rattle.night_totals.specs.Form.{spelt}
use Rattle.night_totals.specs.Filling.{blank_of}
use Rattle.night_totals.specs.Printed.{totals_form, totals_numbers, totals_from, printed_of}
use Rattle.night_totals.specs.declared.filling.Filling.{Filling}
use Rattle.night_totals.specs.declared.totals.Totals.{Totals}
use Rattle.night_totals.proofs.FormLaws.{split, slots_in, spelt-byte, spelt-number}
use Rattle.night_totals.proofs.CompleteLaws.{fill_of, proper_from, set_in, state_at, filled-whole}
use Rattle.night_totals.proofs.WrittenLaws.{form-length, form-slots}
use Rattle.night_chain.specs.Texts.{printed, Short, first_lines, Begins}
use Rattle.night_chain.proofs.TextLaws.{ended, behind, first-behind, ended-append, first-append, behind-append}
use Rattle.night_chain.proofs.TextLaws.{first-fewer, ends_line, behind-plain}

-- ---- lines of a form, and of a text of it

byte-plain : (d : ℕ) → eqb (byte_of d) 10 ≡ false
unfolding byte_of
byte-plain d =
    pick_all (λ x. eqb x 10 ≡ false) (ltb d 10) (48 + d) (87 + d) (λ e. ne_eqb (48 + d) 10 (λ q. omega arith))
    (λ e. ne_eqb (87 + d) 10 (λ q. omega arith))

digits-plain : (b k v : ℕ) → ended (digits b k v) ≡ 0
unfolding digits ended
digits-plain b zero v = refl
digits-plain b (suc k) v =
    omega (arith, digits-plain b k (v % power b k), pick_no {A = ℕ} 1 0 (byte-plain (v / power b k)))

pub numeral-plain : (v : ℕ) → ended (numeral_of v) ≡ 0
numeral-plain v = digits-plain 10 _ v

pub ended-spelt : (f : List ℕ) (k : ℕ) (vs : List ℕ) → ended (spelt f k vs) ≡ ended f
unfolding spelt ended
ended-spelt [] k vs = refl
ended-spelt (x ∷ f) k vs =
    split (eqb x 35)
    (λ e. let z : x ≡ 35 = eqb-true x 35 e in
    let u : ended (numeral_of (get_or vs k 0)) + ended (spelt f (suc k) vs) ≡ pick (eqb 35 10) 1 0 + ended f =
    omega (arith, numeral-plain (get_or vs k 0), ended-spelt f (suc k) vs, pick_no {A = ℕ} {b = eqb 35 10} 1 0 refl) in
    ap (λ y. ended (spelt (y ∷ f) k vs)) z ∙ ap ended (spelt-number f k vs)
    ∙ ended-append (numeral_of (get_or vs k 0)) (spelt f (suc k) vs) ∙ u
    ∙ ap (λ y. pick (eqb y 10) 1 0 + ended f) (sym z))
    (λ e. ap ended (spelt-byte x f k vs e) ∙ ap (λ n. pick (eqb x 10) 1 0 + n) (ended-spelt f k vs))

behind-spelt : (f : List ℕ) (n k : ℕ) (vs : List ℕ) → behind f n ≡ [] → behind (spelt f k vs) n ≡ []
unfolding spelt behind
behind-spelt [] n k vs h = refl
behind-spelt (x ∷ f) zero k vs h = absurd (let z : ◌≡◌ {A = ℕ} 0 1 = cc in omega arith)
behind-spelt (x ∷ f) (suc n) k vs h =
    split (eqb x 35)
    (λ e. let z : x ≡ 35 = eqb-true x 35 e in
    let u : behind f (pick (eqb 35 10) n (suc n)) ≡ [] =
    ap (λ y. behind f (pick (eqb y 10) n (suc n))) (sym z) ∙ h in
    ap (λ l. behind l (suc n)) (ap (λ y. spelt (y ∷ f) k vs) z ∙ spelt-number f k vs)
    ∙ behind-plain (numeral_of (get_or vs k 0)) (spelt f (suc k) vs) n (numeral-plain (get_or vs k 0))
    ∙ behind-spelt f (suc n) (suc k) vs (ap (behind f) (sym (pick_no {A = ℕ} {b = eqb 35 10} n (suc n) refl)) ∙ u))
    (λ e. ap (λ l. behind l (suc n)) (spelt-byte x f k vs e) ∙ behind-spelt f (pick (eqb x 10) n (suc n)) k vs h)

-- ---- the form of totals

form-proper : proper_from false totals_form ≡ true
unfolding text proper_from pick
form-proper = refl

pub form-ended : ended totals_form ≡ 14
unfolding text ended pick
form-ended = refl

form-behind : behind totals_form 14 ≡ []
unfolding text behind pick
form-behind = refl

pub form-ends : ends_line totals_form ≡ true
unfolding text ends_line
form-ends = refl

-- ---- printed totals

pub printed-is : (t : Totals) → printed t ≡ spelt totals_form 0 (totals_numbers t)
unfolding printed_of
printed-is t = refl

pub printed_ended : (t : Totals) → ended (printed t) ≡ 14
printed_ended t = ap ended (printed-is t) ∙ ended-spelt totals_form 0 (totals_numbers t) ∙ form-ended

printed-behind : (t : Totals) → behind (printed t) 14 ≡ []
printed-behind t = ap (λ s. behind s 14) (printed-is t) ∙ behind-spelt totals_form 14 0 (totals_numbers t) form-behind

printed-first : (t : Totals) (s : List ℕ) → first_lines (printed t ++ s) 14 ≡ printed t
printed-first t s =
    first-append (printed t) s 14 (omega (arith, printed_ended t))
    ∙ sym (append-nil (first_lines (printed t) 14))
    ∙ ap (λ l. first_lines (printed t) 14 ++ l) (sym (printed-behind t))
    ∙ first-behind (printed t) 14

printed-rest : (t : Totals) (s : List ℕ) → behind (printed t ++ s) 14 ≡ s
printed-rest t s =
    behind-append (printed t) s 14 (omega (arith, printed_ended t)) ∙ ap (λ l. l ++ s) (printed-behind t)

pub fronts-same : (t u : Totals) (p q : List ℕ) → printed t ++ p ≡ printed u ++ q → printed t ≡ printed u
fronts-same t u p q e = sym (printed-first t p) ∙ ap (λ s. first_lines s 14) e ∙ printed-first u q

pub rests-same : (t u : Totals) (p q : List ℕ) → printed t ++ p ≡ printed u ++ q → p ≡ q
rests-same t u p q e = sym (printed-rest t p) ∙ ap (λ s. behind s 14) e ∙ printed-rest u q

-- ---- the numbers of printed totals

abbrev pub come_of : Totals → Filling
come_of t =
    state_at totals_form (slots_in totals_form) (set_in totals_form 0 blank_of.values (totals_numbers t))

pub printed-filled : (t : Totals) → Short t → fill_of totals_form (Some blank_of) (printed t) ≡ Some (come_of t)
printed-filled t h =
    ap (fill_of totals_form (Some blank_of)) (printed-is t)
    ∙ filled-whole (totals_numbers t) h totals_form form-proper (omega (arith, form-slots)) (omega (arith, form-length))

come-totals : (t : Totals) → totals_from (come_of t).values ≡ t
unfolding set_in text pick
come-totals t = refl

pub printed-once : (t u : Totals) → Short t → Short u → printed t ≡ printed u → t ≡ u
printed-once t u h k e =
    let z : come_of t ≡ come_of u =
    some-same (sym (printed-filled t h) ∙ ap (fill_of totals_form (Some blank_of)) e ∙ printed-filled u k) in
    sym (come-totals t) ∙ ap (λ (q : Filling). totals_from q.values) z ∙ come-totals u
  where
    some-same : {p q : Filling} → Some p ≡ Some q → p ≡ q
    some-same h = cc

-- ---- a text that begins as totals do

-- with all its lines, then with fewer
pub begins-all : (t : Totals) (c rest : List ℕ) (n : ℕ) → Short t → c ≡ printed t ++ rest → Begins n c
begins-all t c rest n h e = record {
  t = t;
  short = h;
  rest = behind (printed t) n ++ rest;
  is =
      e ∙ ap (λ l. l ++ rest) (sym (first-behind (printed t) n))
      ∙ append_assoc (first_lines (printed t) n) (behind (printed t) n) rest;
}

pub begins-fewer : (i n : ℕ) (c : List ℕ) → i ≤ n → n ≤ 14 → Begins n c → Begins i c
begins-fewer i n c l h x =
    let s = first_lines (printed x.t) n in
    let m : n ≤ ended (printed x.t) = omega (arith, printed_ended x.t) in
    record {
      t = x.t;
      short = x.short;
      rest = behind s i ++ x.rest;
      is =
          x.is ∙ ap (λ r. r ++ x.rest) (sym (first-behind s i)) ∙ append_assoc (first_lines s i) (behind s i) x.rest
          ∙ ap (λ r. r ++ (behind s i ++ x.rest)) (first-fewer i n (printed x.t) l m);
    }
