-- What has come of a form can be read off the record: `past` is the text that was taken since the form began.
use Rattle.std.proofs.Common.{◌≡◌, ℕ, zero, suc, ◌+◌, ◌-◌, ◌*◌, ◌%◌, ◌^◌, ◌<◌, ◌≤◌, true, false, eqb, ltb, leb}
use Rattle.std.proofs.Common.{List, [], ◌∷◌, ◌++◌, length, get_or, take, set, sym, refl, ap, ◌∙◌, true≢false}
use Rattle.std.proofs.Common.{append_assoc, append-nil, mod-eq_of_lt, add-one, arith, length-set, take-suc}
use Rattle.std.proofs.Common.{get_or-set_same, ltb-false, ltb-true, ne_eqb, eqb-true, leb-false}
use Rattle.std.proofs.Common.{Option, None, Some, subst}
use Rattle.std.proofs.lemmas.Bool.{and_parts}
use borrow.Author.Tests.{eqb-false}
use Rattle.words.proofs.Branch.{pick_yes, pick_no, pick_all}
use Rattle.forecast_text.specs.Printed.{numeral_of}
use Rattle.night_totals.specs.Form.{spelt}
use Rattle.night_totals.specs.Filling.{blank_of, numbered_at, onward, valued_of, kept, longer_of, grown}
use Rattle.night_totals.specs.Filling.{passed_of, passed_from, digit_of, stored_of}
use Rattle.night_totals.specs.Filling.{behind_from, behind_of, number_of, filled_of}
use Rattle.night_totals.specs.declared.filling.Filling.{Filling}
use Rattle.night_totals.specs.declared.filling.Number.{Number}
use Rattle.night_totals.specs.declared.filling.Number.TheVariants as numbers
use Rattle.night_totals.proofs.NumeralLaws.{numeral-one, numeral-more}
use Rattle.night_totals.proofs.FormLaws.{by_number, slots_in, slots-one, slots-number, spelt-append, spelt-set}

-- the number that has begun, as far as it has come
abbrev pub begun : Number → List ℕ
begun (numbers.Awaited v) = []
begun (numbers.Begun v) = numeral_of v

-- none has begun
pub record Idle (n : Number) : Type 0 where
  pub value : ℕ
  pub is : n ≡ numbers.Awaited value

unfoldable pub past : List ℕ → Filling → List ℕ
past form q = spelt (take q.at form) 0 q.values ++ begun q.number

pub record Sound (form : List ℕ) (q : Filling) : Type 0 where
  pub within : q.at ≤ length form
  pub counted : q.filled ≡ slots_in (take q.at form)
  pub room : length q.values ≡ 16
  pub here : (v : ℕ) → q.number ≡ numbers.Begun v → numbered_at form q.at ≡ true

pub blank-sound : (form : List ℕ) → Sound form blank_of
unfolding slots_in
blank-sound form = record {
  within = omega arith;
  counted = refl;
  room = refl;
  here = λ v e. absurd (let z : ◌≡◌ {A = ℕ} 0 1 = cc in omega arith);
}

pub blank-past : (form : List ℕ) → past form blank_of ≡ []
unfolding past spelt
blank-past form = refl

-- a number stands at a place of the form
numbered_is : (form : List ℕ) (at : ℕ) → numbered_at form at ≡ true → (at < length form) × (get_or form at 0 ≡ 35)
unfolding numbered_at
numbered_is form at h = let p = and_parts _ _ h in (ltb-true _ _ p.0, eqb-true _ _ p.1)

nonzero : (n : ℕ) → (n ≡ 0 → ⊥) → 0 < n
nonzero zero h = absurd (h refl)
nonzero (suc n) h = omega arith

-- where no number stands, none has begun
pub idle-off : (form : List ℕ) (q : Filling) → Sound form q → numbered_at form q.at ≡ false → Idle q.number
idle-off form q s off =
    by_number q.number (λ v e. record { value = v; is = e }) (λ v e. absurd (true≢false (sym (s.here v e) ∙ off)))

module _ (form : List ℕ) (short : length form < 2 ^ 32) where
  -- what one byte more comes to, where the text is of the form then
  abbrev pub Next : List ℕ → ℕ → Option Filling → Type 0
  Next before b None = Unit {0}
  Next before b (Some r) = Sound form r × (past form r ≡ before ++ (b ∷ []))

  -- ---- a byte of the form

  module _ (q : Filling) (s : Sound form q) (b : ℕ) where
    take-one : q.at < length form → take (q.at + 1) form ≡ take q.at form ++ (get_or form q.at 0 ∷ [])
    take-one h = ap (λ k. take k form) (add-one q.at) ∙ take-suc form q.at 0 h

    onward-next : (b ≡ 35 → ⊥) → {v : ℕ} → q.number ≡ numbers.Awaited v → q.at < length form → get_or form q.at 0 ≡ b
        → Next (past form q) b (Some (onward q))
    unfolding past spelt slots_in
    onward-next plain idle low same =
        let t : take (q.at + 1) form ≡ take q.at form ++ (b ∷ []) =
        take-one low ∙ ap (λ x. take q.at form ++ (x ∷ [])) same in
        let n : eqb b 35 ≡ false = ne_eqb b 35 plain in (
          record {
            within = omega arith;
            counted = s.counted ∙ sym (ap slots_in t ∙ slots-one (take q.at form) b n);
            room = s.room;
            here = λ v y. absurd (let z : ◌≡◌ {A = ℕ} 0 1 = cc in omega arith);
          },
          rw idle
              (append-nil _ ∙ ap (λ f. spelt f 0 q.values) t
              ∙ spelt-append (take q.at form) (b ∷ []) 0 q.values
              ∙ ap (λ l. spelt (take q.at form) 0 q.values ++ l) (append-nil _ ∙ pick_no _ _ n)
              ∙ ap (λ l. l ++ (b ∷ [])) (sym (append-nil (spelt (take q.at form) 0 q.values)))),
        )

    pub passed-next : (b ≡ 35 → ⊥) → {v : ℕ} → q.number ≡ numbers.Awaited v → Next (past form q) b (passed_of form q b)
    unfolding passed_of
    passed-next plain idle =
        pick_all (Next (past form q) b) (leb (length form) q.at) None _ (λ e. tt)
        (λ e. pick_all (Next (past form q) b) (eqb (get_or form q.at 0) b) (Some (onward q)) None
        (λ y. onward-next plain idle (leb-false _ _ e) (eqb-true _ _ y)) (λ n. tt))

  -- ---- a number

  module _ (q : Filling) (s : Sound form q) (slot : numbered_at form q.at ≡ true) where
    onto : (q.at + 1) % 2 ^ 64 ≡ suc q.at
    onto =
        let l : q.at < length form = (numbered_is form q.at slot).0 in
        mod-eq_of_lt (omega arith) ∙ add-one q.at

    taken : take ((q.at + 1) % 2 ^ 64) form ≡ take q.at form ++ (35 ∷ [])
    taken =
        let l : q.at < length form = (numbered_is form q.at slot).0 in
        ap (λ k. take k form) onto ∙ take-suc form q.at 0 l
        ∙ ap (λ x. take q.at form ++ (x ∷ [])) (numbered_is form q.at slot).1

    module _ (v : ℕ) where
      kept-sound : Sound form (kept q v)
      kept-sound =
          let l : q.at < length form = (numbered_is form q.at slot).0 in
          record {
            within = omega (arith, onto);
            counted = omega (arith, s.counted, ap slots_in taken, slots-number (take q.at form));
            room = length-set q.values q.filled v ∙ s.room;
            here = λ w e. absurd (let z : ◌≡◌ {A = ℕ} 0 1 = cc in omega arith);
          }

      pub kept-past : q.number ≡ numbers.Begun v → q.filled < 16 → past form (kept q v) ≡ past form q
      unfolding past spelt
      kept-past going few =
          let vs = set q.values q.filled v in
          let f = take q.at form in
          let z : 0 + slots_in f ≡ q.filled = omega (arith, s.counted) in
          rw going
          (append-nil _ ∙ ap (λ g. spelt g 0 vs) taken
          ∙ spelt-append f (35 ∷ []) 0 vs
          ∙ ap (λ l. l ++ spelt (35 ∷ []) (0 + slots_in f) vs) (spelt-set f 0 q.filled v q.values
          (omega (arith, s.counted)))
          ∙ ap (λ l. spelt f 0 q.values ++ l)
          (append-nil _ ∙ pick_yes _ _ refl
          ∙ ap (λ k. numeral_of (get_or vs k 0)) z
          ∙ ap numeral_of (get_or-set_same q.values q.filled v 0 (omega (arith, s.room)))))

    behind-next : (b : ℕ) → (b ≡ 35 → ⊥) → Next (past form q) b (behind_of form q b)
    unfolding behind_of stored_of
    behind-next b plain =
        let F = λ (n : Number). Next (past form q) b (behind_from form q n b) in
        by_number q.number
        (λ v idle. subst F (sym idle) tt)
        (λ v going. subst F (sym going) (pick_all (λ r. Next (past form q) b (passed_from form r b))
        (leb 16 q.filled) None
        (Some (kept q v)) (λ e. tt)
        (λ e. rw (kept-past v going (leb-false _ _ e)) at (passed-next (kept q v) (kept-sound v) b plain refl))))

    valued-next : (v b : ℕ) (before : List ℕ)
        → numeral_of v ≡ before ++ (b ∷ [])
        → past form q ≡ spelt (take q.at form) 0 q.values ++ before
        → Next (past form q) b (Some (valued_of q v))
    unfolding past
    valued-next v b before n p = (
      record { within = s.within; counted = s.counted; room = s.room; here = λ w y. slot },
      rw p (ap (λ l. spelt (take q.at form) 0 q.values ++ l) n
          ∙ sym (append_assoc (spelt (take q.at form) 0 q.values) before (b ∷ []))),
    )

    digit-next : (d : ℕ) → d < 10 → Next (past form q) (48 + d) (digit_of q d)
    unfolding digit_of longer_of past
    digit-next d h =
        let P = λ (o : Option ℕ). Next (past form q) (48 + d) (grown q o) in
        let F = λ (n : Number). Next (past form q) (48 + d) (grown q (longer_of n d)) in
        by_number q.number
        (λ v idle. subst F (sym idle) (valued-next d (48 + d) [] (numeral-one d h)
        (ap (λ n. spelt (take q.at form) 0 q.values ++ begun n) idle)))
        (λ v going. subst F (sym going) (pick_all P (eqb v 0) None _ (λ e. tt)
        (λ some. pick_all P (leb 1000000000000000 v) None _ (λ e. tt)
        (λ e. let l : v < 1000000000000000 = leb-false _ _ e in
        let p : 0 < v = nonzero v (eqb-false _ _ some) in
        valued-next (v * 10 + d) (48 + d) (numeral_of v) (numeral-more v d p l h)
        (ap (λ n. spelt (take q.at form) 0 q.values ++ begun n) going)))))

    number-next : (b : ℕ) → (b ≡ 35 → ⊥) → Next (past form q) b (number_of form q b)
    unfolding number_of
    number-next b plain =
        pick_all (Next (past form q) b) (ltb b 48) (behind_of form q b) _ (λ e. behind-next b plain)
        (λ low. pick_all (Next (past form q) b) (ltb 57 b) (behind_of form q b) _ (λ e. behind-next b plain)
        (λ high. let l : 48 ≤ b = ltb-false _ _ low in
        let u : b ≤ 57 = ltb-false _ _ high in
        let z : 48 + (b - 48) ≡ b = omega arith in
        rw z at (digit-next (b - 48) (omega arith))))

  pub filled_next : (q : Filling) → Sound form q → (b : ℕ) → Next (past form q) b (filled_of form q b)
  unfolding filled_of
  filled_next q s b =
      pick_all (Next (past form q) b) (eqb b 35) None _ (λ e. tt)
      (λ plain. pick_all (Next (past form q) b) (numbered_at form q.at) _ _
      (λ slot. number-next q s slot b (eqb-false _ _ plain))
      (λ off. passed-next q s b (eqb-false _ _ plain) (idle-off form q s off).is))
