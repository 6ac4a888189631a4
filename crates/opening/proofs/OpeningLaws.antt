-- The four ways out of an opening, over variables: refused by n, by a length, by a later row, or accepted.
use Prim.Native.Nat.{ℕ, ◌*◌, ◌≤◌}
use mathlib.Core.Path.{◌≡◌, refl, sym, ap, ◌∙◌}
use mathlib.Core.Bool.{Bool, true, false, not, ◌&&◌, ◌||◌, true≢false}
use mathlib.Core.List.{List}
use lib.Dec.{eqb, ltb}
use lib.ListN.{length}
use lib.Ieee.{Float}
use borrow.Author.Tests.{eqb-true, ltb-false}
use Rattle.words.proofs.Branch.{pick_yes, pick_no}
use Rattle.state.specs.declared.settings.Settings.{Settings}
use Rattle.state.specs.declared.run.Tolerances.{Tolerances}
use Rattle.state.specs.declared.talk.Refusal.{Refusal}
use Rattle.state.specs.declared.talk.Refusal.TheVariants as refusal
use Rattle.state.specs.declared.talk.Request.TheVariants.{Derivative}
use Rattle.state.specs.declared.talk.Place.TheVariants.{YToF0}
use Rattle.opening.specs.declared.tolerances.Conversion.{Conversion}
use Rattle.state.specs.Lent.{newton_fits, factors_fits, differences_fits}
use Rattle.state.specs.Memory.{memory, Amounts, amounts, Newton, newton, Given, given}
use Rattle.state.specs.Memory.{Factors, factors, Differences, differences, amounts_fit, newton_fit}
use Rattle.state.specs.Memory.{given_fit, factors_fit, differences_fit, lengths_fit, zeros, noughts}
use Rattle.opening.specs.Rows.{verdict_of, outside, Opening, opening, opening_rows}
use Rattle.opening.specs.Rows.{value_rows, mass_given, rtol_given, atol_given}
use Rattle.opening.specs.Tolerances.{Converted, converted, converted_of}
use Rattle.opening.specs.Opening.{Working, working, mass_kept, cleared_of, first_run}
use Rattle.opening.specs.Opening.{opening_outcome, accepted_of, by_verdict, open_of}
use Rattle.std.specs.Prelude.{Ok, Err}
use Rattle.state.specs.Talk.{Verdict, call, passed_all}

-- ---- the rows behind the sizes

abbrev pub later_verdict : Opening → Verdict
later_verdict o =
    verdict_of
    (value_rows o.settings o.n o.x0 o.xend o.memory.amounts.y
    (mass_given o.settings.mass o.memory.given.mass) (rtol_given o.tolerances o.memory.given.rtol)
    (atol_given o.tolerances o.memory.given.atol))

module _ (o : Opening) where
  pub open_order : outside 1 32 o.n ≡ true → opening_outcome (Err refusal.Order) o.memory ≡ open_of o
  unfolding open_of by_verdict verdict_of
  open_order h = ap (λ (v : Verdict). by_verdict v o) (sym (pick_yes _ _ h))

  pub open-length : outside 1 32 o.n ≡ false → lengths_fit o.n o.memory ≡ false
      → opening_outcome (Err refusal.Length) o.memory ≡ open_of o
  unfolding open_of by_verdict verdict_of
  open-length h g = ap (λ (v : Verdict). by_verdict v o) (sym (pick_no _ _ h ∙ pick_yes _ _ (ap not g)))

  later : outside 1 32 o.n ≡ false → lengths_fit o.n o.memory ≡ true
      → verdict_of (opening_rows o) ≡ later_verdict o
  unfolding verdict_of
  later h g = pick_no _ _ h ∙ pick_no _ _ (ap not g)

  pub open-later : outside 1 32 o.n ≡ false → lengths_fit o.n o.memory ≡ true
      → open_of o ≡ by_verdict (later_verdict o) o
  unfolding open_of
  open-later h g = ap (λ (v : Verdict). by_verdict v o) (later h g)

  pub open-refused : (r : Refusal) → outside 1 32 o.n ≡ false → lengths_fit o.n o.memory ≡ true
      → later_verdict o ≡ Err r
      → opening_outcome (Err r) o.memory ≡ open_of o
  unfolding by_verdict
  open-refused r h g e = ap (λ (v : Verdict). by_verdict v o) (sym e) ∙ sym (open-later h g)

  pub open-accepted : outside 1 32 o.n ≡ false → lengths_fit o.n o.memory ≡ true
      → later_verdict o ≡ passed_all → accepted_of o ≡ open_of o
  unfolding by_verdict
  open-accepted h g e = ap (λ (v : Verdict). by_verdict v o) (sym e) ∙ sym (open-later h g)

-- ---- the lengths that fit

both : (a b : Bool) → (a && b) ≡ true → (a ≡ true) × (b ≡ true)
both true b e = (refl, e)
both false b e = absurd (true≢false (sym e))

module _ (n : ℕ) where
  pub amounts-long : (y f0 scal cont : ℕ) → amounts_fit n y f0 scal cont ≡ true
      → (y ≡ n) × (f0 ≡ n) × (scal ≡ n) × (cont ≡ 4 * n)
  unfolding amounts_fit
  amounts-long y f0 scal cont e =
      let a = both (eqb y n && eqb f0 n && eqb scal n) (eqb cont (4 * n)) e in
      let b = both (eqb y n && eqb f0 n) (eqb scal n) a.0 in
      let c = both (eqb y n) (eqb f0 n) b.0 in
      (eqb-true _ _ c.0, eqb-true _ _ c.1, eqb-true _ _ b.1, eqb-true _ _ a.1)

  pub newton-long : (z1 z2 z3 f1 f2 f3 : ℕ) → newton_fit n z1 z2 z3 f1 f2 f3 ≡ true
      → (z1 ≡ n) × (z2 ≡ n) × (z3 ≡ n) × (f1 ≡ n) × (f2 ≡ n) × (f3 ≡ n)
  unfolding newton_fit
  newton-long z1 z2 z3 f1 f2 f3 e =
      let a = both (eqb z1 n && eqb z2 n && eqb z3 n && eqb f1 n && eqb f2 n) (eqb f3 n) e in
      let b = both (eqb z1 n && eqb z2 n && eqb z3 n && eqb f1 n) (eqb f2 n) a.0 in
      let c = both (eqb z1 n && eqb z2 n && eqb z3 n) (eqb f1 n) b.0 in
      let d = both (eqb z1 n && eqb z2 n) (eqb z3 n) c.0 in
      let f = both (eqb z1 n) (eqb z2 n) d.0 in (
        eqb-true _ _ f.0,
        eqb-true _ _ f.1,
        eqb-true _ _ d.1,
        eqb-true _ _ c.1,
        eqb-true _ _ b.1,
        eqb-true _ _ a.1,
      )

  pub given-long : (rtol atol mass jac : ℕ) → given_fit n rtol atol mass jac ≡ true
      → (rtol ≡ n) × (atol ≡ n) × (mass ≡ n * n) × (jac ≡ n * n)
  unfolding given_fit
  given-long rtol atol mass jac e =
      let a = both (eqb rtol n && eqb atol n && eqb mass (n * n)) (eqb jac (n * n)) e in
      let b = both (eqb rtol n && eqb atol n) (eqb mass (n * n)) a.0 in
      let c = both (eqb rtol n) (eqb atol n) b.0 in
      (eqb-true _ _ c.0, eqb-true _ _ c.1, eqb-true _ _ b.1, eqb-true _ _ a.1)

  pub factors-long : (e1 e2r e2i ip1 ip2 : ℕ) → factors_fit n e1 e2r e2i ip1 ip2 ≡ true
      → (e1 ≡ n * n) × (e2r ≡ n * n) × (e2i ≡ n * n) × (ip1 ≡ n) × (ip2 ≡ n)
  unfolding factors_fit
  factors-long e1 e2r e2i ip1 ip2 e =
      let a = both (eqb e1 (n * n) && eqb e2r (n * n) && eqb e2i (n * n) && eqb ip1 n) (eqb ip2 n) e in
      let b = both (eqb e1 (n * n) && eqb e2r (n * n) && eqb e2i (n * n)) (eqb ip1 n) a.0 in
      let c = both (eqb e1 (n * n) && eqb e2r (n * n)) (eqb e2i (n * n)) b.0 in
      let d = both (eqb e1 (n * n)) (eqb e2r (n * n)) c.0 in
      (eqb-true _ _ d.0, eqb-true _ _ d.1, eqb-true _ _ c.1, eqb-true _ _ b.1, eqb-true _ _ a.1)

  pub differences-long : (yp fp fo : ℕ) → differences_fit n yp fp fo ≡ true → (yp ≡ n) × (fp ≡ n) × (fo ≡ n)
  unfolding differences_fit
  differences-long yp fp fo e =
      let a = both (eqb yp n && eqb fp n) (eqb fo n) e in
      let b = both (eqb yp n) (eqb fp n) a.0 in
      (eqb-true _ _ b.0, eqb-true _ _ b.1, eqb-true _ _ a.1)

pub record Groups (n : ℕ) (a : Amounts) (z : Newton) (g : Given) (f : Factors) (d : Differences) : Type 0 where
  pub amounts-fit : amounts_fit n (length a.y) (length a.f0) (length a.scal) (length a.cont) ≡ true
  pub newton-fit : newton_fit n (length z.z1) (length z.z2) (length z.z3)
      (length z.f1) (length z.f2) (length z.f3)
      ≡ true
  pub given-fit : given_fit n (length g.rtol) (length g.atol) (length g.mass) (length g.jac) ≡ true
  pub factors-fit : factors_fit n (length f.e1) (length f.e2r)
      (length f.e2i) (length f.ip1) (length f.ip2)
      ≡ true
  pub differences-fit : differences_fit n (length d.y_perturbed)
      (length d.f_perturbed) (length d.f_origin)
      ≡ true

-- five groups fit where all lengths do
five : (a b c d e : Bool) → (a && b && c && d && e) ≡ true
    → (a ≡ true) × (b ≡ true) × (c ≡ true) × (d ≡ true) × (e ≡ true)
five a b c d e h =
    let p = both (a && b && c && d) e h in
    let q = both (a && b && c) d p.0 in
    let r = both (a && b) c q.0 in
    let s = both a b r.0 in
    (s.0, s.1, r.1, q.1, p.1)

pub groups_of : (n : ℕ) (a : Amounts) (z : Newton) (g : Given) (f : Factors) (d : Differences)
    → lengths_fit n (memory a z g f d) ≡ true → Groups n a z g f d
groups_of n a z g f d h =
    let p = five _ _ _ _ _ h in
    record { amounts-fit = p.0; newton-fit = p.1; given-fit = p.2; factors-fit = p.3; differences-fit = p.4 }

-- the code tests six vectors in two calls
shift : (a q f1 f2 f3 : Bool) → (a && (q && f1 && f2 && f3)) ≡ (a && q && (f1 && f2 && f3))
shift true true f1 f2 f3 = refl
shift true false f1 f2 f3 = refl
shift false q f1 f2 f3 = refl

abbrev vectors_fit : ℕ → List Float → List Float → List Float → Bool
vectors_fit n a b c = eqb (length a) n && eqb (length b) n && eqb (length c) n

-- the code's six tests are the one of the row
pub fits-are : (n : ℕ) (a : Amounts) (z : Newton) (g : Given) (f : Factors) (d : Differences) (p q u r s t : Bool)
    → p ≡ amounts_fit n (length a.y) (length a.f0) (length a.scal) (length a.cont)
    → q ≡ vectors_fit n z.z1 z.z2 z.z3
    → u ≡ vectors_fit n z.f1 z.f2 z.f3
    → r ≡ given_fit n (length g.rtol) (length g.atol) (length g.mass) (length g.jac)
    → s ≡ factors_fit n (length f.e1) (length f.e2r) (length f.e2i) (length f.ip1) (length f.ip2)
    → t ≡ vectors_fit n d.y_perturbed d.f_perturbed d.f_origin
    → lengths_fit n (memory a z g f d) ≡ (p && q && u && r && s && t)
unfolding newton_fit differences_fit
fits-are n a z g f d p q u r s t h i v j k l =
    rw (h, i, v, j, k, l)
    (ap (λ (b : Bool).
    b
    && given_fit n (length g.rtol) (length g.atol) (length g.mass) (length g.jac)
    && factors_fit n (length f.e1) (length f.e2r) (length f.e2i) (length f.ip1) (length f.ip2)
    && vectors_fit n d.y_perturbed d.f_perturbed d.f_origin)
    (shift (amounts_fit n (length a.y) (length a.f0) (length a.scal) (length a.cont))
    (vectors_fit n z.z1 z.z2 z.z3)
    (eqb (length z.f1) n) (eqb (length z.f2) n) (eqb (length z.f3) n)))

-- the same, of groups that test themselves
pub fits-of : (n : ℕ) (a : Amounts) (z : Newton) (g : Given) (f : Factors) (d : Differences) (p q r s t : Bool)
    → p ≡ amounts_fit n (length a.y) (length a.f0) (length a.scal) (length a.cont)
    → q ≡ newton_fits n z
    → r ≡ given_fit n (length g.rtol) (length g.atol) (length g.mass) (length g.jac)
    → s ≡ factors_fits n f
    → t ≡ differences_fits n d
    → lengths_fit n (memory a z g f d) ≡ (p && q && r && s && t)
fits-of n a z g f d p q r s t h i j k l = rw (h, i, j, k, l)

neither : (a b : Bool) → (a || b) ≡ false → (a ≡ false) × (b ≡ false)
neither true b e = absurd (true≢false e)
neither false b e = (refl, e)

pub within : (low high k : ℕ) → outside low high k ≡ false → (low ≤ k) × (k ≤ high)
within low high k e =
    let p = neither (ltb k low) (ltb high k) e in
    (ltb-false k low p.0, ltb-false high k p.1)

pub in_order : (n : ℕ) → outside 1 32 n ≡ false → (1 ≤ n) × (n ≤ 32)
in_order n e = within 1 32 n e

-- ---- the memory of an accepted opening, group by group

module _ (s : Settings) (n : ℕ) (x0 xend : Float) (t : Tolerances) (a : Amounts) (z : Newton) (g : Given) (f : Factors)
    (d : Differences) (fit : Groups n a z g f d) where
  pub accepted-by : (w : Working) (z' : Newton) (f' : Factors) (d' : Differences)
      (m : List Float) (c : Conversion) (rtol atol : List Float)
      → w
      ≡ working (zeros (length a.f0)) (zeros (length a.scal)) (zeros (length a.cont)) (zeros (length g.jac))
      → z'
      ≡ newton (zeros (length z.z1)) (zeros (length z.z2)) (zeros (length z.z3)) (zeros (length z.f1))
      (zeros (length z.f2)) (zeros (length z.f3))
      → f'
      ≡ factors (zeros (length f.e1)) (zeros (length f.e2r))
      (zeros (length f.e2i)) (noughts (length f.ip1)) (noughts (length f.ip2))
      → d'
      ≡ differences (zeros (length d.y_perturbed)) (zeros (length d.f_perturbed))
      (zeros (length d.f_origin))
      → m ≡ mass_kept s.mass (length g.mass) g.mass
      → converted c rtol atol ≡ converted_of s.rule n t g.rtol g.atol
      → opening_outcome (Ok (call (first_run s n x0 xend c) (Derivative x0) YToF0))
      (memory (amounts a.y w.f0 w.scal w.cont) z' (given rtol atol m w.jac) f' d')
      ≡ accepted_of (opening s n x0 xend t (memory a z g f d))
  unfolding accepted_of cleared_of
  accepted-by w z' f' d' m c rtol atol ew ez ef ed em ec =
      let al = amounts-long n _ _ _ _ fit.amounts-fit in
      let zl = newton-long n _ _ _ _ _ _ fit.newton-fit in
      let gl = given-long n _ _ _ _ fit.given-fit in
      let fl = factors-long n _ _ _ _ _ fit.factors-fit in
      let dl = differences-long n _ _ _ fit.differences-fit in
      rw (ew, ez, ef, ed, em)
      (rw (
        al.1,
        al.2,
        al.3,
        zl.0,
        zl.1,
        zl.2,
        zl.3,
        zl.4,
        zl.5,
        gl.2,
        gl.3,
        fl.0,
        fl.1,
        fl.2,
        fl.3,
        fl.4,
        dl.0,
        dl.1,
        dl.2,
      )
      (ap (λ (k : Converted).
      opening_outcome (Ok (call (first_run s n x0 xend k.conversion) (Derivative x0) YToF0))
      (memory
      (amounts a.y (zeros n) (zeros n) (zeros (4 * n)))
      (newton (zeros n) (zeros n) (zeros n) (zeros n) (zeros n) (zeros n))
      (given k.rtols k.atols (mass_kept s.mass (n * n) g.mass) (zeros (n * n)))
      (factors (zeros (n * n)) (zeros (n * n)) (zeros (n * n)) (noughts n) (noughts n))
      (differences (zeros n) (zeros n) (zeros n)))) ec))
