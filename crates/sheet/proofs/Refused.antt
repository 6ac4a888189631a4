-- What the reader refuses, for all bytes: too long where there are more than 4,096; and malformed, where the bytes are
-- no sheet of a valid model (Accepted), at the line after the most lines with which they and some valid sheet begin.
use Prim.Native.Nat.{ℕ, ◌≤◌, ◌<◌}
use mathlib.Core.Path.{◌≡◌, refl, sym, ap, ◌∙◌}
use mathlib.Core.Bool.{Bool, true, false}
use mathlib.Core.Logic.{◌↔◌}
use mathlib.Core.List.{List, ◌++◌, append_assoc}
use native.Mathlib.Omega.{arith}
use borrow.Author.Tests.{ltb-true, ltb-false}
use lib.Dec.{ltb}
use lib.ListN.{length}
use Rattle.words.proofs.Branch.{pick_all}
use Rattle.sheet.specs.Lines.{lines_in}
use Rattle.sheet.specs.Malformed.{Begun, Malformed}
use Rattle.sheet.specs.Reader.{Judged, whole, broken, sheet_of, Read, accepted, malformed, too_long, told_of, read_of}
use Rattle.sheet.proofs.AnswerLaws.{read-long}
use Rattle.sheet.proofs.Accepted.{accepted-sound, accepted-complete}
use Rattle.sheet.proofs.FirstWrong.{malformed-first-proof}
use Rattle.sheet.proofs.BegunSheet.{lines_split, malformed-reached-proof}

told-short : (j : Judged) → told_of j ≡ too_long → ⊥
unfolding told_of
told-short (whole h a n r) e = let z : ◌≡◌ {A = ℕ} 0 1 = cc in omega arith
told-short (broken L) e = let z : ◌≡◌ {A = ℕ} 0 1 = cc in omega arith

too-long : (s : List ℕ) → read_of s ≡ too_long → 4096 < length s
unfolding read_of
too-long s =
    pick_all (λ x. x ≡ too_long → 4096 < length s) (ltb 4096 (length s)) too_long (told_of (sheet_of s))
    (λ t e. ltb-true _ _ t) (λ t e. absurd (told-short (sheet_of s) e))

pub too-long-exactly-proof : (s : List ℕ) → (read_of s ≡ too_long) ↔ (4096 < length s)
too-long-exactly-proof s = (too-long s, read-long s)

-- ---- the line that is told

module _ (s : List ℕ) (k : ℕ) where
  first_by : read_of s ≡ malformed k → (j : ℕ) → Begun s j → (t : Bool) → ltb j k ≡ t → j < k
  first_by e j b true t = ltb-true _ _ t
  first_by e j b false t =
      let d =
      lines_split b.first k (let z : k ≤ lines_in b.first = omega (arith, b.counted, ltb-false j k t) in z) in
      absurd
      (malformed-first-proof s k e d.front (d.back ++ b.rest)
      (b.here ∙ ap (λ y. y ++ b.rest) d.is ∙ append_assoc d.front d.back b.rest) d.lines b.model
      b.valid
      (d.back ++ b.other) (b.there ∙ ap (λ y. y ++ b.other) d.is ∙ append_assoc d.front d.back b.other))

  short-by : read_of s ≡ malformed k → (t : Bool) → ltb 4096 (length s) ≡ t → length s ≤ 4096
  short-by e true t =
      absurd (let q : too_long ≡ malformed k = sym (read-long s (ltb-true _ _ t)) ∙ e in
      let z : ◌≡◌ {A = ℕ} 0 1 = cc in
      let y : ⊥ = omega arith in
      y)
  short-by e false t = ltb-false _ _ t

  malformed-so : read_of s ≡ malformed k → Malformed s k
  malformed-so e =
      record {
        short = short-by e (ltb 4096 (length s)) refl;
        none =
            λ m v w. let q : accepted m ≡ malformed k = sym (ap read_of w ∙ accepted-complete m v) ∙ e in
            let z : ◌≡◌ {A = ℕ} 0 1 = cc in
            omega arith;
        reached = malformed-reached-proof s k e;
        first = λ j b. first_by e j b (ltb j k) refl;
      }

-- two lines that are each told can't differ
lower : (s : List ℕ) (k k' : ℕ) → Malformed s k → Malformed s k' → (t : Bool) → ltb k k' ≡ t → k' ≤ k
lower s k k' a b true t =
    absurd (let z : k < k = a.first k (b.reached k (ltb-true _ _ t)) in let y : ⊥ = omega arith in y)
lower s k k' a b false t = ltb-false _ _ t

pub one-line-proof : (s : List ℕ) (k k' : ℕ) → Malformed s k → Malformed s k' → k ≡ k'
one-line-proof s k k' a b = omega (arith, lower s k k' a b (ltb k k') refl, lower s k' k b a (ltb k' k) refl)

malformed-by : (s : List ℕ) (k : ℕ) → Malformed s k → (x : Read) → read_of s ≡ x → read_of s ≡ malformed k
malformed-by s k d (accepted m) e = let p = accepted-sound s m e in absurd (d.none m p.1 p.0)
malformed-by s k d (malformed k') e = e ∙ ap malformed (one-line-proof s k' k (malformed-so s k' e) d)
malformed-by s k d too_long e =
    absurd (let l : 4096 < length s = too-long s e in let y : ⊥ = omega (arith, d.short) in y)

pub malformed-exactly-proof : (s : List ℕ) (k : ℕ) → (read_of s ≡ malformed k) ↔ Malformed s k
malformed-exactly-proof s k = (malformed-so s k, λ d. malformed-by s k d (read_of s) refl)
