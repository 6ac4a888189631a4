-- Columns and amounts, one behind the other; digits behind their point; and a line cut from the room that it was made
-- in.
use Prim.Native.Nat.{ℕ, zero, suc, ◌+◌, ◌≤◌, ◌<◌}
use mathlib.Core.Path.{◌≡◌, refl, sym, ap, ◌∙◌}
use mathlib.Core.List.{List, [], ◌∷◌, ◌++◌, append_assoc, append-nil}
use native.Mathlib.Numerals.{add-one}
use native.Mathlib.Omega.{arith}
use lib.Ieee.{Float, nan}
use lib.ListN.{length, get_or, take}
use mathlib.Core.Bool.{Bool, true, false, ◌&&◌}
use lib.Dec.{leb}
use borrow.Author.Tests.{le-leb, leb-true}
use Rattle.words.specs.Loop.{pick}
use Rattle.words.proofs.Branch.{pick_yes, pick_no}
use Rattle.sheet.specs.Digits.{digits, decimal_of}
use Rattle.forecast_text.specs.Printed.{text}
use Rattle.forecast_text.specs.Put.{put}
use Rattle.forecast_text.proofs.PutLaws.{put-whole}
use Rattle.csv_table.specs.NumberText.{trimmed, pointed, fraction_text, number_text}
use Rattle.csv_table.specs.Table.{names_text, amounts_text, export, ordered_of, line_of}
use Rattle.std.specs.Prelude.{Err}
use Rattle.csv_table.specs.declared.answers.ExportError.TheVariants.{Order}

-- ---- a fraction

pub no_fraction : fraction_text 0 ≡ []
unfolding trimmed pointed pick
no_fraction = refl

pub pointed-some : (k v : ℕ) → 0 < k → pointed (digits 16 k v) ≡ text "." ++ digits 16 k v
unfolding pointed digits
pointed-some zero v h = absurd (let z : ⊥ = omega arith in z)
pointed-some (suc k) v h = refl

-- ---- columns

pub names_more : (k : ℕ) → names_text (k + 1) ≡ names_text k ++ (text ",y" ++ decimal_of (k + 1))
unfolding names_text
names_more k =
    let one : names_text (k + 1) ≡ names_text k ++ (text ",y" ++ decimal_of (suc k)) = ap names_text (add-one k) in
    one ∙ ap (λ v. names_text k ++ (text ",y" ++ decimal_of v)) (sym (add-one k))

amounts-one : (ys : List Float) (i : ℕ) → i < length ys
    → amounts_text (take (suc i) ys) ≡ amounts_text (take i ys) ++ (text "," ++ number_text (get_or ys i nan))
unfolding amounts_text
amounts-one [] i h = absurd (let z : ⊥ = omega arith in z)
amounts-one (y ∷ ys) zero h = append-nil (text "," ++ number_text y)
amounts-one (y ∷ ys) (suc i) h =
    ap (λ l. text "," ++ number_text y ++ l) (amounts-one ys i (let z : i < length ys = omega arith in z))
    ∙ sym (append_assoc (text "," ++ number_text y) (amounts_text (take i ys))
    (text "," ++ number_text (get_or ys i nan)))

pub amounts-more : (ys : List Float) (i : ℕ) → i < length ys
    → amounts_text (take (i + 1) ys) ≡ amounts_text (take i ys) ++ (text "," ++ number_text (get_or ys i nan))
amounts-more ys i h = rw (add-one) (amounts-one ys i h)

-- ---- the line

-- what was put into fresh room is there whole
pub line-whole : {before after : List ℕ} (line : List ℕ) → before ≡ [] → length line ≤ 826
    → after ≡ put 1024 before line → after ≡ line
line-whole line fresh few p =
    let fits : length line ≤ 1024 = omega arith in
    p ∙ ap (λ m. put 1024 m line) fresh ∙ put-whole 1024 line fits

-- ---- how many amounts

both : (a b : Bool) → a ≡ true → b ≡ true → (a && b) ≡ true
both true b p q = q
both false b p q = p

pub ordered : (n : ℕ) (line buffer : List ℕ) → 1 ≤ n → n ≤ 32 → ordered_of n line buffer ≡ line_of line buffer
unfolding ordered_of
ordered n line buffer h k = pick_yes _ _ (both (leb 1 n) (leb n 32) (le-leb 1 n h) (le-leb n 32 k))

second : (a b : Bool) → (a && b) ≡ true → b ≡ true
second true b e = e
second false b e = cc

pub order-few : (n : ℕ) {b : Bool} → b ≡ (leb 1 n && leb n 32) → b ≡ true → n ≤ 32
order-few n is e = leb-true n 32 (second (leb 1 n) (leb n 32) (sym is ∙ e))

module _ (n : ℕ) (line buffer : List ℕ) {b : Bool} (is : b ≡ (leb 1 n && leb n 32)) where
  pub ordered-by : b ≡ true → ordered_of n line buffer ≡ line_of line buffer
  unfolding ordered_of
  ordered-by e = pick_yes _ _ (sym is ∙ e)

  pub not-ordered : b ≡ false → export (Err Order) buffer ≡ ordered_of n line buffer
  unfolding ordered_of
  not-ordered e = sym (pick_no _ _ (sym is ∙ e))
