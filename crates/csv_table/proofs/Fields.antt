-- A record, cut at its commas, is the texts that it was made of.
use Prim.Native.Nat.{ℕ}
use mathlib.Core.Path.{◌≡◌, refl, ap, ◌∙◌}
use mathlib.Core.List.{List, [], ◌∷◌, ◌++◌, map}
use borrow.Author.Tests.{eq-eqb, ne_eqb}
use lib.Ieee.{Float}
use Rattle.words.proofs.Branch.{pick_yes, pick_no}
use Rattle.sheet.specs.Sheet.{Every}
use Rattle.forecast_text.specs.Printed.{text}
use Rattle.csv_table.specs.NumberText.{number_text}
use Rattle.csv_table.specs.Table.{Plain, amounts_text}
use Rattle.csv_table.specs.ReadBack.{onto_first, fields_of}
use Rattle.csv_table.proofs.PlainText.{text-plain-proof}

-- a field before what the rest is cut into
first_field : (field rest : List ℕ) (fields : List (List ℕ)) → Every Plain field
    → fields_of rest ≡ [] ∷ fields → fields_of (field ++ rest) ≡ field ∷ fields
unfolding fields_of onto_first
first_field [] rest fields p e = e
first_field (b ∷ field) rest fields p e =
    pick_no _ _ (ne_eqb b 44 p.0.comma) ∙ ap (onto_first b) (first_field field rest fields p.1 e)

comma-first : (rest : List ℕ) → fields_of (44 ∷ rest) ≡ [] ∷ fields_of rest
unfolding fields_of
comma-first rest = pick_yes _ _ (eq-eqb 44 44 refl)

none : fields_of [] ≡ [] ∷ []
unfolding fields_of
none = refl

pub record-fields-proof : (x : Float) (ys : List Float)
    → fields_of (number_text x ++ amounts_text ys) ≡ number_text x ∷ map number_text ys
unfolding amounts_text text
record-fields-proof x [] = first_field (number_text x) [] [] (text-plain-proof x) none
record-fields-proof x (y ∷ ys) =
    first_field (number_text x) (44 ∷ (number_text y ++ amounts_text ys)) (map number_text (y ∷ ys))
    (text-plain-proof x)
    (comma-first (number_text y ++ amounts_text ys) ∙ ap (λ l. [] ∷ l) (record-fields-proof y ys))
