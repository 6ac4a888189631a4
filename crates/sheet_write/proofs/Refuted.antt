-- Wrong writers, each shut out by one answer or byte that the contract of `write` wants otherwise.
--     not-one-nan        every NaN is written with one pattern, as `decay` prints it
--     not-what-fits      as much of a sheet as fits is written before it is refused by 24
--     not-any-species    a reaction may name a species that the model doesn't have
--     not-a-byte-more    a sheet that is as long as the lent bytes is refused by 24
--     not-rust-only      the rule is forgotten
use Prim.Native.Nat.{ℕ}
use mathlib.Core.Path.{◌≡◌, ap}
use mathlib.Core.List.{List, [], ◌∷◌}
use native.Mathlib.Omega.{arith}
use lib.Dec.{ltb}
use lib.ListN.{length, get_or, take, replicate}
use Rattle.words.specs.Loop.{pick}
use Rattle.state.specs.declared.settings.Rule.{Rule}
use Rattle.state.specs.declared.settings.Rule.TheVariants.{Rust, Book}
use Rattle.sheet.specs.declared.sheet.Heading.{Heading}
use Rattle.sheet.specs.Digits.{byte_of, power, digits, width_of}
use Rattle.sheet.specs.Sheet.{written}
use Rattle.sheet.specs.Kinds.{setting_of, reaction_of, kind_of}
use Rattle.sheet.specs.Reader.{over, reactions_from}
use Rattle.sheet_write.specs.Memory.{listed_in, model_in}
use Rattle.sheet_write.specs.Writer.{number_of, fit_of, held_in, sheet_in, answer_for, left_for, answer_of, bytes_left}
use Rattle.sheet_write.specs.Writer.{Writing}
use Rattle.std.proofs.Common.{Ok, Err}
use Rattle.sheet_write.specs.declared.writing.WritingError.TheVariants.{NoModel, TooShort}

-- what a writer answers and leaves, of a heading, the three arrays and the lent bytes; and what the contract asks of it
abbrev pub Answers : Type 0
Answers = Heading → List ℕ → List ℕ → List ℕ → List ℕ → Writing

abbrev pub Leaves : Type 0
Leaves = Heading → List ℕ → List ℕ → List ℕ → List ℕ → List ℕ

abbrev pub MeetsAnswer : Answers → Type 0
MeetsAnswer answers = (h : Heading) (a r s out : List ℕ) → answers h a r s out ≡ answer_of h a r s out

abbrev pub MeetsLeft : Leaves → Type 0
MeetsLeft leaves = (h : Heading) (a r s out : List ℕ) → leaves h a r s out ≡ bytes_left h a r s out

-- one species, and as many reactions as are said
abbrev ruled : Rule → ℕ → Heading
ruled rule n = record {
  x0 = 0;
  xend = 0;
  rtol = 0;
  atol = 0;
  max_steps = 1;
  rule = rule;
  species = 1;
  reactions = n;
}

abbrev one : ℕ → Heading
one n = ruled Rust n

-- ---- one pattern for every NaN

abbrev plain : ℕ → ℕ
plain v = pick (ltb 0x7ff0_0000_0000_0000 v) 0x7ff8_0000_0000_0000 v

abbrev plained : List ℕ → List ℕ
plained [] = []
plained (v ∷ vs) = plain v ∷ plained vs

abbrev pub one_nan : Leaves
one_nan h a r s out = bytes_left h (plained a) r s out

-- the last digit of the amount: 0, where the payload's 1 is wanted
pub not-one-nan : MeetsLeft one_nan → ⊥
unfolding bytes_left held_in left_for fit_of listed_in model_in reactions_from written digits byte_of power width_of
    setting_of reaction_of kind_of over pick
not-one-nan meets =
    let e : get_or (one_nan (one 0) (0x7ff0_0000_0000_0001 ∷ []) [] [] (replicate 100 0)) 91 0
    ≡ get_or (bytes_left (one 0) (0x7ff0_0000_0000_0001 ∷ []) [] [] (replicate 100 0)) 91 0 =
    ap (λ l. get_or l 91 0) (meets (one 0) (0x7ff0_0000_0000_0001 ∷ []) [] [] (replicate 100 0)) in
    let z : ◌≡◌ {A = ℕ} 48 49 = e in
    omega arith

-- ---- as much as fits

abbrev pub what_fits : Leaves
what_fits h a r s out = pick (held_in h a r s) (over (take (length out) (sheet_in h a r s)) out) out

-- the first byte: a 6, where nothing is to be written
pub not-what-fits : MeetsLeft what_fits → ⊥
unfolding bytes_left held_in left_for fit_of listed_in model_in reactions_from written digits byte_of power width_of
    setting_of reaction_of kind_of over pick
not-what-fits meets =
    let e : get_or (what_fits (one 0) (0 ∷ []) [] [] (0 ∷ [])) 0 0
    ≡ get_or (bytes_left (one 0) (0 ∷ []) [] [] (0 ∷ [])) 0 0 =
    ap (λ l. get_or l 0 0) (meets (one 0) (0 ∷ []) [] [] (0 ∷ [])) in
    let z : ◌≡◌ {A = ℕ} 54 0 = e in
    omega arith

-- ---- any species

abbrev pub any_species : Answers
any_species h a r s out = answer_for (sheet_in h a r s) out

-- the second species of one: 24, where 23 is wanted
pub not-any-species : MeetsAnswer any_species → ⊥
unfolding answer_of held_in answer_for fit_of listed_in model_in reactions_from written digits byte_of power width_of
    setting_of reaction_of kind_of pick
not-any-species meets =
    let e : number_of (any_species (one 1) (0 ∷ []) (0 ∷ []) (2 ∷ 0 ∷ 0 ∷ 0 ∷ []) [])
    ≡ number_of (answer_of (one 1) (0 ∷ []) (0 ∷ []) (2 ∷ 0 ∷ 0 ∷ 0 ∷ []) []) =
    ap number_of (meets (one 1) (0 ∷ []) (0 ∷ []) (2 ∷ 0 ∷ 0 ∷ 0 ∷ []) []) in
    let z : ◌≡◌ {A = ℕ} 24 23 = e in
    omega arith

-- ---- a byte more than the sheet has

abbrev pub a_byte_more : Answers
a_byte_more h a r s out =
    pick (held_in h a r s)
    (pick (ltb (length (sheet_in h a r s)) (length out)) (Ok (length (sheet_in h a r s))) (Err TooShort)) (Err NoModel)

-- 95 bytes for a sheet of 95: 24, where it is to be written
pub not-a-byte-more : MeetsAnswer a_byte_more → ⊥
unfolding answer_of held_in answer_for fit_of listed_in model_in reactions_from written digits byte_of power width_of
    setting_of reaction_of kind_of pick
not-a-byte-more meets =
    let e : number_of (a_byte_more (one 0) (0 ∷ []) [] [] (replicate 95 0))
    ≡ number_of (answer_of (one 0) (0 ∷ []) [] [] (replicate 95 0)) =
    ap number_of (meets (one 0) (0 ∷ []) [] [] (replicate 95 0)) in
    let z : ◌≡◌ {A = ℕ} 24 0 = e in
    omega arith

-- ---- the rule forgotten

abbrev pub rust_only : Leaves
rust_only h a r s out = bytes_left (ruled Rust h.reactions) a r s out

-- the rule's digit: 0, where 1 is wanted
pub not-rust-only : MeetsLeft rust_only → ⊥
unfolding bytes_left held_in left_for fit_of listed_in model_in reactions_from written digits byte_of power width_of
    setting_of reaction_of kind_of over pick
not-rust-only meets =
    let e : get_or (rust_only (ruled Book 0) (0 ∷ []) [] [] (replicate 100 0)) 72 0
    ≡ get_or (bytes_left (ruled Book 0) (0 ∷ []) [] [] (replicate 100 0)) 72 0 =
    ap (λ l. get_or l 72 0) (meets (ruled Book 0) (0 ∷ []) [] [] (replicate 100 0)) in
    let z : ◌≡◌ {A = ℕ} 48 49 = e in
    omega arith
