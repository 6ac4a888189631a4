-- What one call packs the next unpacks, and so pieces over the border come to the whole text.
use Rattle.std.proofs.Common.{◌≡◌, ℕ, zero, suc, ◌↔◌, List, [], ◌∷◌, length, get_or, Result, refl, sym, ap, ◌∙◌}
use Rattle.words.specs.Loop.{pick}
use Rattle.night_totals.specs.Night.{start_of, fed_of, told_of}
use Rattle.night_totals.specs.Reads.{Reads}
use Rattle.night_totals.specs.declared.filling.Number.{Number}
use Rattle.night_totals.specs.declared.filling.Number.TheVariants as numbers
use Rattle.night_totals.specs.declared.totals.Totals.{Totals}
use Rattle.night_totals.specs.declared.night.Night.{Night}
use Rattle.night_totals.specs.declared.night.Stand.{Stand}
use Rattle.night_totals.specs.declared.night.Stand.TheVariants as stands
use Rattle.night_totals.specs.declared.night.NightError.{NightError}
use Rattle.night_totals.proofs.Theorems.{borders-hidden, told-exactly}
use Rattle.export_totals.specs.Record.{beyond_word, wrong_word, begun_word, value_word, words_of}
use Rattle.export_totals.specs.Record.{stand_from, number_from, night_from, fed_words}
use Rattle.export_totals.specs.Border.{taken_from, taken_of, whole_of}

-- ---- sixteen numbers, one by one

unfoldable listed : (ℕ → ℕ) → ℕ → List ℕ
listed f zero = []
listed f (suc n) = f 0 ∷ listed (λ k. f (suc k)) n

is-listed : (v : List ℕ) → listed (λ k. get_or v k 0) (length v) ≡ v
unfolding listed
is-listed [] = refl
is-listed (x ∷ v) = ap (λ (w : List ℕ). x ∷ w) (is-listed v)

abbrev words_one_by_one : List ℕ → List ℕ
words_one_by_one v =
    get_or v 0 0 ∷ get_or v 1 0 ∷ get_or v 2 0 ∷ get_or v 3 0 ∷ get_or v 4 0 ∷ get_or v 5 0 ∷ get_or v 6 0
    ∷ get_or v 7 0 ∷ get_or v 8 0
    ∷ get_or v 9 0 ∷ get_or v 10 0 ∷ get_or v 11 0 ∷ get_or v 12 0 ∷ get_or v 13 0 ∷ get_or v 14 0 ∷ get_or v 15 0 ∷ []

pub values-back : (v : List ℕ) → length v ≡ 16 → words_one_by_one v ≡ v
unfolding listed
values-back v h = ap (listed (λ k. get_or v k 0)) (sym h) ∙ is-listed v

-- ---- read back

stand-back : (s : Stand) → stand_from (beyond_word s) (wrong_word s) ≡ s
unfolding pick
stand-back stands.Open = refl
stand-back stands.Wrong = refl
stand-back stands.Beyond = refl
stand-back stands.WrongBeyond = refl

number-back : (n : Number) → number_from (begun_word n) (value_word n) ≡ n
unfolding pick
number-back (numbers.Awaited v) = refl
number-back (numbers.Begun v) = refl

pub unpacked : (n : Night) → night_from (words_of n) ≡ n
unfolding night_from words_of
unpacked n =
    λ i.
    record {
      stand = stand-back n.stand i;
      filling = record {
        at = n.filling.at;
        number = number-back n.filling.number i;
        filled = n.filling.filled;
        values = n.filling.values;
      };
      totals = n.totals;
    }

-- a piece that any words take, told by their night
pub fed-words : (words piece : List ℕ) → night_from (fed_words words piece) ≡ fed_of (night_from words) piece
fed-words words piece = unpacked (fed_of (night_from words) piece)

-- pieces that any words take one after the other
taken-from : (words : List ℕ) (pieces : List (List ℕ))
    → night_from (taken_from words pieces) ≡ fed_of (night_from words) (whole_of pieces)
unfolding taken_from whole_of fed_of
taken-from words [] = refl
taken-from words (piece ∷ pieces) =
    taken-from (fed_words words piece) pieces
    ∙ ap (λ (m : Night). fed_of m (whole_of pieces)) (fed-words words piece)
    ∙ borders-hidden (night_from words) piece (whole_of pieces)

pub taken : (pieces : List (List ℕ)) → night_from (taken_of pieces) ≡ fed_of start_of (whole_of pieces)
taken pieces = taken-from (words_of start_of) pieces ∙ ap (λ m. fed_of m (whole_of pieces)) (unpacked start_of)

pub told-of-pieces-proof : (pieces : List (List ℕ)) (a : Result Totals NightError)
    → (told_of (night_from (taken_of pieces)) ≡ a) ↔ Reads (whole_of pieces) a
told-of-pieces-proof pieces a = rw (taken pieces) (told-exactly (whole_of pieces) a)
