-- The laws of reading: what 17 bytes give; a block that is filled word by word, with nothing put yet and with one word
-- more; what is answered where all words were read, or not; and what of a lent block stays.
use Rattle.std.proofs.Common.{◌≡◌, ℕ, ◌+◌, ◌<◌, ◌≤◌, false, ◌⊎◌, List, length, get_or, set, sym}
use Rattle.std.proofs.Common.{refl, ◌∙◌, subst, inl, inr, ⊎_elim, arith, length-set}
use Rattle.std.proofs.Common.{drop, ap, ltb, le-ltb, slice_range}
use Rattle.std.proofs.lemmas.List.{at_drop_more, at_drop_all}
use Rattle.std.proofs.lemmas.Bool.Decides.{nat_tests}
use Rattle.std.specs.Prelude.{Option, Some, None, option_and_then, Result, Ok, Err, IsErr, ok_or, min}
use Rattle.std.proofs.Common.{get_or-set_other, get_or-set_same, eq-eqb, ne_eqb, le-leb}
use native.Mathlib.Decide.{dec_lt}
use borrow.Author.Tests.{lt-leb}
use Rattle.words.specs.Loop.{pick}
use Rattle.words.proofs.Branch.{pick_yes, pick_no, pick_all}
use Rattle.replay.specs.declared.word.ReadError.{ReadError}
use Rattle.replay.specs.declared.word.ReadError.TheVariants.{Malformed, End}
use Rattle.bits.specs.Digit.{digit_of}
use Rattle.replay.specs.Word.{one_digit_more, spelled_behind, spelled_of}
use Rattle.replay.specs.Read.{WordRead, taken, after_of, Filled, WordsRead, BlockRead, ended, wrong, begun}

-- ---- what a range of bytes spells

spelled_inside : (text : List ℕ) (from end : ℕ) → from ≤ end → end ≤ length text
    → spelled_behind 0 (slice_range text from end) ≡ spelled_of text from end
unfolding spelled_of
spelled_inside text from end low high = sym (pick_no _ _ (le-ltb _ _ high) ∙ pick_no _ _ (le-ltb _ _ low))

pub spelled_begun : (text : List ℕ) {bytes : List ℕ} (from end : ℕ) → from ≤ end → end ≤ length text
    → bytes ≡ slice_range text from end
    → spelled_behind 0 bytes ≡ spelled_of text from end
spelled_begun text from end low high is = ap (spelled_behind 0) is ∙ spelled_inside text from end low high

pub spelled_outside : (text : List ℕ) (from end : ℕ)
    → (end < from) ⊎ (length text < end)
    → None ≡ spelled_of text from end
unfolding spelled_of
spelled_outside text from end out =
    pick_all (λ (w : Option ℕ). None ≡ w) (ltb (length text) end) _ _ (λ e. refl)
    (λ e. pick_all (λ (w : Option ℕ). None ≡ w) (ltb end from) _ _ (λ f. refl) (λ f. absurd (none e f)))
  where
    none : ltb (length text) end ≡ false → ltb end from ≡ false → ⊥
    none e f = grind (arith, nat_tests)

module _ (value k : ℕ) (bytes : List ℕ) (within : k < length bytes) where
  pub spelled_on : {next : ℕ} → Some next ≡ digit_of (get_or bytes k 0)
      → spelled_behind (one_digit_more value next) (drop (k + 1) bytes) ≡ spelled_behind value (drop k bytes)
  spelled_on {next} e =
      let F : Option ℕ → Option ℕ =
      option_and_then (λ n. spelled_behind (one_digit_more value n) (drop (k + 1) bytes)) in
      ap F e ∙ sym (at_drop_more (spelled_behind value) bytes k 0 within)

  pub spelled_off : None ≡ digit_of (get_or bytes k 0) → None ≡ spelled_behind value (drop k bytes)
  spelled_off e =
      let F : Option ℕ → Option ℕ =
      option_and_then (λ n. spelled_behind (one_digit_more value n) (drop (k + 1) bytes)) in
      ap F e ∙ sym (at_drop_more (spelled_behind value) bytes k 0 within)

pub spelled_done : (value k : ℕ) (bytes : List ℕ) → length bytes ≤ k → Some value ≡ spelled_behind value (drop k bytes)
spelled_done value k bytes h = sym (at_drop_all (spelled_behind value) bytes k h)

-- ---- what is read

module _ {after : ℕ} (text : List ℕ) (long : length text ≡ 17) where
  pub taken-right : get_or text 16 0 ≡ after → WordRead after (ok_or (spelled_of text 0 16) Malformed)
  taken-right e = subst (λ (w : Result ℕ ReadError). WordRead after w) (pick_yes _ _ (eq-eqb _ _ e)) (taken text long)

  pub taken-wrong : (get_or text 16 0 ≡ after → ⊥) → WordRead after (Err Malformed)
  taken-wrong d = subst (λ (w : Result ℕ ReadError). WordRead after w) (pick_no _ _ (ne_eqb _ _ d)) (taken text long)

-- a word that is to be put, by what its reading gave
pub read-value : {a a' word : ℕ} {r : Result ℕ ReadError}
    → a ≡ a'
    → WordRead a r
    → r ≡ Ok word
    → WordRead a' (Ok word)
read-value {a} {a'} {word} e read v =
    subst (λ (b : ℕ). WordRead b (Ok word)) e (subst (λ (w : Result ℕ ReadError). WordRead a w) v read)

-- a space follows the first word of a block
pub after_first : 32 ≡ after_of 0
unfolding pick
after_first = refl

pub filled_none : (from : ℕ) (block : List ℕ) → Filled from from block block
filled_none from block = record { long = refl; words = λ k l h. absurd (omega arith); others = λ k h. refl }

module _ {from i word : ℕ} {before block : List ℕ} (filled : Filled from i before block) where
  pub filled_more : from ≤ i → i < length block
      → WordRead (after_of i) (Ok word)
      → Filled from (i + 1) before (set block i word)
  filled_more low room read =
      record {
        long = length-set block i word ∙ filled.long;
        words = λ k l h. at k l h (dec_lt k i);
        others = λ k h. get_or-set_other block i k word 0 (apart k h) ∙ filled.others k (past k h);
      }
    where
      apart : (k : ℕ) → (k < from) ⊎ (i + 1 ≤ k) → k ≡ i → ⊥
      apart k h e = ⊎_elim (λ (a : k < from). omega arith) (λ (a : i + 1 ≤ k). omega arith) h

      past : (k : ℕ) → (k < from) ⊎ (i + 1 ≤ k) → (k < from) ⊎ (i ≤ k)
      past k h = ⊎_elim (λ (a : k < from). inl a) (λ (a : i + 1 ≤ k). inr (omega arith)) h

      at : (k : ℕ) → from ≤ k → k < i + 1 → Dec (k < i) → WordRead (after_of k) (Ok (get_or (set block i word) k 0))
      at k l h (yes d) = rw (get_or-set_other block i k word 0 (λ e. omega arith)) (filled.words k l d)
      at k l h (no d) =
          let e : k ≡ i = omega arith in
          rw e (rw (get_or-set_same block i word 0 room) read)

module _ {from end last i : ℕ} {before block : List ℕ} (is : last ≡ min end (length before))
    (high : (i ≡ from) ⊎ (i ≤ last)) (filled : Filled from i before block) where
  pub read_all : last ≤ i → WordsRead from end before block (Ok tt)
  read_all h =
      record {
        to = i;
        high = subst (λ (n : ℕ). (i ≡ from) ⊎ (i ≤ n)) is high;
        filled = filled;
        answer = sym (pick_yes _ _ (le-leb _ _ (subst (λ (n : ℕ). n ≤ i) is h)));
      }

  pub read_some : i < last → WordsRead from end before block (Err Malformed)
  read_some h =
      record {
        to = i;
        high = subst (λ (n : ℕ). (i ≡ from) ⊎ (i ≤ n)) is high;
        filled = filled;
        answer = sym (pick_no _ _ (lt-leb _ _ (subst (λ (n : ℕ). i < n) is h)));
      }

-- where the first word of a block is none
pub block_unread : {end : ℕ} {block : List ℕ} {r : Result (Unit {0}) ReadError} → IsErr r → BlockRead end block block r
block_unread {r = Ok v} h = cc
block_unread {r = Err End} h = ended
block_unread {r = Err Malformed} h = wrong

-- ---- what stays of a lent block, whatever came: all that does not stand at the places that were asked for

pub words-kept : {from end : ℕ} {before after : List ℕ} {answered : Result (Unit {0}) ReadError}
    → WordsRead from end before after answered
    → (k : ℕ)
    → (k < from) ⊎ ((from ≤ k) × (end ≤ k))
    → get_or after k 0 ≡ get_or before k 0
words-kept {from} {end} {before} r k h =
    r.filled.others k (⊎_elim (λ (l : k < from). inl l) (λ (l : (from ≤ k) × (end ≤ k)). inr (over l r.high)) h)
  where
    over : (from ≤ k) × (end ≤ k) → (r.to ≡ from) ⊎ (r.to ≤ min end (length before)) → r.to ≤ k
    over l g =
        ⊎_elim (λ (e : r.to ≡ from). omega (arith, l.0))
        (λ (m : r.to ≤ min end (length before)). omega (arith, l.1))
        g

pub block-kept : {end : ℕ} {before after : List ℕ} {r : Result (Unit {0}) ReadError}
    → BlockRead end before after r
    → (k : ℕ)
    → 1 ≤ k
    → end ≤ k
    → get_or after k 0 ≡ get_or before k 0
block-kept ended k l h = refl
block-kept wrong k l h = refl
block-kept {before = before} (begun first after answered read rest) k l h =
    words-kept rest k (inr (l, h)) ∙ get_or-set_other before 0 k first 0 (λ e. omega arith)
