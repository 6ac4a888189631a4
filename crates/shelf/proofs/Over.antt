-- Values put over those of a list: it keeps its length, has the values where they were put, and all else as it was.
use Prim.Native.Nat.{ℕ, ◌+◌, ◌-◌, ◌≤◌, ◌<◌}
use mathlib.Core.Path.{◌≡◌, sym, ap, ◌∙◌}
use mathlib.Core.List.{List, ◌++◌, append_assoc}
use native.Mathlib.Nat.{le_refl, add-zero}
use native.Mathlib.Omega.{arith}
use lib.ListN.{length, get_or, take, drop, length-append, length-drop, take-append-drop}
use lib.Seq.{length-take-le, take-length, take-append-le, drop-append-le, drop-append-add, take-append_seam, drop_at}
use lib.Seq.{get_or-take, get_or-drop, drop-drop, paste, length-paste}
use borrow.Rule.Slice.PartMut.{put_mid}
use Rattle.shelf.specs.Shelf.{over}

module _ {A : Type 0} where
  -- a part that lies in the first of two lists
  part_left : (xs ys : List A) (at size : ℕ) → at + size ≤ length xs
      → take size (drop at (xs ++ ys)) ≡ take size (drop at xs)
  part_left xs ys at size h =
      ap (take size) (drop-append-le at xs ys (omega arith))
      ∙ take-append-le size (drop at xs) ys (omega (arith, length-drop at xs))

  pub over-paste : (start : ℕ) (values room : List A) → paste room start values (length values) ≡ over start values room
  unfolding over
  over-paste start values room =
      ap (λ (vs : List A). take start room ++ vs ++ drop (start + length values) room) (take-length values)

  -- what a part of the room holds once the values are copied to it
  pub put-over : (start : ℕ) (values room : List A) {copied : List A} → copied ≡ values
      → put_mid start (start + length values - start) room copied ≡ over start values room
  unfolding over
  put-over start values room e =
      let size : start + length values - start ≡ length values = omega arith in
      rw (e, size, drop-drop, append_assoc)

module _ {A : Type 0} (start : ℕ) (values room : List A) (fits : start + length values ≤ length room) where
  abbrev head : List A
  head = take start room

  abbrev tail : List A
  tail = drop (start + length values) room

  head-length : length head ≡ start
  head-length = length-take-le start room (omega arith)

  pub over-length : length (over start values room) ≡ length room
  over-length =
      ap length (sym (over-paste start values room)) ∙ length-paste room start values (length values) fits (le_refl _)

  pub part-here : take (length values) (drop start (over start values room)) ≡ values
  unfolding over
  part-here =
      ap (λ (l : List A). take (length values) (drop start l)) (append_assoc head values tail)
      ∙ ap (take (length values)) (drop_at head (values ++ tail) start head-length)
      ∙ take-append_seam values tail

  pub part-before : (at size : ℕ) → at + size ≤ start
      → take size (drop at (over start values room)) ≡ take size (drop at room)
  unfolding over
  part-before at size h =
      ap (λ (l : List A). take size (drop at l)) (append_assoc head values tail)
      ∙ part_left head (values ++ tail) at size (omega (arith, head-length))
      ∙ sym (part_left head (drop start room) at size (omega (arith, head-length)))
      ∙ ap (λ (l : List A). take size (drop at l)) (take-append-drop start room)

  pub part-after : (at size : ℕ) → start + length values ≤ at
      → take size (drop at (over start values room)) ≡ take size (drop at room)
  unfolding over
  part-after at size h =
      let long : length (head ++ values) ≡ start + length values =
      length-append head values ∙ ap (λ (k : ℕ). k + length values) head-length in
      let e : length (head ++ values) + (at - (start + length values)) ≡ at = omega (arith, long) in
      let f : start + length values + (at - (start + length values)) ≡ at = omega arith in
      ap (take size)
      (ap (λ (k : ℕ). drop k (head ++ values ++ tail)) (sym e)
      ∙ drop-append-add (head ++ values) tail (at - (start + length values))
      ∙ drop-drop (at - (start + length values)) (start + length values) room
      ∙ ap (λ (k : ℕ). drop k room) f)

  module _ (default : A) where
    pub entry_here : (k : ℕ) → k < length values
        → get_or (over start values room) (start + k) default ≡ get_or values k default
    entry_here k h =
        sym (get_or-drop start (over start values room) k default)
        ∙ sym (get_or-take (length values) (drop start (over start values room)) k default h)
        ∙ ap (λ (vs : List A). get_or vs k default) part-here

    entry-part : (l : List A) (i : ℕ) → get_or (take 1 (drop i l)) 0 default ≡ get_or l i default
    entry-part l i =
        get_or-take 1 (drop i l) 0 default (omega arith) ∙ get_or-drop i l 0 default
        ∙ ap (λ (k : ℕ). get_or l k default) (add-zero i)

    entry_kept : (i : ℕ) → take 1 (drop i (over start values room)) ≡ take 1 (drop i room)
        → get_or (over start values room) i default ≡ get_or room i default
    entry_kept i e =
        sym (entry-part (over start values room) i) ∙ ap (λ (l : List A). get_or l 0 default) e ∙ entry-part room i

    pub entry-before : (i : ℕ) → i < start → get_or (over start values room) i default ≡ get_or room i default
    entry-before i h = entry_kept i (part-before i 1 (omega arith))

    pub entry-after : (i : ℕ) → start + length values ≤ i
        → get_or (over start values room) i default ≡ get_or room i default
    entry-after i h = entry_kept i (part-after i 1 h)
