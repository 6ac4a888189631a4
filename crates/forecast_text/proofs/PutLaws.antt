-- Bytes put into memory: one text behind another is both in a row, the last byte may be put first, and bytes put from
-- the start stand over the first entries.
use Prim.Native.Nat.{ℕ, zero, suc, ◌+◌, ◌-◌, ◌≤◌, ◌<◌}
use mathlib.Core.Path.{◌≡◌, refl, sym, ap, ◌∙◌}
use mathlib.Core.List.{List, [], ◌∷◌, ◌++◌, append_assoc, append-nil}
use native.Mathlib.Omega.{arith}
use lib.ListN.{length, get_or, set, take, drop, length-append, drop_of_length-le}
use lib.Seq.{sets, sets-eq, set_comm, take_all, take-append_seam}
use Rattle.std.proofs.lemmas.List.{length-take, take_min}
use Rattle.std.specs.Prelude.{min}
use Rattle.sheet.specs.Reader.{over}
use Rattle.sheet.proofs.DigitsLaws.{drop_more}
use Rattle.forecast_text.specs.Put.{Put, put}

-- ---- one behind the other

sets-append : (xs ys m : List ℕ) (at : ℕ) → sets m at (xs ++ ys) ≡ sets (sets m at xs) (at + length xs) ys
sets-append [] ys m at = let e : at ≡ at + 0 = omega arith in ap (λ k. sets m k ys) e
sets-append (x ∷ xs) ys m at =
    let e : suc at + length xs ≡ at + suc (length xs) = omega arith in
    sets-append xs ys (set m at x) (suc at) ∙ ap (λ k. sets (sets (set m at x) (suc at) xs) k ys) e

pub put-none : (at : ℕ) (m : List ℕ) → Put at [] m m at
put-none at m = record { ends = omega arith; is = refl }

pub put_then : {at next last : ℕ} {xs ys m₀ m₁ m₂ : List ℕ} → Put at xs m₀ m₁ next → Put next ys m₁ m₂ last
    → Put at (xs ++ ys) m₀ m₂ last
put_then {at} {next} {last} {xs} {ys} {m₀} p q =
    record {
      ends = omega (arith, length-append xs ys);
      is =
          q.is ∙ ap (λ m. sets m next ys) p.is ∙ ap (λ k. sets (sets m₀ at xs) k ys) p.ends
          ∙ sym (sets-append xs ys m₀ at);
    }

-- ---- a text, byte by byte

pub text-first : (at : ℕ) (bytes m : List ℕ) → sets m (at + 0) bytes ≡ sets m at bytes
text-first at bytes m = let e : at + 0 ≡ at = omega arith in ap (λ k. sets m k bytes) e

module _ (at i : ℕ) (bytes m : List ℕ) where
  pub text-more : i < length bytes
      → sets (set m (at + i) (get_or bytes i 0)) (at + (i + 1)) (drop (i + 1) bytes) ≡ sets m (at + i) (drop i bytes)
  text-more h =
      let e : at + (i + 1) ≡ suc (at + i) = omega arith in
      ap (λ k. sets (set m (at + i) (get_or bytes i 0)) k (drop (i + 1) bytes)) e
      ∙ ap (λ l. sets m (at + i) l) (sym (drop_more bytes i h))

  pub text-all : length bytes ≤ i → m ≡ sets m (at + i) (drop i bytes)
  text-all h = ap (λ l. sets m (at + i) l) (sym (drop_of_length-le bytes h))

-- ---- the last byte first

pub sets_last : (xs m : List ℕ) (at d : ℕ) → sets m at (xs ++ (d ∷ [])) ≡ sets (set m (at + length xs) d) at xs
sets_last [] m at d = let e : at ≡ at + 0 = omega arith in ap (λ k. set m k d) e
sets_last (x ∷ xs) m at d =
    let e : suc at + length xs ≡ at + suc (length xs) = omega arith in
    sets_last xs (set m at x) (suc at) d
    ∙ ap (λ k. sets (set (set m at x) k d) (suc at) xs) e
    ∙ ap (λ n. sets n (suc at) xs) (set_comm m at (at + suc (length xs)) x d (λ q. omega arith))

-- ---- from the start

sets_behind : (vs m : List ℕ) (x at : ℕ) → sets (x ∷ m) (suc at) vs ≡ x ∷ sets m at vs
sets_behind [] m x at = refl
sets_behind (v ∷ vs) m x at = sets_behind vs (set m at v) x (suc at)

sets-nothing : (vs : List ℕ) (at : ℕ) → sets [] at vs ≡ []
sets-nothing [] at = refl
sets-nothing (v ∷ vs) at = sets-nothing vs (suc at)

sets_over : (vs m : List ℕ) → sets m 0 vs ≡ over vs m
unfolding over
sets_over [] m = refl
sets_over (v ∷ vs) [] = sets-nothing vs 1
sets_over (v ∷ vs) (x ∷ m) = sets_behind vs m v 0 ∙ ap (λ l. v ∷ l) (sets_over vs m)

pub put-over : {bytes m₀ m₁ : List ℕ} {next : ℕ} → Put 0 bytes m₀ m₁ next → m₁ ≡ over bytes m₀
put-over {bytes} {m₀} p = p.is ∙ sets_over bytes m₀

pub over-put : (bytes m : List ℕ) → Put 0 bytes m (over bytes m) (length bytes)
over-put bytes m = record { ends = omega arith; is = sym (sets_over bytes m) }

-- no more of a text is put over memory than finds room there
over-cut : (vs m : List ℕ) → over (take (length m) vs) m ≡ over vs m
unfolding over
over-cut [] [] = refl
over-cut [] (x ∷ m) = refl
over-cut (v ∷ vs) [] = refl
over-cut (v ∷ vs) (x ∷ m) = ap (λ l. v ∷ l) (over-cut vs m)

pub put-first : {m₀ m₁ : List ℕ} {next : ℕ} (k : ℕ) (text : List ℕ) → k ≡ min (length m₀) (length text)
    → Put 0 (take k text) m₀ m₁ next → m₁ ≡ over text m₀
put-first {m₀} k text e p =
    put-over p ∙ ap (λ i. over (take i text) m₀) e ∙ ap (λ l. over l m₀) (take_min (length m₀) text) ∙ over-cut text m₀

pub put-cut : {bytes m₀ m₁ : List ℕ} {next : ℕ} (n : ℕ) → Put 0 bytes m₀ m₁ next → length bytes ≡ n → n ≤ length m₀
    → take n m₁ ≡ bytes
put-cut {bytes} {m₀} {m₁} n p e h =
    let fits : 0 + length bytes ≤ length m₀ = omega arith in
    ap (λ k. take k m₁) (sym e) ∙ ap (λ m. take (length bytes) m) (p.is ∙ sets-eq bytes m₀ 0 fits)
    ∙ take-append_seam bytes (drop (0 + length bytes) m₀)

-- ---- behind a text that has room of its own

kept : (n : ℕ) (xs ys : List ℕ) → take n xs ++ take (n - length (take n xs)) ys ≡ take n (xs ++ ys)
kept zero xs ys = refl
kept (suc n) [] ys = let e : suc n - 0 ≡ suc n = omega arith in ap (λ k. take k ys) e
kept (suc n) (x ∷ xs) ys =
    let e : suc n - suc (length (take n xs)) ≡ n - length (take n xs) = omega arith in
    ap (λ k. x ∷ (take n xs ++ take k ys)) e ∙ ap (λ l. x ∷ l) (kept n xs ys)

pub put-nothing : (room : ℕ) (before : List ℕ) → put room before [] ≡ before
unfolding put
put-nothing room before = ap (λ l. before ++ l) (take_all (room - length before) [] (omega arith)) ∙ append-nil before

pub put-put : (room : ℕ) (before xs ys : List ℕ) → put room (put room before xs) ys ≡ put room before (xs ++ ys)
unfolding put
put-put room before xs ys =
    let n = room - length before in
    let e : room - length (before ++ take n xs) ≡ n - length (take n xs) =
    omega (arith, length-append before (take n xs)) in
    ap (λ k. before ++ take n xs ++ take k ys) e ∙ append_assoc before (take n xs) (take (n - length (take n xs)) ys)
    ∙ ap (λ l. before ++ l) (kept n xs ys)

pub put-then : (room : ℕ) (before xs ys : List ℕ) {mid after : List ℕ} → mid ≡ put room before xs
    → after ≡ put room mid ys → after ≡ put room before (xs ++ ys)
put-then room before xs ys p q = q ∙ ap (λ m. put room m ys) p ∙ put-put room before xs ys

-- a text that its room is enough for
pub put-whole : (room : ℕ) (bytes : List ℕ) → length bytes ≤ room → put room [] bytes ≡ bytes
unfolding put
put-whole room bytes h = take_all (room - 0) bytes (omega arith)

pub put-copied : {room count next : ℕ} {memory before after part : List ℕ} (bytes : List ℕ) → length memory ≡ room
    → count ≤ room → take count memory ≡ before → part ≡ take (min (room - count) (length bytes)) bytes
    → Put count part memory after next → take next after ≡ put room before bytes
unfolding put
put-copied {room} {count} {next} {memory} {before} {after} {part} bytes m n b t p =
    let long : length before ≡ count = omega (arith, ap length b, length-take count memory) in
    let left : room - count ≡ room - length before = omega arith in
    let fits : count + length part ≤ length memory =
    omega (arith, ap length t, length-take (min (room - count) (length bytes)) bytes) in
    let written : after ≡ (before ++ part) ++ drop (count + length part) memory =
    p.is ∙ sets-eq part memory count fits ∙ ap (λ l. l ++ part ++ drop (count + length part) memory) b in
    let whole : next ≡ length (before ++ part) = omega (arith, p.ends, length-append before part) in
    ap (λ n. take n after) whole ∙ ap (λ l. take (length (before ++ part)) l) written
    ∙ take-append_seam (before ++ part) (drop (count + length part) memory)
    ∙ ap (λ l. before ++ l) (t ∙ take_min (room - count) bytes ∙ ap (λ n. take n bytes) left)

-- and where all of it finds room
pub put-fits : {room count next : ℕ} {memory before after : List ℕ} (bytes : List ℕ) → length memory ≡ room
    → count ≤ room → take count memory ≡ before → length bytes ≤ room - count
    → Put count bytes memory after next → take next after ≡ put room before bytes
put-fits {room} {count} bytes m n b h p =
    let all : min (room - count) (length bytes) ≡ length bytes = omega arith in
    put-copied bytes m n b (sym (ap (λ k. take k bytes) all ∙ take_all (length bytes) bytes (omega arith))) p
