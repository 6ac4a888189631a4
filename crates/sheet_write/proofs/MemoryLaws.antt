-- The numbers of a model in memory: put in their order, they are those of the model that memory holds.
use Prim.Native.Nat.{ℕ, zero, suc, ◌+◌, ◌*◌, ◌≤◌}
use mathlib.Core.Path.{◌≡◌, refl, sym, ap, ◌∙◌}
use mathlib.Core.List.{List, [], ◌∷◌, ◌++◌, append_assoc}
use native.Mathlib.Numerals.{add-one}
use native.Mathlib.Omega.{arith}
use lib.ListN.{length, get_or, take, drop, set, length-append}
use lib.Seq.{sets-eq, get_or-drop, take_at, length-take-le}
use Rattle.sheet_write.specs.Memory.{listed_in}

-- ---- five numbers to a reaction

-- those of reaction i
abbrev pub five_at : List ℕ → List ℕ → ℕ → List ℕ
five_at r s i =
    get_or r i 0 ∷ get_or s (i * 4) 0 ∷ get_or s (i * 4 + 1) 0 ∷ get_or s (i * 4 + 2) 0 ∷ get_or s (i * 4 + 3) 0 ∷ []

five-later : (r s : List ℕ) (n : ℕ) → five_at (drop 1 r) (drop 4 s) n ≡ five_at r s (suc n)
five-later r s n =
    let e0 : 1 + n ≡ suc n = omega arith in
    let e1 : 4 + n * 4 ≡ suc n * 4 = omega arith in
    let e2 : 4 + (n * 4 + 1) ≡ suc n * 4 + 1 = omega arith in
    let e3 : 4 + (n * 4 + 2) ≡ suc n * 4 + 2 = omega arith in
    let e4 : 4 + (n * 4 + 3) ≡ suc n * 4 + 3 = omega arith in
    let f0 : get_or (drop 1 r) n 0 ≡ get_or r (suc n) 0 = get_or-drop 1 r n 0 ∙ ap (λ i. get_or r i 0) e0 in
    let f1 : get_or (drop 4 s) (n * 4) 0 ≡ get_or s (suc n * 4) 0 =
    get_or-drop 4 s (n * 4) 0 ∙ ap (λ i. get_or s i 0) e1 in
    let f2 : get_or (drop 4 s) (n * 4 + 1) 0
    ≡ get_or s (suc n * 4 + 1) 0 = get_or-drop 4 s (n * 4 + 1) 0 ∙ ap (λ i. get_or s i 0) e2 in
    let f3 : get_or (drop 4 s) (n * 4 + 2) 0
    ≡ get_or s (suc n * 4 + 2) 0 = get_or-drop 4 s (n * 4 + 2) 0 ∙ ap (λ i. get_or s i 0) e3 in
    let f4 : get_or (drop 4 s) (n * 4 + 3) 0
    ≡ get_or s (suc n * 4 + 3) 0 = get_or-drop 4 s (n * 4 + 3) 0 ∙ ap (λ i. get_or s i 0) e4 in
    λ i. f0 i ∷ f1 i ∷ f2 i ∷ f3 i ∷ f4 i ∷ []

listed-one : (n : ℕ) (r s : List ℕ) → listed_in (suc n) r s ≡ listed_in n r s ++ five_at r s n
unfolding listed_in
listed-one zero r s = refl
listed-one (suc n) r s =
    ap (λ l. get_or r 0 0 ∷ get_or s 0 0 ∷ get_or s 1 0 ∷ get_or s 2 0 ∷ get_or s 3 0 ∷ l)
    (listed-one n (drop 1 r) (drop 4 s)
    ∙ ap (λ l. listed_in n (drop 1 r) (drop 4 s) ++ l) (five-later r s n))

pub length-listed : (n : ℕ) (r s : List ℕ) → length (listed_in n r s) ≡ n * 5
unfolding listed_in
length-listed zero r s = refl
length-listed (suc n) r s =
    let z : suc (suc (suc (suc (suc (length (listed_in n (drop 1 r) (drop 4 s))))))) ≡ suc n * 5 =
    omega (arith, length-listed n (drop 1 r) (drop 4 s)) in
    z

-- five stores at p
five-put : (l : List ℕ) (p a b c d e : ℕ) → p + 5 ≤ length l
    → take (p + 5) (set (set (set (set (set l p a) (p + 1) b) (p + 2) c) (p + 3) d) (p + 4) e)
    ≡ take p l ++ (a ∷ b ∷ c ∷ d ∷ e ∷ [])
five-put l p a b c d e h =
    let e1 : p + 1 ≡ suc p = omega arith in
    let e2 : p + 2 ≡ suc (suc p) = omega arith in
    let e3 : p + 3 ≡ suc (suc (suc p)) = omega arith in
    let e4 : p + 4 ≡ suc (suc (suc (suc p))) = omega arith in
    let vs : List ℕ = a ∷ b ∷ c ∷ d ∷ e ∷ [] in
    let long : length (take p l ++ (a ∷ b ∷ c ∷ d ∷ e ∷ [])) ≡ p + 5 =
    length-append (take p l) (a ∷ b ∷ c ∷ d ∷ e ∷ [])
    ∙ ap (λ n. n + 5) (length-take-le p l (let z : p ≤ length l = omega arith in z)) in
    rw (e1, e2, e3, e4)
    (ap (λ m. take (p + 5) m) (sets-eq (a ∷ b ∷ c ∷ d ∷ e ∷ []) l p h ∙ sym (grouped (take p l)
    (a ∷ b ∷ c ∷ d ∷ e ∷ []) (drop (p + 5) l)))
    ∙ take_at (take p l ++ (a ∷ b ∷ c ∷ d ∷ e ∷ [])) (drop (p + 5) l) (p + 5) long)
  where
    grouped : (x y z : List ℕ) → (x ++ y) ++ z ≡ x ++ y ++ z
    grouped x y z = simp append_assoc

pub listed_more : (l r s : List ℕ) (i : ℕ) → i * 5 + 5 ≤ length l → take (i * 5) l ≡ listed_in i r s
    → take ((i + 1) * 5) (set (set (set (set (set l (i * 5) (get_or r i 0)) (i * 5 + 1) (get_or s (i * 4) 0))
    (i * 5 + 2) (get_or s (i * 4 + 1) 0)) (i * 5 + 3) (get_or s (i * 4 + 2) 0)) (i * 5 + 4) (get_or s (i * 4 + 3) 0))
    ≡ listed_in (i + 1) r s
listed_more l r s i h e =
    let p : (i + 1) * 5 ≡ i * 5 + 5 = omega arith in
    rw (p, add-one i) (five-put l (i * 5) _ _ _ _ _ h ∙ ap (λ x. x ++ five_at r s i) e ∙ sym (listed-one i r s))
