-- Numbers written one after the other, and read: what was read is what stands written there, up to the place
-- where the reader stopped.
use Prim.Native.Nat.{ℕ, zero, suc, ◌+◌, ◌<◌}
use mathlib.Core.Path.{◌≡◌, refl, sym, ap, ◌∙◌}
use mathlib.Core.List.{List, [], ◌∷◌, ◌++◌, append_assoc, append-nil}
use native.Mathlib.Omega.{arith}
use lib.ListN.{length}
use Rattle.sheet.specs.Numbers.{Piece, got, wrong, piece_of, ends_of, passed, stuck, pursued, numbers_of}
use Rattle.sheet.specs.Writes.{spell_of, Of, writes, Fit}
use Rattle.sheet.specs.declared.kind.Kind.{Kind}
use Rattle.sheet.proofs.Inverse.{Fine, piece-right, piece-inverse}

module _ (k : ℕ → Kind) where
  -- how many lines end in the numbers, of which the first is of the kind `k i`
  unfoldable pub ended : ℕ → List ℕ → ℕ
  ended i [] = 0
  ended i (v ∷ us) = ends_of (k i).mark + ended (i + 1) us

  pub numbers-right : ((i : ℕ) → Fine (k i)) → (us : List ℕ) (i lines : ℕ) (vs rest : List ℕ) → Fit k i us
      → numbers_of k i (length us) lines vs (writes k i us ++ rest) ≡ passed (vs ++ us) (lines + ended i us) rest
  unfolding numbers_of writes Fit ended
  numbers-right f [] i lines vs rest p = let z : lines ≡ lines + 0 = omega arith in rw (append-nil vs, ← z)
  numbers-right f (v ∷ us) i lines vs rest p =
      let z : lines + ends_of (k i).mark + ended (i + 1) us
      ≡ lines + (ends_of (k i).mark + ended (i + 1) us) = omega arith in
      rw (
        append_assoc,
        piece-right (k i) v (writes k (i + 1) us ++ rest) (f i) p.0,
        numbers-right f us (i + 1) (lines + ends_of (k i).mark) (vs ++ (v ∷ [])) rest
            p.1,
        append_assoc,
        z,
      )

  -- where n numbers were asked for and us were read
  pub record Came (i lines : ℕ) (s : List ℕ) (us : List ℕ) (L : ℕ) (rest : List ℕ) : Type 0 where
    pub fit : Fit k i us
    pub text : s ≡ writes k i us ++ rest
    pub counted : L ≡ lines + ended i us

  came-none : (i lines : ℕ) (s : List ℕ) → Came i lines s [] lines s
  unfolding writes Fit ended
  came-none i l s = record { fit = tt; text = refl; counted = omega arith }

  came-more : {i lines L v : ℕ} {s us r rest : List ℕ} → (s ≡ spell_of (k i) v ++ ((k i).mark ∷ r)) × Of (k i) v
      → Came (i + 1) (lines + ends_of (k i).mark) r us L rest
      → Came i lines s (v ∷ us) L rest
  unfolding writes Fit ended
  came-more {i} {lines} {L} {v} {s} {us} {r} {rest} o c =
      record {
        fit = (o.1, c.fit);
        text =
            o.0 ∙ ap (λ (x : List ℕ). spell_of (k i) v ++ ((k i).mark ∷ x)) c.text
            ∙ sym (append_assoc (spell_of (k i) v) ((k i).mark ∷ writes k (i + 1) us) rest);
        counted = omega (arith, c.counted);
      }

  pub record Passed (i n lines : ℕ) (vs s : List ℕ) (ws : List ℕ) (L : ℕ) (rest : List ℕ) : Type 0 where
    pub us : List ℕ
    pub all : ws ≡ vs ++ us
    pub many : length us ≡ n
    pub came : Came i lines s us L rest

  pub numbers-passed : (n i lines : ℕ) (vs s ws : List ℕ) (L : ℕ) (rest : List ℕ)
      → numbers_of k i n lines vs s ≡ passed ws L rest → Passed i n lines vs s ws L rest
  unfolding numbers_of
  numbers-passed zero i lines vs s ws L rest e =
      let a : vs ≡ ws = cc in
      let b : lines ≡ L = cc in
      let c : s ≡ rest = cc in
      rw (← a, ← b, ← c) (record { us = []; all = sym (append-nil vs); many = refl; came = came-none i lines s })
  numbers-passed (suc n) i lines vs s ws L rest e =
      go (piece_of (k i) s) refl e
      (λ v r. numbers-passed n (i + 1) (lines + ends_of (k i).mark) (vs ++ (v ∷ [])) r ws L rest)
    where
      go : (p : Piece) → piece_of (k i) s ≡ p
          → pursued p lines (λ v r. numbers_of k (i + 1) n (lines + ends_of (k i).mark) (vs ++ (v ∷ [])) r)
          ≡ passed ws L rest
          → ((v : ℕ) (r : List ℕ)
          → numbers_of k (i + 1) n (lines + ends_of (k i).mark) (vs ++ (v ∷ [])) r ≡ passed ws L rest
          → Passed (i + 1) n (lines + ends_of (k i).mark) (vs ++ (v ∷ [])) r ws L rest)
          → Passed i (suc n) lines vs s ws L rest
      go wrong ep e next = absurd (let z : ◌≡◌ {A = ℕ} 0 1 = cc in let y : ⊥ = omega arith in y)
      go (got v r) ep e next =
          let ih = next v r e in
          record {
            us = v ∷ ih.us;
            all = ih.all ∙ append_assoc vs (v ∷ []) ih.us;
            many = ap suc ih.many;
            came = came-more (piece-inverse (k i) s r v ep) ih.came;
          }

  pub record Stuck (i n lines : ℕ) (s : List ℕ) (L : ℕ) : Type 0 where
    pub us : List ℕ
    pub rest : List ℕ
    pub fewer : length us < n
    pub came : Came i lines s us L rest

  pub numbers-stuck : (n i lines : ℕ) (vs s : List ℕ) (L : ℕ)
      → numbers_of k i n lines vs s ≡ stuck L → Stuck i n lines s L
  unfolding numbers_of
  numbers-stuck zero i lines vs s L e = absurd (let z : ◌≡◌ {A = ℕ} 0 1 = cc in let y : ⊥ = omega arith in y)
  numbers-stuck (suc n) i lines vs s L e =
      go (piece_of (k i) s) refl e (λ v r. numbers-stuck n (i + 1) (lines + ends_of (k i).mark) (vs ++ (v ∷ [])) r L)
    where
      go : (p : Piece) → piece_of (k i) s ≡ p
          → pursued p lines (λ v r. numbers_of k (i + 1) n (lines + ends_of (k i).mark) (vs ++ (v ∷ [])) r) ≡ stuck L
          → ((v : ℕ) (r : List ℕ) → numbers_of k (i + 1) n (lines + ends_of (k i).mark) (vs ++ (v ∷ [])) r ≡ stuck L
          → Stuck (i + 1) n (lines + ends_of (k i).mark) r L)
          → Stuck i (suc n) lines s L
      go wrong ep e next =
          let l : lines ≡ L = cc in
          rw (← l) (record { us = []; rest = s; fewer = omega arith; came = came-none i lines s })
      go (got v r) ep e next =
          let ih = next v r e in
          record {
            us = v ∷ ih.us;
            rest = ih.rest;
            fewer = omega (arith, ih.fewer);
            came = came-more (piece-inverse (k i) s r v ep) ih.came;
          }
