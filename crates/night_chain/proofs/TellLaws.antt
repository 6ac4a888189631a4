-- What is told of a text is what it comes to, and nothing else is.
use Rattle.std.proofs.Common.{Result, Err}
use Rattle.std.proofs.Common.{◌≡◌, ℕ, suc, ◌+◌, ◌*◌, ◌%◌, ◌^◌, ◌<◌, ◌≤◌, true, false, eqb, ltb, ◌↔◌, List, [], ◌∷◌}
use Rattle.std.proofs.Common.{◌++◌, length, sym, refl, ap, ◌∙◌, append_assoc, append-nil, arith, ltb-false, ltb-true}
use Rattle.std.proofs.Common.{eqb-true}
use native.Mathlib.Nat.{mod-add-mod}
use Rattle.words.proofs.Branch.{pick_yes, pick_no}
use Rattle.night_totals.specs.Filling.{blank_of}
use Rattle.night_totals.specs.Night.{plus}
use Rattle.night_totals.specs.declared.filling.Filling.{Filling}
use Rattle.night_totals.specs.declared.totals.Totals.{Totals}
use Rattle.night_totals.proofs.FormLaws.{split}
use Rattle.night_join.specs.declared.joining.JoinError.{JoinError}
use Rattle.night_chain.specs.Texts.{printed, Short, AllShort, another, printed_all, Begins}
use Rattle.night_chain.specs.Reads.{joined_of, answer_of, Reads, joined, malformed}
use Rattle.night_chain.specs.Chain.{chain_at, start_of, fed_of, told_of}
use Rattle.night_chain.specs.declared.chain.Chain.{Chain}
use Rattle.night_chain.specs.declared.chain.Stand.TheVariants as stands
use Rattle.night_chain.specs.declared.chain.ChainError.{ChainError}
use Rattle.night_chain.specs.declared.chain.ChainError.TheVariants as chain_error
use Rattle.night_chain.proofs.TextLaws.{ended, ended-append}
use Rattle.night_chain.proofs.PrintedLaws.{printed_ended, fronts-same, rests-same, printed-once}
use Rattle.night_chain.proofs.PrintedLaws.{begins-all, begins-fewer}
use Rattle.night_chain.proofs.RunLaws.{past-none, begun-some, lines-few, run-begins, run-no-more}
use Rattle.night_chain.proofs.RunLaws.{wrong-no-more}
use Rattle.night_chain.proofs.StandLaws.{lines_at, Going, Wrong, Stand, going, wrong, stand}

-- ---- what is told at each stand

next-line : (ts : List Totals) (come : List ℕ)
    → plus (lines_at ts come) 1 ≡ (14 * length ts + suc (ended come)) % 2 ^ 64
next-line ts come =
    let z : 14 * length ts + ended come + 1 ≡ 14 * length ts + suc (ended come) = omega arith in
    mod-add-mod (14 * length ts + ended come) (2 ^ 64) 1 ∙ ap (λ n. n % 2 ^ 64) z

module _ (q : Filling) (n : ℕ) (j : Result Totals JoinError) where
  told-joined : eqb q.at 0 ≡ true → told_of (chain_at (stands.Open q) n j) ≡ answer_of j
  unfolding told_of
  told-joined e = pick_yes _ _ e

  told-open : eqb q.at 0 ≡ false → told_of (chain_at (stands.Open q) n j) ≡ Err (chain_error.Malformed (plus n 1))
  unfolding told_of
  told-open e = pick_no _ _ e

told-wrong : (n : ℕ) (j : Result Totals JoinError) → told_of (chain_at (stands.Wrong blank_of) n j)
    ≡ Err (chain_error.Malformed (plus n 1))
unfolding told_of
told-wrong n j = refl

-- ---- what is told is right

some_more : (come : List ℕ) (b : ℕ) (more : List ℕ) → 0 < length (come ++ (b ∷ more))
some_more [] b more = omega arith
some_more (x ∷ come) b more = omega arith

reads-going : (s : List ℕ) (c : Chain) → Going s c → Reads s (told_of c)
reads-going s c x =
    split (eqb x.q.at 0)
    (λ y. rw (x.at, told-joined x.q (lines_at x.ts x.come) (joined_of x.ts) y)
    (joined x.ts (x.is ∙ ap (λ l. printed_all x.ts ++ l)
    (sym x.run.is ∙ past-none x.q x.run.sound (eqb-true _ _ y)) ∙ append-nil _) x.short))
    (λ n. rw (
      x.at,
      told-open x.q (lines_at x.ts x.come) (joined_of x.ts) n,
      next-line x.ts x.come,
    )
    (malformed x.ts x.come (ended x.come) x.is x.short (begun-some x.come x.q x.run n)
    (lines-few x.come x.q x.run)
    (rw (append-nil x.come) at (run-begins x.come x.q [] x.run))
    (run-no-more x.come x.q x.run)))

reads-wrong : (s : List ℕ) (c : Chain) → Wrong s c → Reads s (told_of c)
reads-wrong s c x =
    let rest = x.come ++ (x.b ∷ x.more) in
    rw (x.at, told-wrong (lines_at x.ts x.come) (joined_of x.ts), next-line x.ts x.come)
    (malformed x.ts rest (ended x.come) x.is x.short (some_more x.come x.b x.more)
    (lines-few x.come x.q x.run)
    (run-begins x.come x.q (x.b ∷ x.more) x.run)
    (wrong-no-more x.come x.q x.b x.more x.run x.bad))

reads-by : (s : List ℕ) (c : Chain) → Stand s c → Reads s (told_of c)
reads-by s c (going x) = reads-going s c x
reads-by s c (wrong x) = reads-wrong s c x

pub told-right : (s : List ℕ) → Reads s (told_of (fed_of start_of s))
told-right s = reads-by s (fed_of start_of s) (stand s)

-- ---- and it is the only one

-- no totals are nothing
not_none : (t : Totals) (s : List ℕ) → [] ≡ printed t ++ s → ⊥
unfolding ended
not_none t s e =
    let z : 0 ≡ ended (printed t) + ended s = ap ended e ∙ ended-append (printed t) s in
    omega (arith, printed_ended t)

joined_once : (ts us : List Totals) → AllShort ts → AllShort us → printed_all ts ≡ printed_all us → ts ≡ us
unfolding printed_all
joined_once [] [] g h e = refl
joined_once [] (u ∷ us) g h e = absurd (not_none u (printed_all us) e)
joined_once (t ∷ ts) [] g h e = absurd (not_none t (printed_all ts) (sym e))
joined_once (t ∷ ts) (u ∷ us) (another p g) (another q h) e =
    let a : t ≡ u = printed-once t u p q (fronts-same t u (printed_all ts) (printed_all us) e) in
    let b : ts ≡ us = joined_once ts us g h (rests-same t u (printed_all ts) (printed_all us) e) in
    cc

-- what stands behind all totals of a text begins with no totals
abbrev Stops : ℕ → List ℕ → Type 0
Stops n c = Begins (suc n) c → ⊥

stopped : (t : Totals) (c rest : List ℕ) (n : ℕ) → Short t → Stops n c → c ≡ printed t ++ rest → ⊥
stopped t c rest n h stops e = stops (begins-all t c rest (suc n) h e)

module _ (c : List ℕ) (n : ℕ) (some : 0 < length c) (stops : Stops n c) where
  not-joined : (us ts : List Totals) → AllShort us → AllShort ts → printed_all us ≡ printed_all ts ++ c → ⊥
  unfolding printed_all
  not-joined [] [] g h e = let z : 0 ≡ length c = ap length e in omega arith
  not-joined [] (t ∷ ts) g h e = not_none t (printed_all ts ++ c) (e ∙ append_assoc (printed t) (printed_all ts) c)
  not-joined (u ∷ us) [] (another p g) h e = stopped u c (printed_all us) n p stops (sym e)
  not-joined (u ∷ us) (t ∷ ts) (another p g) (another q h) e =
      not-joined us ts g h
      (rests-same u t (printed_all us) (printed_all ts ++ c) (e ∙ append_assoc (printed t) (printed_all ts) c))

  module _ (d : List ℕ) (m : ℕ) (ends : Stops m d) where
    same-front : (ts us : List Totals) → AllShort ts → AllShort us → printed_all ts ++ c ≡ printed_all us ++ d
        → (length ts ≡ length us) × (c ≡ d)
    unfolding printed_all
    same-front [] [] g h e = (refl, e)
    same-front [] (u ∷ us) g (another q h) e =
        absurd (stopped u c (printed_all us ++ d) n q stops (e ∙ append_assoc (printed u) (printed_all us) d))
    same-front (t ∷ ts) [] (another p g) h e =
        absurd (stopped t d (printed_all ts ++ c) m p ends (sym e ∙ append_assoc (printed t) (printed_all ts) c))
    same-front (t ∷ ts) (u ∷ us) (another p g) (another q h) e =
        let k = same-front ts us g h (rests-same t u (printed_all ts ++ c) (printed_all us ++ d)
        (sym (append_assoc (printed t) (printed_all ts) c) ∙ e ∙ append_assoc (printed u) (printed_all us) d)) in
        (ap suc k.0, k.1)

  -- no line more, and none less
  same_line : (m : ℕ) → n < 14 → m < 14 → Begins n c → Begins m c → Stops m c → n ≡ m
  same_line m l h x y ends =
      split (ltb n m)
      (λ e. let u : n < m = ltb-true _ _ e in absurd (stops (begins-fewer (suc n) m c u (omega arith) y)))
      (λ e. let v : m ≤ n = ltb-false _ _ e in
      split (ltb m n)
      (λ f. let u : m < n = ltb-true _ _ f in absurd (ends (begins-fewer (suc m) n c u (omega arith) x)))
      (λ f. let u : n ≤ m = ltb-false _ _ f in omega arith))

pub one-outcome-proof : (s : List ℕ) (a b : Result Totals ChainError) → Reads s a → Reads s b → a ≡ b
one-outcome-proof s a b (joined ts e g) (joined us f h) =
    ap (λ l. answer_of (joined_of l)) (joined_once ts us g h (sym e ∙ f))
one-outcome-proof s a b (joined ts e g) (malformed us c n f h some l x stops) =
    absurd (not-joined c n some stops ts us g h (sym e ∙ f))
one-outcome-proof s a b (malformed us c n f h some l x stops) (joined ts e g) =
    absurd (not-joined c n some stops ts us g h (sym e ∙ f))
one-outcome-proof s a b (malformed ts c n e g some l x stops) (malformed us d m f h more k y ends) =
    let z = same-front c n some stops d m ends ts us g h (sym e ∙ f) in
    let i : c ≡ d = z.1 in
    let p : n ≡ m = same_line c n some stops m l k x (rw i y) (λ w. ends (rw (← i) w)) in
    let q : 14 * length ts + suc n ≡ 14 * length us + suc m = omega (arith, z.0) in
    ap (λ r. Err (chain_error.Malformed (r % 2 ^ 64))) q

pub told-exactly-proof : (s : List ℕ) (a : Result Totals ChainError) → (told_of (fed_of start_of s) ≡ a) ↔ Reads s a
told-exactly-proof s a = (
  λ e. rw e at (told-right s),
  λ x. one-outcome-proof s (told_of (fed_of start_of s)) a (told-right s) x,
)
