-- Where the record stands after any bytes.
use Rattle.std.proofs.Common.{Result, Option, None, Some}
use Rattle.std.proofs.Common.{◌≡◌, ℕ, ◌+◌, ◌*◌, ◌%◌, ◌^◌, true, false, eqb, List, [], ◌∷◌, ◌++◌, length, sym, refl, ap}
use Rattle.std.proofs.Common.{◌∙◌, append_assoc, append-nil, arith, length-append, eqb-true}
use native.Mathlib.Nat.{mod-add-mod}
use Rattle.words.specs.Loop.{pick}
use Rattle.words.proofs.Branch.{pick_yes, pick_no}
use Rattle.night_totals.specs.Filling.{blank_of, filled_of}
use Rattle.night_totals.specs.Printed.{totals_form, totals_from}
use Rattle.night_totals.specs.declared.filling.Filling.{Filling}
use Rattle.night_totals.specs.declared.totals.Totals.{Totals}
use Rattle.night_totals.proofs.FormLaws.{split, opened}
use Rattle.night_join.specs.Join.{then_join}
use Rattle.night_join.specs.declared.joining.JoinError.{JoinError}
use Rattle.night_chain.specs.Texts.{printed, Short, AllShort, nothing, another, printed_all}
use Rattle.night_chain.specs.Reads.{joined_from, joined_of}
use Rattle.night_chain.specs.Chain.{chain_at, start_of, lines_of, taken_of, step_of, fed_of}
use Rattle.night_chain.specs.declared.chain.Chain.{Chain}
use Rattle.night_chain.specs.declared.chain.Stand.TheVariants as stands
use Rattle.night_chain.proofs.TextLaws.{ended, ended-append}
use Rattle.night_chain.proofs.FewLaws.{totals-short}
use Rattle.night_chain.proofs.PrintedLaws.{printed_ended}
use Rattle.night_chain.proofs.RunLaws.{Run, run-blank, next-sound, next_past, next-few, run_more, past-whole}

-- the number of lines as a word
abbrev pub lines_at : List Totals → List ℕ → ℕ
lines_at ts come = (14 * length ts + ended come) % 2 ^ 64

-- within totals, or where they begin
pub record Going (s : List ℕ) (c : Chain) : Type 0 where
  pub ts : List Totals
  pub come : List ℕ
  pub q : Filling
  pub is : s ≡ printed_all ts ++ come
  pub short : AllShort ts
  pub at : c ≡ chain_at (stands.Open q) (lines_at ts come) (joined_of ts)
  pub run : Run come q

-- behind a byte with which no totals go on
pub record Wrong (s : List ℕ) (c : Chain) : Type 0 where
  pub ts : List Totals
  pub come : List ℕ
  pub q : Filling
  pub b : ℕ
  pub more : List ℕ
  pub is : s ≡ printed_all ts ++ (come ++ (b ∷ more))
  pub short : AllShort ts
  pub at : c ≡ chain_at (stands.Wrong blank_of) (lines_at ts come) (joined_of ts)
  pub run : Run come q
  pub bad : filled_of totals_form q b ≡ None

pub data Stand (s : List ℕ) (c : Chain) : Type 0 where
  going : Going s c → Stand s c
  wrong : Wrong s c → Stand s c

-- ---- totals more

joined-more : (j : Result Totals JoinError) (ts : List Totals) (t : Totals)
    → joined_from j (ts ++ (t ∷ [])) ≡ then_join (joined_from j ts) t
unfolding joined_from
joined-more j [] t = refl
joined-more j (u ∷ ts) t = joined-more (then_join j u) ts t

printed-more : (ts : List Totals) (t : Totals) → printed_all (ts ++ (t ∷ [])) ≡ printed_all ts ++ printed t
unfolding printed_all
printed-more [] t = append-nil (printed t)
printed-more (u ∷ ts) t =
    ap (λ l. printed u ++ l) (printed-more ts t) ∙ sym (append_assoc (printed u) (printed_all ts) (printed t))

short-more : {ts : List Totals} (t : Totals) → AllShort ts → Short t → AllShort (ts ++ (t ∷ []))
short-more t nothing h = another h nothing
short-more t (another g x) h = another g (short-more t x h)

-- ---- lines more

lines_more : (m b : ℕ) → lines_of (m % 2 ^ 64) b ≡ (m + ended (b ∷ [])) % 2 ^ 64
unfolding lines_of ended
lines_more m b =
    split (eqb b 10)
    (λ e. let z : m + 1 ≡ m + (pick (eqb b 10) 1 0 + 0) = omega (arith, pick_yes {A = ℕ} 1 0 e) in
    pick_yes _ _ e ∙ mod-add-mod m (2 ^ 64) 1 ∙ ap (λ n. n % 2 ^ 64) z)
    (λ e. let z : m ≡ m + (pick (eqb b 10) 1 0 + 0) = omega (arith, pick_no {A = ℕ} 1 0 e) in
    pick_no _ _ e ∙ ap (λ n. n % 2 ^ 64) z)

lines-on : (ts : List Totals) (come : List ℕ) (b : ℕ)
    → lines_of (lines_at ts come) b ≡ lines_at ts (come ++ (b ∷ []))
lines-on ts come b =
    let z : 14 * length ts + ended come + ended (b ∷ []) ≡ 14 * length ts + ended (come ++ (b ∷ [])) =
    omega (arith, ended-append come (b ∷ [])) in
    lines_more (14 * length ts + ended come) b ∙ ap (λ n. n % 2 ^ 64) z

lines-whole : (ts : List Totals) (t : Totals) (come : List ℕ) → come ≡ printed t
    → lines_at ts come ≡ lines_at (ts ++ (t ∷ [])) []
unfolding ended
lines-whole ts t come e =
    let z : 14 * length ts + ended come ≡ 14 * length (ts ++ (t ∷ [])) + 0 =
    omega (arith, ap ended e, printed_ended t, length-append ts (t ∷ [])) in
    ap (λ n. n % 2 ^ 64) z

-- ---- one byte more

module _ (n : ℕ) (j : Result Totals JoinError) (r : Filling) (b : ℕ) where
  taken-on : eqb r.at 138 ≡ false → taken_of n j (Some r) b ≡ chain_at (stands.Open r) (lines_of n b) j
  unfolding taken_of
  taken-on e = pick_no _ _ e

  taken-whole : eqb r.at 138 ≡ true
      → taken_of n j (Some r) b ≡ chain_at (stands.Open blank_of) (lines_of n b) (then_join j (totals_from r.values))
  unfolding taken_of
  taken-whole e = pick_yes _ _ e

module _ (s : List ℕ) (c : Chain) (b : ℕ) where
  abbrev After : Chain → Type 0
  After d = Stand (s ++ (b ∷ [])) d

  module _ (x : Going s c) where
    longer : s ++ (b ∷ []) ≡ printed_all x.ts ++ (x.come ++ (b ∷ []))
    longer = ap (λ l. l ++ (b ∷ [])) x.is ∙ append_assoc (printed_all x.ts) x.come (b ∷ [])

    taken_is : (o : Option Filling) → filled_of totals_form x.q b ≡ o
        → step_of c b ≡ taken_of (lines_at x.ts x.come) (joined_of x.ts) o b
    unfolding step_of
    taken_is o e =
        ap (λ (d : Chain). step_of d b) x.at
        ∙ ap (λ p. taken_of (lines_at x.ts x.come) (joined_of x.ts) p b) e

    spoils : filled_of totals_form x.q b ≡ None → After (step_of c b)
    unfolding taken_of
    spoils w = wrong (record {
      ts = x.ts;
      come = x.come;
      q = x.q;
      b = b;
      more = [];
      is = longer;
      short = x.short;
      at = taken_is None w;
      run = x.run;
      bad = w;
    })

    module _ (r : Filling) (w : filled_of totals_form x.q b ≡ Some r) where
      goes-on : eqb r.at 138 ≡ false → After (step_of c b)
      goes-on e = going (record {
        ts = x.ts;
        come = x.come ++ (b ∷ []);
        q = r;
        is = longer;
        short = x.short;
        at =
            taken_is (Some r) w ∙ taken-on _ _ r b e
            ∙ ap (λ n. chain_at (stands.Open r) n (joined_of x.ts)) (lines-on x.ts x.come b);
        run = run_more x.come x.q b x.run r w e;
      })

      ends : eqb r.at 138 ≡ true → After (step_of c b)
      ends e =
          let t = totals_from r.values in
          let whole : x.come ++ (b ∷ []) ≡ printed t =
          sym (next_past x.come x.q b x.run r w)
          ∙ past-whole r (next-sound x.come x.q b x.run r w) (eqb-true _ _ e) in
          going (record {
            ts = x.ts ++ (t ∷ []);
            come = [];
            q = blank_of;
            is =
                longer ∙ ap (λ l. printed_all x.ts ++ l) whole ∙ sym (printed-more x.ts t)
                ∙ sym (append-nil (printed_all (x.ts ++ (t ∷ []))));
            short = short-more t x.short (totals-short r.values (next-few x.come x.q b x.run r w).values);
            at =
                taken_is (Some r) w ∙ taken-whole _ _ r b e
                ∙ ap (λ n. chain_at (stands.Open blank_of) n (then_join (joined_of x.ts) t))
                (lines-on x.ts x.come b ∙ lines-whole x.ts t (x.come ++ (b ∷ [])) whole)
                ∙ ap (λ (j : Result Totals JoinError). chain_at (stands.Open blank_of) (lines_at (x.ts ++ (t ∷ [])) [])
                j)
                (sym (joined-more _ x.ts t));
            run = run-blank;
          })

    steps : After (step_of c b)
    steps =
        opened (filled_of totals_form x.q b) spoils
        (λ r w. split (eqb r.at 138) (λ e. ends r w e) (λ e. goes-on r w e))

pub stand-step : (s : List ℕ) (c : Chain) (b : ℕ) → Stand s c → Stand (s ++ (b ∷ [])) (step_of c b)
unfolding step_of
stand-step s c b (going x) = steps s c b x
stand-step s c b (wrong x) =
    wrong (record {
      ts = x.ts;
      come = x.come;
      q = x.q;
      b = x.b;
      more = x.more ++ (b ∷ []);
      is =
          ap (λ l. l ++ (b ∷ [])) x.is
          ∙ append_assoc (printed_all x.ts) (x.come ++ (x.b ∷ x.more)) (b ∷ [])
          ∙ ap (λ l. printed_all x.ts ++ l) (append_assoc x.come (x.b ∷ x.more) (b ∷ []));
      short = x.short;
      at = ap (λ (d : Chain). step_of d b) x.at;
      run = x.run;
      bad = x.bad;
    })

stand-all : (t s : List ℕ) (c : Chain) → Stand s c → Stand (s ++ t) (fed_of c t)
unfolding fed_of
stand-all [] s c x = rw (append-nil s) x
stand-all (b ∷ t) s c x =
    rw (append_assoc s (b ∷ []) t) at (stand-all t (s ++ (b ∷ [])) (step_of c b) (stand-step s c b x))

pub stand : (s : List ℕ) → Stand s (fed_of start_of s)
unfolding printed_all joined_from ended
stand s =
    stand-all s [] start_of (going (record {
      ts = [];
      come = [];
      q = blank_of;
      is = refl;
      short = nothing;
      at = refl;
      run = run-blank;
    }))
