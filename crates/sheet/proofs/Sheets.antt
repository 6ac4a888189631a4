-- A model's sheet is the numbers of its four parts, each of its kind and with its mark; and it's valid exactly where
-- the numbers are of their kinds.
use Prim.Native.Nat.{ℕ, ◌+◌, ◌%◌, ◌^◌, ◌≤◌, ◌<◌}
use mathlib.Core.Path.{◌≡◌, refl, sym, ◌∙◌}
use mathlib.Core.List.{List, [], ◌∷◌, ◌++◌, append_assoc}
use native.Mathlib.Omega.{arith}
use borrow.Author.Tests.{lt-ltb, le-ltb, eq-eqb, ne_eqb}
use lib.ListN.{length}
use Rattle.words.specs.Loop.{pick}
use Rattle.words.proofs.Branch.{pick_yes, pick_no, pick_all}
use Rattle.state.specs.declared.settings.Rule.{Rule}
use Rattle.state.specs.declared.settings.Rule.TheVariants as rule
use Rattle.sheet.specs.Digits.{power, base_of, width_by}
use Rattle.sheet.specs.Sheet.{Reaction, Model, Every, Bits, Known, Valid}
use Rattle.sheet.specs.Sheet.{rule_number, amount_lines, reaction_lines, written}
use Rattle.sheet.specs.Kinds.{hex_kind, decimal_kind, setting_of, reaction_of, kind_of}
use Rattle.sheet.specs.declared.kind.Kind.{Kind}
use Rattle.sheet.specs.declared.kind.Phase.{Phase}
use Rattle.sheet.specs.declared.kind.Phase.TheVariants as phase
use Rattle.sheet.specs.Writes.{spell_of, Of, writes, Fit}
use Rattle.sheet.proofs.Inverse.{Fine, width-bound}

-- ---- every kind is fine

hex-fine : (mark : ℕ) → mark < 48 → Fine (hex_kind mark)
unfolding base_of width_by pick power
hex-fine mark h =
    let e : power 16 16 ≡ 2 ^ 64 = refl in
    record { bound = λ v l. let z : v < power 16 16 = rw e (omega arith) in z; mark = h }

decimal-fine : (low high mark : ℕ) → high ≤ 9999999999 → mark < 48 → Fine (decimal_kind low high mark)
unfolding base_of width_by pick
decimal-fine low high mark b h = record {
  bound = λ v l. width-bound v (let z : v ≤ 9999999999 = omega arith in z);
  mark = h;
}

pub setting-fine : (i : ℕ) → Fine (setting_of i)
unfolding setting_of
setting-fine i =
    pick_all (λ k. Fine k) _ _ _ (λ e. decimal-fine 6 6 10 (omega arith) (omega arith))
    (λ e. pick_all (λ k. Fine k) _ _ _ (λ e. hex-fine 10 (omega arith))
    (λ e. pick_all (λ k. Fine k) _ _ _ (λ e. decimal-fine 0 9999999999 10 (omega arith) (omega arith))
    (λ e. pick_all (λ k. Fine k) _ _ _ (λ e. decimal-fine 0 1 10 (omega arith) (omega arith))
    (λ e. decimal-fine 1 32 10 (omega arith) (omega arith)))))

pub reaction-fine : (species i : ℕ) → species ≤ 32 → Fine (reaction_of species i)
unfolding reaction_of
reaction-fine species i h =
    pick_all (λ k. Fine k) _ _ _ (λ e. hex-fine 32 (omega arith))
    (λ e. pick_all (λ k. Fine k) _ _ _ (λ e. decimal-fine 0 species 32 (omega arith) (omega arith))
    (λ e. decimal-fine 0 species 10 (omega arith) (omega arith)))

pub kind-fine : (p : Phase) (species : ℕ) → species ≤ 32 → (i : ℕ) → Fine (kind_of p species i)
unfolding kind_of
kind-fine phase.Settings species h i = setting-fine i
kind-fine phase.Amounts species h i = hex-fine 10 (omega arith)
kind-fine phase.Count species h i = decimal-fine 0 64 10 (omega arith) (omega arith)
kind-fine phase.Reactions species h i = reaction-fine species i h

-- ---- the numbers of a model

abbrev pub settings_of : Model → List ℕ
settings_of m =
    6 ∷ m.x0 ∷ m.xend ∷ m.rtol ∷ m.atol ∷ m.max_steps ∷ rule_number m.rule ∷ length m.amounts ∷ []

unfoldable pub listed_of : List Reaction → List ℕ
listed_of [] = []
listed_of (r ∷ rs) = r.rate ∷ r.reactant1 ∷ r.reactant2 ∷ r.product1 ∷ r.product2 ∷ listed_of rs

module _ (species i : ℕ) (first : i % 5 ≡ 0) where
  kind0 : reaction_of species i ≡ hex_kind 32
  unfolding reaction_of
  kind0 = pick_yes _ _ (eq-eqb _ _ first)

  kind1 : reaction_of species (i + 1) ≡ decimal_kind 0 species 32
  unfolding reaction_of
  kind1 =
      pick_no _ _ (ne_eqb ((i + 1) % 5) 0 (λ e. let z : ⊥ = omega arith in z))
      ∙ pick_yes _ _ (lt-ltb ((i + 1) % 5) 4 (omega arith))

  kind2 : reaction_of species (i + 1 + 1) ≡ decimal_kind 0 species 32
  unfolding reaction_of
  kind2 =
      pick_no _ _ (ne_eqb ((i + 1 + 1) % 5) 0 (λ e. let z : ⊥ = omega arith in z))
      ∙ pick_yes _ _ (lt-ltb ((i + 1 + 1) % 5) 4 (omega arith))

  kind3 : reaction_of species (i + 1 + 1 + 1) ≡ decimal_kind 0 species 32
  unfolding reaction_of
  kind3 =
      pick_no _ _ (ne_eqb ((i + 1 + 1 + 1) % 5) 0 (λ e. let z : ⊥ = omega arith in z))
      ∙ pick_yes _ _ (lt-ltb ((i + 1 + 1 + 1) % 5) 4 (omega arith))

  kind4 : reaction_of species (i + 1 + 1 + 1 + 1) ≡ decimal_kind 0 species 10
  unfolding reaction_of
  kind4 =
      pick_no _ _ (ne_eqb ((i + 1 + 1 + 1 + 1) % 5) 0 (λ e. let z : ⊥ = omega arith in z))
      ∙ pick_no _ _ (le-ltb ((i + 1 + 1 + 1 + 1) % 5) 4 (omega arith))

  next : (i + 1 + 1 + 1 + 1 + 1) % 5 ≡ 0
  next = omega arith

-- ---- written

amounts-written : (i : ℕ) (a : List ℕ) → writes (kind_of phase.Amounts 0) i a ≡ amount_lines a
unfolding writes kind_of spell_of base_of width_by pick
amounts-written i [] = refl
amounts-written i (v ∷ a) = rw (amounts-written (i + 1) a, append_assoc)

pub reactions-written : (species i : ℕ) (rs : List Reaction) → i % 5 ≡ 0
    → writes (kind_of phase.Reactions species) i (listed_of rs) ≡ reaction_lines rs
unfolding writes kind_of listed_of spell_of base_of width_by pick
reactions-written species i [] h = refl
reactions-written species i (r ∷ rs) h =
    rw (
      kind0 species i h,
      kind1 species i h,
      kind2 species i h,
      kind3 species i h,
      kind4 species i h,
      reactions-written species (i + 1 + 1 + 1 + 1 + 1) rs (next species i h),
    )
    (sym (simp append_assoc))

pub sheet-written : (m : Model)
    → written m ≡ writes (kind_of phase.Settings 0) 0 (settings_of m) ++ (writes (kind_of phase.Amounts 0) 0 m.amounts
    ++ (writes (kind_of phase.Count 0) 0 (length m.reactions ∷ [])
    ++ writes (kind_of phase.Reactions (length m.amounts)) 0 (listed_of m.reactions)))
unfolding written writes kind_of setting_of spell_of base_of width_by pick
sheet-written m =
    rw (amounts-written 0 m.amounts, reactions-written (length m.amounts) 0 m.reactions refl)
    (simp append_assoc)

-- ---- valid

pub record Fits (m : Model) : Type 0 where
  pub settings : Fit (kind_of phase.Settings 0) 0 (settings_of m)
  pub amounts : Fit (kind_of phase.Amounts 0) 0 m.amounts
  pub count : Fit (kind_of phase.Count 0) 0 (length m.reactions ∷ [])
  pub reactions : Fit (kind_of phase.Reactions (length m.amounts)) 0 (listed_of m.reactions)

bits_fit : (i : ℕ) (a : List ℕ) → Every Bits a → Fit (kind_of phase.Amounts 0) i a
unfolding Fit kind_of
bits_fit i [] e = tt
bits_fit i (v ∷ a) e = (record { low = omega arith; high = e.0 }, bits_fit (i + 1) a e.1)

fit-bits : (i : ℕ) (a : List ℕ) → Fit (kind_of phase.Amounts 0) i a → Every Bits a
unfolding Fit kind_of
fit-bits i [] f = tt
fit-bits i (v ∷ a) f = (f.0.high, fit-bits (i + 1) a f.1)

known-fit : (species i : ℕ) (rs : List Reaction) → i % 5 ≡ 0 → Every (Known species) rs
    → Fit (kind_of phase.Reactions species) i (listed_of rs)
unfolding Fit kind_of listed_of
known-fit species i [] h e = tt
known-fit species i (r ∷ rs) h e = (
  rw (kind0 species i h) (record { low = omega arith; high = e.0.rate }),
  (
    rw (kind1 species i h) (record { low = omega arith; high = e.0.reactant1 }),
    (
      rw (kind2 species i h) (record { low = omega arith; high = e.0.reactant2 }),
      (
        rw (kind3 species i h) (record { low = omega arith; high = e.0.product1 }),
        (
          rw (kind4 species i h) (record { low = omega arith; high = e.0.product2 }),
          known-fit species (i + 1 + 1 + 1 + 1 + 1) rs (next species i h) e.1,
        ),
      ),
    ),
  ),
)

of-high : {k k' : Kind} {v : ℕ} → k ≡ k' → Of k v → v ≤ k'.high
of-high {k} {k'} {v} e o = rw e at o.high

fit-known : (species i : ℕ) (rs : List Reaction) → i % 5 ≡ 0
    → Fit (kind_of phase.Reactions species) i (listed_of rs) → Every (Known species) rs
unfolding Fit kind_of listed_of
fit-known species i [] h f = tt
fit-known species i (r ∷ rs) h f = (
  record {
    rate = of-high (kind0 species i h) f.0;
    reactant1 = of-high (kind1 species i h) f.1.0;
    reactant2 = of-high (kind2 species i h) f.1.1.0;
    product1 = of-high (kind3 species i h) f.1.1.1.0;
    product2 = of-high (kind4 species i h) f.1.1.1.1.0;
  },
  fit-known species (i + 1 + 1 + 1 + 1 + 1) rs (next species i h) f.1.1.1.1.1,
)

rule-small : (r : Rule) → rule_number r ≤ 1
rule-small rule.Rust = omega arith
rule-small rule.Book = omega arith

pub valid-fits : (m : Model) → Valid m → Fits m
unfolding Fit kind_of setting_of pick
valid-fits m v =
    record {
      settings = (
        record { low = omega arith; high = omega arith },
        (
          record { low = omega arith; high = v.x0 },
          (
            record { low = omega arith; high = v.xend },
            (
              record { low = omega arith; high = v.rtol },
              (
                record { low = omega arith; high = v.atol },
                (
                  record { low = omega arith; high = v.max_steps },
                  (
                    record { low = omega arith; high = rule-small m.rule },
                    (record { low = v.some; high = v.few }, tt),
                  ),
                ),
              ),
            ),
          ),
        ),
      );
      amounts = bits_fit 0 m.amounts v.amounts;
      count = (record { low = omega arith; high = v.reactions }, tt);
      reactions = known-fit (length m.amounts) 0 m.reactions refl v.known;
    }

pub fits-valid : (m : Model) → Fits m → Valid m
unfolding Fit kind_of setting_of pick
fits-valid m f =
    record {
      x0 = f.settings.1.0.high;
      xend = f.settings.1.1.0.high;
      rtol = f.settings.1.1.1.0.high;
      atol = f.settings.1.1.1.1.0.high;
      max_steps = f.settings.1.1.1.1.1.0.high;
      some = f.settings.1.1.1.1.1.1.1.0.low;
      few = f.settings.1.1.1.1.1.1.1.0.high;
      amounts = fit-bits 0 m.amounts f.amounts;
      reactions = f.count.0.high;
      known = fit-known (length m.amounts) 0 m.reactions refl f.reactions;
    }
