-- Turns of a run up to its next report.
--     Seeking host b i here₀ here    the invariant of the loop over them: i turns from here₀ led to here, none of which
--                                    was told, and what is left of b turns leads on from it
--     seeking, passed, told, spent   where it begins; after a turn that isn't told; where one is; where no turn is left
use Prim.Native.Nat.{ℕ, zero, suc, ◌+◌, ◌-◌, ◌≤◌, ◌<◌}
use mathlib.Core.Bool.{true, false}
use mathlib.Core.Path.{◌≡◌, refl, sym, ap, ◌∙◌}
use native.Mathlib.Omega.{arith}
use Rattle.words.proofs.Branch.{pick_yes, pick_no}
use Rattle.history.specs.History.{Point}
use Rattle.model_run.specs.Budget.{Answering, turn_of}
use Rattle.reports.specs.Step.{is_told, told_of}

module _ (host : Answering) where
  pub told-next : (k : ℕ) (here : Point) → is_told (turn_of host here).request ≡ true
      → told_of host (suc k) here ≡ turn_of host here
  unfolding told_of
  told-next k here e = pick_yes (turn_of host here) (told_of host k (turn_of host here)) e

  pub told-later : (k : ℕ) (here : Point) → is_told (turn_of host here).request ≡ false
      → told_of host (suc k) here ≡ told_of host k (turn_of host here)
  unfolding told_of
  told-later k here e = pick_no (turn_of host here) (told_of host k (turn_of host here)) e

  told_none : (here : Point) → told_of host zero here ≡ here
  unfolding told_of
  told_none here = refl

pub record Seeking (host : Answering) (b i : ℕ) (here₀ here : Point) : Type 0 where
  pub within : i ≤ b
  pub leads : told_of host (b - i) here ≡ told_of host b here₀

module _ {host : Answering} {b : ℕ} where
  pub seeking : (here : Point) → Seeking host b 0 here here
  seeking here =
      let e : b - 0 ≡ b = omega arith in record { within = omega arith; leads = ap (λ (k : ℕ). told_of host k here) e }

  module _ {i : ℕ} {here₀ here : Point} (g : Seeking host b i here₀ here) where
    -- one turn is taken from what is left
    left : i < b → told_of host (suc (b - (i + 1))) here ≡ told_of host b here₀
    left h =
        let s : suc (b - (i + 1)) ≡ b - i = omega arith in ap (λ (k : ℕ). told_of host k here) s ∙ g.leads

    pub passed : {there : Point} → i < b → there ≡ turn_of host here → is_told there.request ≡ false
        → Seeking host b (i + 1) here₀ there
    passed h t e =
        let at : is_told (turn_of host here).request ≡ false = ap (λ (p : Point). is_told p.request) (sym t) ∙ e in
        record {
          within = omega arith;
          leads = ap (told_of host (b - (i + 1))) t ∙ sym (told-later host (b - (i + 1)) here at) ∙ left h;
        }

    pub told : {there : Point} → i < b → there ≡ turn_of host here → is_told there.request ≡ true
        → there ≡ told_of host b here₀
    told h t e =
        let at : is_told (turn_of host here).request ≡ true = ap (λ (p : Point). is_told p.request) (sym t) ∙ e in
        t ∙ sym (told-next host (b - (i + 1)) here at) ∙ left h

    pub spent : b ≤ i → here ≡ told_of host b here₀
    spent h =
        let z : b - i ≡ 0 = omega arith in
        sym (told_none host here) ∙ ap (λ (k : ℕ). told_of host k here) (sym z) ∙ g.leads
