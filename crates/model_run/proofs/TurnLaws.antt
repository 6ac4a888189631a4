-- Turns of a run up to its end.
--     turn-of                              one turn: the host's reply and what it wrote, then an advance
--     Going host b i here₀ here            the invariant of the loop over them: i turns from here₀ led to here, and
--                                          what is left of b turns leads on from it
--     going, turned, stopped, spent        where it begins; after a turn; where the run has ended; where no turn is
--                                          left
--     admits                               where no turn is refused the next one is not
use Prim.Native.Nat.{ℕ, zero, suc, ◌+◌, ◌-◌, ◌≤◌, ◌<◌}
use mathlib.Core.Bool.{true, false}
use mathlib.Core.Path.{◌≡◌, refl, sym, ap, subst, ◌∙◌}
use mathlib.Core.List.{List}
use native.Mathlib.Numerals.{add-one}
use native.Mathlib.Omega.{arith}
use lib.Ieee.{Float}
use Rattle.words.specs.Loop.{pick}
use Rattle.words.proofs.Branch.{pick_yes, pick_no}
use Rattle.state.specs.declared.run.Run.{Run}
use Rattle.state.specs.declared.talk.Place.{Place}
use Rattle.state.specs.declared.talk.Reply.{Reply}
use Rattle.state.specs.declared.talk.Request.{Request}
use Rattle.state.specs.Memory.{Memory}
use Rattle.solve_blocks.specs.Advance.{AdvanceOutcome, advance_outcome, advance_by, advance_of}
use Rattle.history.specs.Host.{is_end, wrote}
use Rattle.history.specs.History.{Point, point, next_point}
use Rattle.model_run.specs.Host.{reply_to, answered_by}
use Rattle.model_run.specs.Budget.{Answering, turn_of, last_of, standing_at, Admits, NoneRefused}
use Rattle.model_run.proofs.HostLaws.{replies}
use Rattle.std.specs.Prelude.{Ok}
use Rattle.state.specs.Talk.{Verdict, Answer, call, passed_all}

-- ---- one turn

pub turn-of : (reactions : ℕ) (rates : List Float) (species : List ℕ) (here : Point)
    {p : Reply} {m w : Memory} {a : Answer}
    → p ≡ reply_to here.request
    → m
    ≡ wrote here.request here.place
    (answered_by reactions rates species here.request here.place here.memory) here.memory
    → advance_outcome a w ≡ (advance_of here.run p m).core
    → next_point here a w ≡ turn_of (answered_by reactions rates species) here
unfolding turn_of
turn-of reactions rates species here {p} {m} said written led =
    ap (λ (o : AdvanceOutcome). next_point here o.answer o.memory)
    (led
    ∙ ap (λ (q : Reply). (advance_of here.run q m).core)
    (said ∙ sym (replies reactions rates species here.request here.place here.memory))
    ∙ ap (λ (x : Memory). (advance_of here.run
    (answered_by reactions rates species here.request here.place here.memory).reply x).core)
    written)

-- the same of an advance that is admitted, by which no refusal has to be told apart
pub turn-admitted : (reactions : ℕ) (rates : List Float) (species : List ℕ) (here : Point)
    {p : Reply} {m w : Memory} {r : Run} {q : Request} {l : Place}
    → p ≡ reply_to here.request
    → m
    ≡ wrote here.request here.place
    (answered_by reactions rates species here.request here.place here.memory) here.memory
    → Admits (answered_by reactions rates species) here
    → advance_outcome (Ok (call r q l)) w ≡ (advance_by passed_all here.run p m).core
    → point r q l w ≡ turn_of (answered_by reactions rates species) here
unfolding turn_of next_point
turn-admitted reactions rates species here {p} {m} said written admits led =
    let a = answered_by reactions rates species here.request here.place here.memory in
    ap (λ (o : AdvanceOutcome). next_point here o.answer o.memory)
    (led
    ∙ ap (λ (x : Reply). (advance_by passed_all here.run x m).core)
    (said ∙ sym (replies reactions rates species here.request here.place here.memory))
    ∙ ap (λ (x : Memory). (advance_by passed_all here.run a.reply x).core) written
    ∙ ap (λ (v : Verdict).
    (advance_by v here.run a.reply (wrote here.request here.place a here.memory)).core) (sym admits))

-- ---- turn after turn

module _ (host : Answering) where
  last_more : (k : ℕ) (here : Point) → is_end here.request ≡ false
      → last_of host (suc k) here ≡ last_of host k (turn_of host here)
  unfolding last_of
  last_more k here e = ap (last_of host k) (pick_no here (turn_of host here) e)

  -- nothing is done after the end
  pub last-ended : (k : ℕ) (here : Point) → is_end here.request ≡ true → last_of host k here ≡ here
  unfolding last_of
  last-ended zero here e = refl
  last-ended (suc k) here e = ap (last_of host k) (pick_yes here (turn_of host here) e) ∙ last-ended k here e

  -- one turn more
  last-next : (k : ℕ) (here : Point) → is_end (last_of host k here).request ≡ false
      → last_of host (suc k) here ≡ turn_of host (last_of host k here)
  unfolding last_of
  last-next zero here e = pick_no here (turn_of host here) e
  last-next (suc k) here e = last-next k (pick (is_end here.request) here (turn_of host here)) e

  last_none : (here : Point) → last_of host zero here ≡ here
  unfolding last_of
  last_none here = refl

pub record Going (host : Answering) (b i : ℕ) (here₀ here : Point) : Type 0 where
  pub within : i ≤ b
  pub leads : last_of host (b - i) here ≡ last_of host b here₀
  pub comes : here ≡ last_of host i here₀

module _ {host : Answering} {b : ℕ} where
  pub going : (here : Point) → Going host b 0 here here
  going here =
      let e : b - 0 ≡ b = omega arith in
      record {
        within = omega arith;
        leads = ap (λ (k : ℕ). last_of host k here) e;
        comes = sym (last_none host here);
      }

  module _ {i : ℕ} {here₀ here : Point} (g : Going host b i here₀ here) where
    ends : is_end here.request ≡ false → is_end (last_of host i here₀).request ≡ false
    ends e = ap (λ (p : Point). is_end p.request) (sym g.comes) ∙ e

    pub admits : NoneRefused host here₀ → is_end here.request ≡ false → Admits host here
    admits none e = subst (Admits host) (sym g.comes) (none i (ends e))

    pub turned : {there : Point} → i < b → is_end here.request ≡ false → there ≡ turn_of host here
        → Going host b (i + 1) here₀ there
    turned h e t =
        let s : b - i ≡ suc (b - (i + 1)) = omega arith in
        record {
          within = omega arith;
          leads =
              ap (last_of host (b - (i + 1))) t
              ∙ sym (last_more host (b - (i + 1)) here e)
              ∙ ap (λ (k : ℕ). last_of host k here) (sym s)
              ∙ g.leads;
          comes =
              t
              ∙ ap (turn_of host) g.comes
              ∙ sym (last-next host i here₀ (ends e))
              ∙ ap (λ (k : ℕ). last_of host k here₀) (sym (add-one i));
        }

    pub stopped : is_end here.request ≡ true → standing_at here ≡ standing_at (last_of host b here₀)
    stopped e = ap standing_at (sym (last-ended host (b - i) here e) ∙ g.leads)

    pub spent : b ≤ i → standing_at here ≡ standing_at (last_of host b here₀)
    spent h =
        let z : b - i ≡ 0 = omega arith in
        ap standing_at (sym (last_none host here) ∙ ap (λ (k : ℕ). last_of host k here) (sym z) ∙ g.leads)
