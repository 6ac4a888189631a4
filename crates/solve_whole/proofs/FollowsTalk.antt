-- The relation that every piece of `solve` keeps: from where the talk stands its advances go as the result says.
--     Arrives host t e w    so many advances as w has exchanges more than t end the run at e, with w's exchanges and
--                           memory, and none before
--     Goes host d t R       where R is finished, the talk arrives at it; where it isn't, the next d points are none of
--                           the end
--     From, Sim             so it goes from a label or call, with its memory and the exchanges so far, or with the
--                           world
use Prim.Native.Nat.{ℕ, zero, suc, ◌+◌, ◌≤◌, ◌<◌}
use mathlib.Core.Bool.{false}
use mathlib.Core.Path.{◌≡◌, sym, ap, subst}
use mathlib.Core.List.{List}
use native.Mathlib.Omega.{arith}
use lib.ListN.{length}
use Rattle.words.specs.Loop.{loop, pick}
use Rattle.state.specs.declared.run.Run.{Run}
use Rattle.state.specs.declared.run.Stage.TheVariants as stage
use Rattle.state.specs.declared.run.Status.{Status}
use Rattle.state.specs.declared.talk.Place.TheVariants.{Nowhere}
use Rattle.state.specs.declared.talk.Request.TheVariants as request
use Rattle.state.specs.declared.talk.Call.{Call}
use Rattle.solve_blocks.specs.declared.step.Step.{Step}
use Rattle.solve_blocks.specs.declared.step.Step.TheVariants as step
use Rattle.solve_blocks.specs.Matrices.{passes_of, pass_at}
use Rattle.solve_blocks.specs.Advance.{Stepped, stepped, Called, called, received_of, passed_of, called_of, advance_by}
use Rattle.history.specs.Host.{is_end}
use Rattle.history.specs.History.{point, next_point}
use Rattle.solve_whole.specs.Talk.{Exchange, Host, World, ask, reply_of, Talk}
use Rattle.solve_whole.specs.Talk.{talk, admitted, advanced_by, talk_by, talk_of}
use Rattle.solve_whole.specs.Solve.{Result, finished, unfinished}
use Rattle.solve_whole.proofs.RunSound.{Ends}

-- from a label to the next call, without its events
abbrev pub finish : Stepped → Called
finish t = let p = (passed_of t).core in (called_of p.step p.memory).core

-- the talk where a call is made
abbrev pub standing : Called → List Exchange → Talk
standing d es = talk (point d.call.run d.call.request d.call.place d.memory) es

module _ (host : Host) where
  -- after j advances the run has not ended
  abbrev pub GoesOn : Talk → ℕ → Type 0
  GoesOn t j = is_end (talk_of host j t).point.request ≡ false

  pub record Arrives (t : Talk) (e : Run) (w : World) : Type 0 where
    pub advances : ℕ
    pub count : advances + length t.exchanges ≡ length w.exchanges
    pub before : (j : ℕ) → j < advances → GoesOn t j
    pub status : Status
    pub stage : e.stage ≡ stage.Ended status
    pub is : talk_of host advances t ≡ talk (point e (request.Ended status) Nowhere w.memory) w.exchanges

  unfoldable pub Goes : ℕ → Talk → Result → Type 0
  Goes d t (finished e w) = Arrives t e w
  Goes d t unfinished = (j : ℕ) → j < d → GoesOn t j

  abbrev pub From : ℕ → Stepped → List Exchange → Result → Type 0
  From d t es R = Goes d (standing (finish t) es) R

  abbrev pub Sim : ℕ → Step → World → Result → Type 0
  Sim d s w R = From d (stepped s w.memory) w.exchanges R

  -- two labels with one next call
  pub alike : (d : ℕ) (t u : Stepped) (es : List Exchange) (R : Result)
      → finish t ≡ finish u → From d u es R → From d t es R
  alike d t u es R e g = subst (λ (a : Called). Goes d (standing a es) R) (sym e) g

  -- fewer points
  pub fewer : (d d' : ℕ) (t : Talk) (R : Result) → d' ≤ d → Goes d t R → Goes d' t R
  unfolding Goes
  fewer d d' t (finished e w) h g = g
  fewer d d' t unfinished h g = λ j l. g j (omega arith)

  -- ---- one advance

  module _ (t : Talk) (still : is_end t.point.request ≡ false) where
    before_more : (d : ℕ) → ((j : ℕ) → j < d → GoesOn (advanced_by admitted host t) j) → (j : ℕ) → j < suc d → GoesOn t
        j
    unfolding talk_by
    before_more d g zero l = still
    before_more d g (suc j) l = g j (omega arith)

    pub one-more : (d : ℕ) (R : Result) → Goes d (advanced_by admitted host t) R → Goes (suc d) t R
    unfolding Goes talk_by
    one-more d (finished e w) g =
        record {
          advances = suc g.advances;
          count = omega (arith, g.count);
          before = before_more g.advances g.before;
          status = g.status;
          stage = g.stage;
          is = g.is;
        }
    one-more d unfinished g = before_more d g

  -- ---- at a call

  module _ (d : ℕ) (c : Call) (w : World) (R : Result) where
    -- the host is asked
    pub asked-on :
        is_end c.request ≡ false →
        From d (received_of c.run (reply_of host c w) (ask host c w).memory).core (ask host c w).exchanges R
        →
        Sim (suc d) (step.Asked c) w R
    unfolding passes_of pass_at loop pick called_of advance_by next_point
    asked-on still g = one-more (standing (called c w.memory) w.exchanges) still d R g

    pub ask-on :
        is_end c.request ≡ false →
        From d (received_of c.run (reply_of host c w) (ask host c w).memory).core (ask host c w).exchanges R
        →
        Sim d (step.Asked c) w R
    ask-on still g = fewer (suc d) d _ R (omega arith) (asked-on still g)

  none : {A : Type 0} (j : ℕ) → j < 0 → A
  none j l = let no : ⊥ = omega arith in absurd no

  -- or the run has ended
  pub ended-on : (d : ℕ) (c : Call) (w : World) → Ends c → Sim d (step.Asked c) w (finished c.run w)
  unfolding passes_of pass_at loop pick called_of Goes talk_by
  ended-on d c w e =
      record {
        advances = 0;
        count = omega arith;
        before = λ j l. none j l;
        status = e.status;
        stage = e.stage;
        is = ap (λ (b : Call). standing (called b w.memory) w.exchanges) e.is;
      }
