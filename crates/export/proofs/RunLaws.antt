-- What the exported calls answer, from what the calls within them ensure.
use mathlib.Core.Path.{◌≡◌, sym, ap, ◌∙◌}
use mathlib.Core.List.{List}
use Prim.Native.Nat.{ℕ}
use lib.Ieee.{Float}
use Rattle.state.specs.declared.settings.Settings.{Settings}
use Rattle.state.specs.declared.run.Run.{Run}
use Rattle.state.specs.declared.run.Tolerances.{Tolerances}
use Rattle.state.specs.declared.talk.Place.{Place}
use Rattle.state.specs.declared.talk.Refusal.{Refusal}
use Rattle.state.specs.declared.talk.Reply.{Reply}
use Rattle.state.specs.declared.talk.Request.{Request}
use Rattle.state.specs.Memory.{Memory}
use Rattle.state.specs.Numbers.{refusal_number}
use Rattle.state.specs.Result.{result_of}
use Rattle.opening.specs.Rows.{opening, verdict_of}
use Rattle.opening.specs.Admission.{admission_rows}
use Rattle.opening.specs.Opening as opened
use Rattle.solve_blocks.specs.Advance as advanced
use Rattle.solve_blocks.proofs.AdvanceLaws.{advance-refused}
use Rattle.radau_core.specs.Places.{run_at, words_of, doubles_of}
use Rattle.radau_core.proofs.PackLaws.{held_at}
use Rattle.export.specs.Talk.{reply_of, Crossed, crossed, asked_of, of_opened, of_answer, left}
use Rattle.export.specs.Talk.{open_left, advance_left}
use Rattle.export.specs.Talk.{Ended, of_result, result_left}
use Rattle.std.specs.Prelude.{Option, Ok, Err}
use Rattle.state.specs.declared.talk.IntegrationResult.{IntegrationResult}
use Rattle.state.specs.Talk.{Verdict, Opened, Answer, call, refused, passed_all}

module _ (words : List ℕ) (doubles : List Float) (told : List ℕ) (at : List Float) where
  pub open-left :
      {s s' : Settings} {t t' : Tolerances} {a : Opened} {z : Crossed} (n : ℕ) (x0 xend : Float) (m m' : Memory)
      → s ≡ s'
      → t ≡ t'
      → opened.opening_outcome a m' ≡ opened.open_of (opening s n x0 xend t m)
      → z ≡ of_opened a words doubles told at
      → left z m' ≡ open_left (opening s' n x0 xend t' m) words doubles told at
  unfolding open_left
  open-left n x0 xend m m' hs ht h hz =
      let o = h ∙ (λ i. opened.open_of (opening (hs i) n x0 xend (ht i) m)) in
      let q = hz ∙ ap (λ (v : opened.OpeningOutcome). of_opened v.answer words doubles told at) o in
      λ i. left (q i) (o i).memory

  pub advance-left :
      {r : Run} {p : Reply} {a : Answer} {z : Crossed} (k : ℕ) (value : Float) (m m' : Memory)
      → r ≡ run_at words doubles
      → p ≡ reply_of r.stage k value
      → advanced.advance_outcome a m' ≡ (advanced.advance_of r p m).core
      → z ≡ of_answer a words doubles told at
      → left z m' ≡ advance_left k value words doubles told at m
  unfolding advance_left
  advance-left {r} k value m m' hr hp ho hz =
      let o = ho ∙ (λ i. (advanced.advance_of r (hp i) m).core)
      ∙ (λ i. (advanced.advance_of (hr i) (reply_of (hr i).stage k value) m).core) in
      let q = hz ∙ ap (λ (v : advanced.AdvanceOutcome). of_answer v.answer words doubles told at) o in
      λ i. left (q i) (o i).memory

  -- the admission refuses, or the run is advanced where it was put
  module _ (k : ℕ) (value : Float) (m : Memory) (r : Run) (p : Reply) (hr : r ≡ run_at words doubles)
      (hp : p ≡ reply_of r.stage k value) where
    pub refused-left : {n : ℕ} (x : Refusal) → verdict_of (admission_rows r p m) ≡ Err x
        → n ≡ refusal_number x
        → left (crossed n words doubles told at) m ≡ advance_left k value words doubles told at m
    unfolding of_answer
    refused-left x e hn =
        advance-left {a = Err (refused r x)} k value m m hr hp (advance-refused r p m x e)
        (ap (λ (n : ℕ). crossed n words doubles told at) hn)

    pub asked-left :
        (w v : List ℕ) (d e : List Float) (q : Request) (place : Place) (m' : Memory) {z : Crossed}
        → verdict_of (admission_rows r p m) ≡ passed_all
        → w ≡ words_of r
        → d ≡ doubles_of r
        → advanced.advance_outcome (Ok (call (run_at v e) q place)) m'
        ≡ (advanced.advance_by passed_all (run_at w d) p m).core
        → z ≡ asked_of (run_at v e) q place
        → left z m' ≡ advance_left k value words doubles told at m
    unfolding of_answer
    asked-left w v d e q place m' passed hw hd ho hz =
        advance-left {a = Ok (call (run_at v e) q place)} k value m m' hr hp
        (ho ∙ ap (λ (s : Run). (advanced.advance_by passed_all s p m).core) (held_at r hw hd)
        ∙ ap (λ (c : Verdict). (advanced.advance_by c r p m).core) (sym passed))
        hz

pub result-left :
    (words : List ℕ) (doubles : List Float) (numbers : List ℕ) (floats : List Float) {r : Run}
    {q : Option IntegrationResult} {z : Ended}
    → r ≡ run_at words doubles
    → q ≡ result_of r
    → z ≡ of_result q numbers floats
    → z ≡ result_left words doubles numbers floats
result-left words doubles numbers floats hr hq hz =
    hz ∙ ap (λ (v : Option IntegrationResult). of_result v numbers floats) hq
    ∙ ap (λ (v : Run). of_result (result_of v) numbers floats) hr
