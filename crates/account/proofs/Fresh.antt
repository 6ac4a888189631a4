-- Under the book rule every request of a journal finds its Jacobian as `Fresh` (Points.antt) says (02, [1]).
use Prim.Native.Nat.{zero, suc}
use mathlib.Core.Path.{◌≡◌, refl, sym, ap, ap₂, subst, ◌∙◌}
use mathlib.Core.Bool.{Bool, true, false, true≢false}
use mathlib.Core.List.{List, [], ◌∷◌}
use native.Mathlib.Omega.{arith}
use Rattle.words.specs.Loop.{pick}
use Rattle.state.specs.declared.settings.Rule.TheVariants as rule
use Rattle.state.specs.declared.settings.Settings.{Settings}
use Rattle.state.specs.declared.run.Stage.{Stage}
use Rattle.state.specs.declared.run.Stage.TheVariants as stage
use Rattle.state.specs.declared.talk.Place.{Place}
use Rattle.state.specs.declared.talk.Request.{Request}
use Rattle.state.specs.declared.talk.Request.TheVariants as request
use Rattle.opening.specs.Rows.{Opening}
use Rattle.opening.specs.Opening.{open_of}
use Rattle.opening.specs.Admission.{asking_at}
use Rattle.history.specs.Host.{Action}
use Rattle.account.specs.Journal.{Fair, Journal, next, FairFrom, after, Starts, JournalOf}
use Rattle.account.specs.Reading.{one, is_jac, asks_at}
use Rattle.account.specs.Points.{here_reply, here_at, Fresh}
use Rattle.account.proofs.Matches.{Kind, derivative, jacobian, report, ended, Matches, kind_of, kind_at, place_at}
use Rattle.account.proofs.FirstPoint.{opens}
use Rattle.account.proofs.Advance.{advanced, next-is}
use Rattle.account.proofs.Sound.{passes, in-kind, kept, everywhere}
use Rattle.account.proofs.Journals.{Sound, sound-first, sound-next, sound}
use Rattle.account.proofs.FreshKept.{quiet_at, OpenAt, fresh-closed, fresh_start, fresh-end}

-- ---- a stage of an attempt asks for no Jacobian

unfoldable jac_kind : Kind → Place → Bool
jac_kind derivative p = (asks_at p).origin
jac_kind jacobian p = true
jac_kind report p = false
jac_kind (ended s) p = false

jac-kind : (q : Request) (p : Place) → is_jac q p ≡ jac_kind (kind_of q) p
unfolding is_jac jac_kind kind_of
jac-kind (request.Derivative x) p = refl
jac-kind (request.Jacobian x) p = refl
jac-kind (request.Report xold x offered) p = refl
jac-kind (request.Ended s) p = refl

attempt-stage : (s : Stage) → (asks_at (place_at s)).attempt ≡ true
    → (jac_kind (kind_at s) (place_at s) ≡ false) × ((asking_at s).ended ≡ false)
unfolding asks_at place_at kind_at jac_kind asking_at
attempt-stage stage.FirstDerivative e = absurd (true≢false (sym e))
attempt-stage stage.FirstReport e = absurd (true≢false (sym e))
attempt-stage stage.FirstDerivativeAgain e = absurd (true≢false (sym e))
attempt-stage stage.Jacobian e = absurd (true≢false (sym e))
attempt-stage (stage.Column zero) e = absurd (true≢false (sym e))
attempt-stage (stage.Column (suc c)) e = absurd (true≢false (sym e))
attempt-stage stage.Newton1 e = (refl, refl)
attempt-stage stage.Newton2 e = (refl, refl)
attempt-stage stage.Newton3 e = (refl, refl)
attempt-stage stage.Refinement e = (refl, refl)
attempt-stage stage.Accepted e = absurd (true≢false (sym e))
attempt-stage stage.Report e = absurd (true≢false (sym e))
attempt-stage stage.DerivativeAgain e = absurd (true≢false (sym e))
attempt-stage (stage.Ended s) e = absurd (true≢false (sym e))

attempt-asks : {s : Stage} {q : Request} {p : Place} → Matches s q p → (asks_at p).attempt ≡ true
    → (is_jac q p ≡ false) × ((asking_at s).ended ≡ false)
attempt-asks {s} {q} {p} m e =
    let at = attempt-stage s (sym (ap (λ (p : Place). (asks_at p).attempt) m.place) ∙ e) in
    (jac-kind q p ∙ ap₂ jac_kind m.kind m.place ∙ at.0, at.1)

-- ---- along a journal

module _ (o : Opening) (book : o.settings.rule ≡ rule.Book) where
  abbrev Good : Journal → Type 0
  Good j = OpenAt j.point.run j.point.request j.point.place (here_at j.turns)

  under : (j : Journal) → Sound o j → j.point.run.settings.rule ≡ rule.Book
  under j s = ap (λ (x : Settings). x.rule) s.held.settings ∙ book

  good-first : (j : Journal) → Starts (open_of o) j → Good j
  unfolding Starts here_at is_jac asks_at asking_at quiet_at pick
  good-first j s =
      let p = opens o j s in
      rw (p.stage, p.control, p.counts, p.request, p.place, s.2)
      (record {
        most = omega arith;
        once = omega arith;
        going =
            λ _. record {
              flag = refl;
              few = omega arith;
              none = λ _. (refl, refl);
              again = λ e. absurd (true≢false (sym e));
            };
      })

  good-next : (j : Journal) (a : Action) → Sound o j → Fair j.point a → Good j → Good (next j a)
  unfolding here_at
  good-next j a s fair g =
      let here = j.point in
      let of-kind = in-kind o s.none j a s.held fair in
      let k = kept o s.none j a s.held fair in
      let past = here_reply here.request here.place a.reply (here_at j.turns) in
      let there = everywhere o s.none j a s.held fair (fresh-closed a.reply k.mass k.jac past)
      (fresh_start here.run here.request here.place a.reply
      (here_at j.turns) of-kind.0 of-kind.1 g) in
      let same = next-is j a (passes o s.none j a s.held fair) in
      let rules = under (advanced j a) (subst (Sound o) same (sound-next o j a s fair)) in
      subst Good (sym same) (fresh-end a.reply k.mass k.jac past _ _ there rules)

  good-after : (j : Journal) (acts : List Action) → Sound o j → FairFrom j acts → Good j → Good (after j acts)
  unfolding FairFrom after
  good-after j [] s f g = g
  good-after j (a ∷ acts) s f g =
      good-after (next j a) acts (sound-next o j a s f.0) f.1 (good-next j a s f.0 g)

  good : (j : Journal) → JournalOf o j → Good j
  good j w =
      subst Good (sym w.is)
      (good-after w.first w.acts (sound-first o w.first w.starts) w.fair
      (good-first w.first w.starts))

  pub fresh-proof : (j : Journal) → JournalOf o j → Fresh j
  unfolding pick
  fresh-proof j w =
      let s = sound o j w in
      let g = good j w in
      record {
        once = g.once;
        stages = λ e failed.
            let asks = attempt-asks s.held.matches e in
            let going = g.going asks.1 in
            omega (arith, going.flag, ap one (going.again failed), ap one asks.0);
        few = omega (arith, g.most, s.tallied.jac, s.tallied.accepted);
      }
