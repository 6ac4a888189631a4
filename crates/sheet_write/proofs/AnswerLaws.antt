-- What the writer answers, and what it leaves in lent memory, is what the definition says: one law for each of its ways
-- out.
use Prim.Native.Nat.{ℕ, ◌*◌, ◌≤◌, ◌<◌}
use mathlib.Core.Path.{◌≡◌, refl, sym, ap, ◌∙◌}
use mathlib.Core.Bool.{Bool, true, false}
use mathlib.Core.List.{List, [], ◌∷◌}
use native.Mathlib.Omega.{arith}
use lib.ListN.{length, get_or, take}
use Rattle.words.specs.Loop.{pick}
use Rattle.words.proofs.Branch.{pick_yes, pick_no}
use Rattle.sheet.specs.declared.kind.Phase.TheVariants as phase
use Rattle.sheet.specs.declared.sheet.Heading.{Heading}
use Rattle.sheet.specs.Sheet.{written}
use Rattle.sheet.specs.Kinds.{setting_of, kind_of}
use Rattle.sheet.specs.Reader.{model_from}
use Rattle.sheet.specs.Writes.{writes, Fit}
use Rattle.sheet.proofs.Accepted.{Fitting, fitting-valid, text-written, rule-back}
use Rattle.sheet.proofs.Theorems.{written-short}
use Rattle.forecast_text.specs.Put.{put}
use Rattle.forecast_text.proofs.PutLaws.{put-then, put-whole}
use Rattle.sheet_write.specs.Memory.{settings_in, listed_in, model_in}
use Rattle.sheet_write.specs.Writer.{fit_of, Fits, answer_for, left_for, held_in, sheet_in}
use Rattle.sheet_write.specs.Writer.{answer_of, bytes_left}
use Rattle.sheet_write.specs.Writer.{Writing}
use Rattle.std.proofs.Common.{Err}
use Rattle.sheet_write.specs.declared.writing.WritingError.TheVariants.{NoModel}
use Rattle.sheet_write.proofs.KindLaws.{true-fit, fit_at}

-- ---- four parts whose numbers are of their kinds

pub settings-few : (h : List ℕ) → length h ≡ 8 → Fit (kind_of phase.Settings 0) 0 h
    → (1 ≤ get_or h 7 0) × (get_or h 7 0 ≤ 32)
unfolding kind_of setting_of pick
settings-few h l f =
    let o = fit_at (kind_of phase.Settings 0) h 7 f (let z : 7 < length h = omega arith in z) in
    (o.low, o.high)

pub count-few : (n : List ℕ) → length n ≡ 1 → Fit (kind_of phase.Count 0) 0 n → get_or n 0 0 ≤ 64
unfolding kind_of
count-few n l f = (fit_at (kind_of phase.Count 0) n 0 f (let z : 0 < length n = omega arith in z)).high

module _ (h a n r : List ℕ) (f : Fits h a n r) (lh : length h ≡ 8) (la : length a ≡ get_or h 7 0)
    (ln : length n ≡ 1) (lr : length r ≡ get_or n 0 0 * 5) where
  pub fitting : Fitting h a n r
  fitting =
      record {
        lengths = record {
          settings = lh;
          amounts = la;
          few = (settings-few h lh f.settings).1;
          count = ln;
          reactions = lr;
          most = count-few n ln f.count;
        };
        settings = f.settings;
        amounts = f.amounts;
        count = f.count;
        reactions = f.reactions;
      }

  -- put one behind the other, they are the sheet, which finds room
  pub sheet-whole : {t₁ t₂ t₃ t₄ : List ℕ} → t₁ ≡ put 4096 [] (writes (kind_of phase.Settings 0) 0 h)
      → t₂ ≡ put 4096 t₁ (writes (kind_of phase.Amounts 0) 0 a)
      → t₃ ≡ put 4096 t₂ (writes (kind_of phase.Count 0) 0 n)
      → t₄ ≡ put 4096 t₃ (writes (kind_of phase.Reactions (get_or h 7 0)) 0 r)
      → t₄ ≡ written (model_from h a n r)
  sheet-whole {t₁} {t₂} {t₃} w x y z =
      let short = written-short (model_from h a n r) (fitting-valid h a n r fitting) in
      put-then 4096 [] _ _ w (put-then 4096 t₁ _ _ x (put-then 4096 t₂ _ _ y z))
      ∙ ap (put 4096 []) (sym (text-written h a n r fitting)) ∙ put-whole 4096 (written (model_from h a n r)) short

-- ---- the model in memory

module _ (h : Heading) (a r s : List ℕ) where
  pub model-same : model_from (settings_in h) (take h.species a) (h.reactions ∷ []) (listed_in h.reactions r s)
      ≡ model_in h a r s
  unfolding model_from model_in
  model-same = rw (rule-back h.rule)

  abbrev pub SettingsFit : Bool
  SettingsFit = fit_of (kind_of phase.Settings 0) 0 (settings_in h)

  abbrev pub CountFit : Bool
  CountFit = fit_of (kind_of phase.Count 0) 0 (h.reactions ∷ [])

  abbrev pub AmountsFit : Bool
  AmountsFit = fit_of (kind_of phase.Amounts 0) 0 (take h.species a)

  abbrev pub ReactionsFit : Bool
  ReactionsFit = fit_of (kind_of phase.Reactions h.species) 0 (listed_in h.reactions r s)

  pub few-species : SettingsFit ≡ true → h.species ≤ 32
  few-species e = (settings-few (settings_in h) refl (true-fit _ 0 (settings_in h) e)).1

  pub few-reactions : CountFit ≡ true → h.reactions ≤ 64
  few-reactions e = count-few (h.reactions ∷ []) refl (true-fit _ 0 (h.reactions ∷ []) e)

  -- all four came out
  pub record Right : Type 0 where
    pub settings : SettingsFit ≡ true
    pub count : CountFit ≡ true
    pub amounts : AmountsFit ≡ true
    pub reactions : ReactionsFit ≡ true

  pub right-held : Right → held_in h a r s ≡ true
  unfolding held_in
  right-held t =
      pick_yes _ _ t.settings ∙ pick_yes _ _ t.count ∙ pick_yes _ _ t.amounts ∙ t.reactions

  pub right-fits : Right
      → Fits (settings_in h) (take h.species a) (h.reactions ∷ []) (listed_in h.reactions r s)
  right-fits t =
      record {
        settings = true-fit _ 0 (settings_in h) t.settings;
        amounts = true-fit _ 0 (take h.species a) t.amounts;
        count = true-fit _ 0 (h.reactions ∷ []) t.count;
        reactions = true-fit _ 0 (listed_in h.reactions r s) t.reactions;
      }

  -- the four parts as the code has them
  pub parts-model : (settings listed : List ℕ) → settings ≡ settings_in h
      → take (h.reactions * 5) listed ≡ listed_in h.reactions r s
      → written (model_from settings (take (get_or settings 7 0) a) (h.reactions ∷ []) (take (h.reactions * 5) listed))
      ≡ sheet_in h a r s
  parts-model settings listed e l = rw (e, l, model-same)

  -- ---- the ways out

  module _ (out : List ℕ) where
    abbrev pub WriteOutcome : Writing → List ℕ → Type 0
    WriteOutcome x out' = (x ≡ answer_of h a r s out) × (out' ≡ bytes_left h a r s out)

    pub outcome-none : held_in h a r s ≡ false → WriteOutcome (Err NoModel) out
    unfolding answer_of bytes_left
    outcome-none e = (sym (pick_no _ _ e), sym (pick_no _ _ e))

    pub no-settings : SettingsFit ≡ false → WriteOutcome (Err NoModel) out
    unfolding held_in
    no-settings e = outcome-none (pick_no _ _ e)

    pub no-count : SettingsFit ≡ true → CountFit ≡ false → WriteOutcome (Err NoModel) out
    unfolding held_in
    no-count e f = outcome-none (pick_yes _ _ e ∙ pick_no _ _ f)

    pub no-amounts : SettingsFit ≡ true → CountFit ≡ true → AmountsFit ≡ false → WriteOutcome (Err NoModel) out
    unfolding held_in
    no-amounts e f g = outcome-none (pick_yes _ _ e ∙ pick_yes _ _ f ∙ pick_no _ _ g)

    pub no-reactions : SettingsFit ≡ true → CountFit ≡ true → AmountsFit ≡ true → ReactionsFit ≡ false
        → WriteOutcome (Err NoModel) out
    unfolding held_in
    no-reactions e f g i = outcome-none (pick_yes _ _ e ∙ pick_yes _ _ f ∙ pick_yes _ _ g ∙ i)

    -- the sheet of the four parts is that of the model
    pub outcome-held : held_in h a r s ≡ true → (sheet : List ℕ) {x : Writing} {left : List ℕ}
        → sheet ≡ sheet_in h a r s
        → x ≡ answer_for sheet out → left ≡ left_for sheet out → WriteOutcome x left
    unfolding answer_of bytes_left
    outcome-held e sheet is p q = (
      p ∙ ap (λ b. answer_for b out) is ∙ sym (pick_yes _ _ e),
      q ∙ ap (λ b. left_for b out) is ∙ sym (pick_yes _ _ e),
    )
