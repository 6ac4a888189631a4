-- What each loop of `put_form` keeps.
use Rattle.std.proofs.Common.{◌≡◌, ◌≤◌, length, take}
use Rattle.forecast_text.specs.Put.{put}
use Rattle.night_totals.specs.Form.{spelt}
use Rattle.night_totals.proofs.WrittenLaws.{Passed}
use Rattle.night_totals.proofs.written.put_form.Given as goal

abbrev pub invariant-loop-at : goal.invariant-loop-at
invariant-loop-at l = (l.at ≤ length l.form) × (l.numbers ≤ l.at) × (l.from ≤ l.at)
    × Passed l.form l.values l.at l.from l.numbers
    × (l.text ≡ put 423 l.initial.text (spelt (take l.from l.form) 0 l.values))
