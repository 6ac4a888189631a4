-- `strode` meets its contract: the strides that are written are read back as they were made.
use Prim.Native.Nat.{ℕ}
use mathlib.Core.Path.{◌≡◌, ap, ◌∙◌}
use mathlib.Core.List.{List}
use lib.ListN.{set, length-set}
use lib.Ieee.{Float}
use Rattle.words.specs.Words.{◌!◌}
use Rattle.scalar.specs.Order.{abs_of}
use Rattle.state.specs.Numbers.{smallest_stride, largest_stride}
use Rattle.solve_blocks.specs.Setters.{in_notes, set_strides}
use Rattle.solve_blocks.specs.Judge.{with_stride, strode}
use Rattle.radau_core.specs.Choices.{option_tag}
use Rattle.radau_core.specs.Places.{notes_at, run_at, Sized}
use Rattle.radau_core.proofs.PlaceLaws.{words-at, doubles-at, resized, strides-back}
use Rattle.radau_core.proofs.notes.strode.Goals as goal
use Rattle.std.specs.Prelude.{Option}
use Rattle.state.specs.declared.run.Strides.{Strides}

written : {w : List ℕ} {d : List Float} → Sized w d → (s : Option Strides)
    → s ≡ with_stride (abs_of (d ! 3)) (notes_at w d).strides
    → run_at (set w 41 (option_tag s)) (set (set d 29 (smallest_stride s)) 30 (largest_stride s)) ≡ strode (run_at w d)
written {w} {d} sized s e =
    rw (words-at sized, doubles-at sized)
    (ap (λ (x : Option Strides). in_notes (set_strides x) (run_at w d)) (strides-back s ∙ e))

pub returns : goal.returns
returns c = let a = c.args in record {
  sized = resized c.requires (simp length-set) (simp length-set);
  doubles_after = (λ i. run_at (set a.words.now 41 (c.option_tag.ensures i))
      (set (set a.doubles.now 29 (c.smallest_stride.ensures i)) 30 (c.largest_stride.ensures i)))
      ∙ written c.requires c.with_stride-strides.result
      (c.with_stride-strides.ensures
      ∙ (λ i. with_stride (c.abs.ensures i) (c.strides_at.ensures i)));
}
