-- `stage_at` meets its contract, number by number.
use Prim.Native.Nat.{ℕ}
use mathlib.Core.Path.{sym, ap, ◌∙◌}
use native.Mathlib.Omega.{arith}
use Rattle.state.specs.declared.run.Status.{Status}
use Rattle.state.specs.declared.run.Stage.TheVariants as stage
use Rattle.radau_core.specs.Places.{◌#◌}
use Rattle.radau_core.proofs.PlaceLaws as place
use Rattle.radau_core.proofs.stage.stage_at.Goals as goal

pub returns-in-1 : goal.returns-in-1
returns-in-1 c =
    let part_at : ℕ = c.args.words.now # 1 in
    sym (place.at-first-report part_at c.in-1.is)

pub returns-in-2 : goal.returns-in-2
returns-in-2 c =
    let part_at : ℕ = c.args.words.now # 1 in
    sym (place.at-first-derivative-again part_at c.in-2.is)

pub returns-in-3 : goal.returns-in-3
returns-in-3 c =
    let part_at : ℕ = c.args.words.now # 1 in
    sym (place.at-jacobian part_at c.in-3.is)

pub returns-in-4 : goal.returns-in-4
returns-in-4 c =
    let part_at : ℕ = c.args.words.now # 1 in
    sym (place.at-column part_at c.in-4.is)

pub returns-in-5 : goal.returns-in-5
returns-in-5 c =
    let part_at : ℕ = c.args.words.now # 1 in
    sym (place.at-newton-1 part_at c.in-5.is)

pub returns-in-6 : goal.returns-in-6
returns-in-6 c =
    let part_at : ℕ = c.args.words.now # 1 in
    sym (place.at-newton-2 part_at c.in-6.is)

pub returns-in-7 : goal.returns-in-7
returns-in-7 c =
    let part_at : ℕ = c.args.words.now # 1 in
    sym (place.at-newton-3 part_at c.in-7.is)

pub returns-in-8 : goal.returns-in-8
returns-in-8 c =
    let part_at : ℕ = c.args.words.now # 1 in
    sym (place.at-refinement part_at c.in-8.is)

pub returns-in-9 : goal.returns-in-9
returns-in-9 c =
    let part_at : ℕ = c.args.words.now # 1 in
    sym (place.at-accepted part_at c.in-9.is)

pub returns-in-10 : goal.returns-in-10
returns-in-10 c =
    let part_at : ℕ = c.args.words.now # 1 in
    sym (place.at-report part_at c.in-10.is)

pub returns-in-11 : goal.returns-in-11
returns-in-11 c =
    let part_at : ℕ = c.args.words.now # 1 in
    sym (place.at-derivative-again part_at c.in-11.is)

pub returns-in-12 : goal.returns-in-12
returns-in-12 c =
    let part_at : ℕ = c.args.words.now # 1 in
    ap (λ (s : Status). stage.Ended s) c.status_at.ensures ∙ sym (place.at_ended part_at c.in-12.is)

pub returns-in_default : goal.returns-in_default
returns-in_default c =
    let part_at : ℕ = c.args.words.now # 1 in
    sym (place.at-first-derivative part_at (omega arith)
    (omega arith) (omega arith) (omega arith) (omega arith) (omega arith) (omega arith) (omega arith) (omega arith)
    (omega arith) (omega arith) (omega arith))
