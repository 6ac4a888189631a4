-- What a call of `open` or of `advance` may give: any outcome that the function's own contract allows, wherever the
-- parts of the memory are lent from.
use Rattle.std.specs.Prelude.{ℕ, zero, suc, Bool, true, false, List, Float}
use Rattle.std.specs.Borrow.{Bor, MutBor}
use Rattle.words.specs.Contract.{ends, Gives}
use Rattle.state.specs.declared.run.Run.{Run}
use Rattle.state.specs.declared.talk.Reply.{Reply}
use Rattle.state.specs.Memory.{Memory, memory, Amounts, amounts, Newton, newton, Given, given, Factors, factors}
use Rattle.state.specs.Memory.{Differences, differences}
use Rattle.opening.specs.Rows.{Opening, opening}
use Rattle.opening.specs.Opening as opened
use Rattle.opening.proofs.opening.open as opens
use Rattle.solve_blocks.specs.Advance as advanced
use Rattle.radau.proofs.advance.Resumed.advance as advance

-- ---- the memory that is lent, in the order of the parameters: 17 parts of floats, 2 of pivots, 3 of floats

-- a part is lent to be written too (true), or to be read alone (false)
abbrev Part : Bool → Type 0
Part true = MutBor (List Float)
Part false = Bor (List Float)

abbrev part : (w : Bool) → Part w → List Float
part true p = p.now
part false p = p.now

abbrev Floats : Bool → ℕ → Type 0 → Type 0
Floats w zero Z = Z
Floats w (suc k) Z = Part w × Floats w k Z

abbrev Pivots : Type 0 → Type 0
Pivots Z = MutBor (List ℕ) × (MutBor (List ℕ) × Z)

module _ {Z : Type 0} where
  abbrev amounts_in : (wy wf : Bool) → Floats wy 1 (Floats wf 1 (Floats true 2 Z)) → Amounts
  amounts_in wy wf (y, (f0, (scal, (cont, rest)))) = amounts (part wy y) (part wf f0) scal.now cont.now

  abbrev newton_in : Floats true 6 Z → Newton
  newton_in (z1, (z2, (z3, (f1, (f2, (f3, rest)))))) = newton z1.now z2.now z3.now f1.now f2.now f3.now

  abbrev given_in : (w : Bool) → Floats w 3 (Floats true 1 Z) → Given
  given_in w (rtol, (atol, (mass, (jac, rest)))) = given (part w rtol) (part w atol) (part w mass) jac.now

  abbrev factors_in : Floats true 3 (Pivots Z) → Factors
  factors_in (e1, (e2r, (e2i, (ip1, (ip2, rest))))) = factors e1.now e2r.now e2i.now ip1.now ip2.now

  abbrev differences_in : Floats true 3 Z → Differences
  differences_in (yp, (fp, (fo, rest))) = differences yp.now fp.now fo.now

-- wy, wf and wg are of y, of f0, and of rtol, atol and mass; every other part is lent to be written
abbrev Lent : (wy wf wg : Bool) → Type 0
Lent wy wf wg =
    Floats wy 1 (Floats wf 1 (Floats true 8 (Floats wg 3 (Floats true 4 (Pivots (Floats true 3 (Unit {0})))))))

abbrev pub lent : (wy wf wg : Bool) → Lent wy wf wg → Memory
lent wy wf wg l =
    let z = l.1.1.1.1 in
    let g = z.1.1.1.1.1.1 in
    let f = g.1.1.1.1 in
    memory (amounts_in wy wf l) (newton_in z) (given_in wg g) (factors_in f) (differences_in f.1.1.1.1.1)

-- ---- the two calls

abbrev pub Opens : Opening → opened.OpeningOutcome → Type 0
Opens =
    Gives opens.Kinds.ps opens.Kinds.r opens.Reads.Post
    (λ κs a. opening a.0 a.1.0 a.1.1.0 a.1.1.1.0 a.1.1.1.1.0 (lent false true true a.1.1.1.1.1))
    (λ κs a o. opened.opening_outcome o.0 (lent false true true (ends opens.Kinds.ps opens.Kinds.r κs a o).1.1.1.1.1))

abbrev pub Advances : Run × Reply × Memory → advanced.AdvanceOutcome → Type 0
Advances =
    Gives advance.Kinds.ps advance.Kinds.r advance.Reads.Post
    (λ κs a. (a.0.run, a.0.reply, lent true false false a.1))
    (λ κs a o. advanced.advance_outcome o.0 (lent true false false (ends advance.Kinds.ps advance.Kinds.r κs a o).1))
