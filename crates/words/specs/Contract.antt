-- A contract settles its call: it asks nothing, and two outcomes that it allows for one input are the same. It is said
-- of `Asked` and `Post`, which the kit reads off a function's `requires` and `ensures` in src/, and of no copy of them.
use Rattle.std.specs.Prelude.{ℕ, ◌≡◌, List}
use contract.Lifetimes.{Lfts}
use denote.Triple.Clauses.{Lasts, AtExit, at_exit}
use borrow.Fn.Kinds.{ParamKind, ResultKind, In, Out, Dens, res_t, ended_of}

-- ps and r are the kinds of the parameters and of the result, κs the lifetimes, a the arguments
module _ {n : ℕ} (ps : List (ParamKind n)) (r : ResultKind n) where
  -- an outcome of a call: its result, and what stands at its end in each part that was lent to be written
  abbrev pub Outcome : (κs : Lfts n) → Dens κs ps → Type 0
  Outcome κs a = (res_t r κs).Denot × Lasts (ended_of n ps r) κs a

  -- the parameters at the end of the call
  abbrev pub ends : (κs : Lfts n) (a : Dens κs ps) → Outcome κs a → AtExit (ended_of n ps r) κs
  ends κs a o = at_exit (ended_of n ps r) κs a o.1

  abbrev pub Allows : Out n ps r → (κs : Lfts n) (a : Dens κs ps) → Outcome κs a → Type 0
  Allows Post κs a o = Post κs a o.0 (ends κs a o)

  abbrev pub Settles : In n ps → Out n ps r → Type 0
  Settles Asked Post =
      (κs : Lfts n) (a : Dens κs ps)
      → Asked κs a × ((o p : Outcome κs a) → Allows Post κs a o → Allows Post κs a p → o ≡ p)

  -- x may come of a call with i: for arguments that are read as i, the contract allows an outcome that is read as x
  pub record Gives (Post : Out n ps r) {I X : Type 0} (asks : (κs : Lfts n) → Dens κs ps → I)
      (tells : (κs : Lfts n) (a : Dens κs ps) → Outcome κs a → X) (i : I) (x : X) : Type 0 where
    pub lifetimes : Lfts n
    pub arguments : Dens lifetimes ps
    pub outcome : Outcome lifetimes arguments
    pub asked : asks lifetimes arguments ≡ i
    pub allowed : Allows Post lifetimes arguments outcome
    pub told : tells lifetimes arguments outcome ≡ x
