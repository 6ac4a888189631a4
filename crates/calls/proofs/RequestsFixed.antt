-- Each request is fixed by the opening and the replies before it: two histories of outcomes that the contracts allow,
-- with the same opening, replies and written parts, have the same requests, states and memory at every index.
use mathlib.Core.Path.{◌≡◌, refl, ap, ◌∙◌, subst}
use mathlib.Core.List.{List, [], ◌∷◌}
use Rattle.words.proofs.OneOutcome.{one-outcome}
use Rattle.state.specs.Memory.{Memory}
use Rattle.opening.specs.Rows.{Opening}
use Rattle.opening.specs.Opening as opening
use Rattle.solve_blocks.specs.Advance.{AdvanceOutcome}
use Rattle.history.specs.Host.{Action, wrote}
use Rattle.history.specs.History.{Point, point, next_point}
use Rattle.calls.specs.History.{Allowed, Follows, History}
use Rattle.calls.proofs.Defined.{open-defined, advance-defined}
use Rattle.std.specs.Prelude.{Ok, Err}
use Rattle.state.specs.Talk.{Opened, call}

allowed-fixed : (here : Point) (a : Action) (x y : AdvanceOutcome) → Allowed here a x → Allowed here a y → x ≡ y
unfolding Allowed
allowed-fixed here a x y f g =
    let at = wrote here.request here.place a here.memory in
    one-outcome (advance-defined here.run a.reply at x f) (advance-defined here.run a.reply at y g)

follows-fixed : (here : Point) (acts : List Action) (xs ys : List AdvanceOutcome)
    → Follows here acts xs → Follows here acts ys → xs ≡ ys
unfolding Follows
follows-fixed here [] [] [] f g = refl
follows-fixed here [] [] (y ∷ ys) f g = absurd g
follows-fixed here [] (x ∷ xs) ys f g = absurd f
follows-fixed here (a ∷ acts) [] ys f g = absurd f
follows-fixed here (a ∷ acts) (x ∷ xs) [] f g = absurd g
follows-fixed here (a ∷ acts) (x ∷ xs) (y ∷ ys) f g =
    let e : x ≡ y = allowed-fixed here a x y f.0 g.0 in
    let f' = subst (λ (z : AdvanceOutcome). Follows (next_point here z.answer z.memory) acts xs) e f.1 in
    ap (λ (z : AdvanceOutcome). z ∷ xs) e
    ∙ ap (λ (zs : List AdvanceOutcome). y ∷ zs)
    (follows-fixed (next_point here y.answer y.memory) acts xs ys f' g.1)

-- where an opening leaves the talk, if it was accepted
abbrev start_of : Opened → Memory → Point → Point
start_of (Ok c) m otherwise = point c.run c.request c.place m
start_of (Err x) m otherwise = otherwise

pub history-fixed-proof : (o : Opening) (acts : List Action) (first second : Point) (xs ys : List AdvanceOutcome)
    → History o first acts xs → History o second acts ys → (first ≡ second) × (xs ≡ ys)
history-fixed-proof o acts first second xs ys h g =
    let e = one-outcome (open-defined o _ h.opens) (open-defined o _ g.opens) in
    let same : first ≡ second = ap (λ (x : opening.OpeningOutcome). start_of x.answer x.memory first) e in
    let f = subst (λ (here : Point). Follows here acts xs) same h.follows in
    (same, follows-fixed second acts xs ys f g.follows)
