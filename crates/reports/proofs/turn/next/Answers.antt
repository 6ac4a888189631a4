-- `next` meets its contract.
use mathlib.Core.Path.{sym, ap}
use Rattle.history.specs.History.{point, next_point}
use Rattle.reports.proofs.turn.next.Goals as goal
use Rattle.state.specs.Talk.{Answer}

pub returns-in-Ok : goal.returns-in-Ok
unfolding next_point
returns-in-Ok c =
    λ m w.
    let p = c.args.pending in
    ap (λ (a : Answer). next_point (point p.run p.request p.place m) a w) (sym c.in-Ok.is)

pub returns-in-Err : goal.returns-in-Err
unfolding next_point
returns-in-Err c =
    λ m w.
    let p = c.args.pending in
    ap (λ (a : Answer). next_point (point p.run p.request p.place m) a w) (sym c.in-Err.is)
