-- `first_token` meets its contract: where the mark stands is what the library's search gives.
use Rattle.std.proofs.Common.{◌≡◌, ◌∙◌, ap, rules, tests, eqb, length, Some, None, cond, ltb}
use Rattle.std.specs.List.{position_or_len}
use Rattle.std.proofs.lemmas.Iterator.{YieldsList-from_slice}
use Rattle.std.proofs.lemmas.Iterator.Search.{position_from_yields_List}
use Rattle.sheet.specs.Numbers.{piece_at}
use Rattle.sheet.proofs.NumbersLaws.{mark-found, mark-missing, piece-none, piece-wrong, piece-got, rest-is}
use Rattle.sheet.proofs.numbers.first_token.Goals as goal
use Rattle.sheet.proofs.numbers.first_token.Goals.{After-position}

found : (c : After-position) → c.position.result
    ≡ cond (ltb (position_or_len (λ x. eqb x c.args.kind.mark) c.args.bytes.now) (length c.args.bytes.now))
    (Some (position_or_len (λ x. eqb x c.args.kind.mark) c.args.bytes.now)) None
found c = position_from_yields_List (λ x. eqb x c.args.kind.mark) _ _ _ c.position.ensures.ran
    (YieldsList-from_slice c.args.bytes.now cc) (λ x b q k. search (rules, tests))

pub returns-in_err-end : goal.returns-in_err-end
unfolding piece_at
returns-in_err-end c =
    let e = found (goal.at.returns-in_err-end c).After-position in
    ap piece_at c.from_residual.ensures
    ∙ piece-none c.args.kind c.args.bytes.now (mark-missing c.args.kind.mark c.args.bytes.now e c.in_err-end.was)

pub returns-in_err-value : goal.returns-in_err-value
unfolding piece_at
returns-in_err-value c =
    let e = found (goal.at.returns-in_err-value c).After-position in
    ap piece_at c.from_residual-in_err-value.ensures
    ∙ piece-wrong c.args.kind c.args.bytes.now (mark-found c.args.kind.mark c.args.bytes.now e c.in_ok-end.was)
    c.number.ensures c.in_err-value.was

pub returns : goal.returns
unfolding piece_at
returns c =
    let e = found (goal.at.returns c).After-position in
    rw rest-is
    (piece-got c.args.kind c.args.bytes.now (mark-found c.args.kind.mark c.args.bytes.now e c.in_ok-end.was)
    c.number.ensures c.in_ok-value.was)
