-- `decimal_width` meets its contract.
use Rattle.std.proofs.Common.{◌+◌, ap, ◌∙◌, rules, tests, ltb}
use Rattle.std.specs.Option.{unwrap_or}
use Rattle.std.proofs.lemmas.Iterator.{YieldsList-from_slice}
use Rattle.std.proofs.lemmas.Iterator.Search.{position_from_yields_List}
use Rattle.sheet.proofs.DigitsLaws.{longer, width-found}
use Rattle.sheet.proofs.spelling.decimal_width.Goals as goal

pub returns : goal.returns
returns c =
    let e = position_from_yields_List (λ least. ltb c.args.value least) _ _ _ c.position-shorter.ensures.ran
    (YieldsList-from_slice longer cc) (λ x b q k. search (rules, tests)) in
    ap (λ n. n + 1) (c.unwrap_or.ensures ∙ ap (λ r. unwrap_or r 9) e) ∙ width-found c.args.value
