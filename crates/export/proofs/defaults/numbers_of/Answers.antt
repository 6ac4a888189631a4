-- `numbers_of` meets its contract: each entry by what its call says.
use mathlib.Core.List.{[], ◌∷◌}
use Rattle.export.proofs.defaults.numbers_of.Goals as goal

pub returns : goal.returns
returns c = λ i.
    c.args.s.max_steps
    ∷ c.args.s.newton_maxiter
    ∷ c.flag_word.ensures i
    ∷ c.flag_word-2.ensures i
    ∷ c.mass_word.ensures i
    ∷ c.source_word.ensures i
    ∷ c.rule_word.ensures i
    ∷ c.option_tag.ensures i
    ∷ c.option_tag-2.ensures i
    ∷ c.option_tag-3.ensures i
    ∷ c.option_tag-4.ensures i
    ∷ c.option_tag-5.ensures i
    ∷ c.unwrap_or.ensures i
    ∷ c.option_tag-6.ensures i
    ∷ c.unwrap_or-2.ensures i
    ∷ c.option_tag-7.ensures i
    ∷ c.unwrap_or-3.ensures i
    ∷ []
