-- `words_of` meets its contract: each choice by its word.
use mathlib.Core.List.{[], ◌∷◌}
use Rattle.radau_core.proofs.pack.words_of.Goals as goal

pub returns : goal.returns
returns c = λ i. c.stage_tag.ensures i
    ∷ c.stage_part.ensures i
    ∷ c.args.run.counts.ode
    ∷ c.args.run.counts.jac
    ∷ c.args.run.counts.lu
    ∷ c.args.run.counts.total
    ∷ c.args.run.counts.accepted
    ∷ c.args.run.counts.rejected
    ∷ c.flag_word.ensures i
    ∷ c.flag_word-2.ensures i
    ∷ c.flag_word-3.ensures i
    ∷ c.flag_word-4.ensures i
    ∷ c.flag_word-5.ensures i
    ∷ c.args.run.control.singular_count
    ∷ c.args.run.control.newt_iter
    ∷ c.option_tag.ensures i
    ∷ c.args.run.shape.n
    ∷ c.args.run.shape.nind1
    ∷ c.args.run.shape.nind2
    ∷ c.args.run.shape.nind3
    ∷ c.tolerances_tag.ensures i
    ∷ c.args.run.settings.max_steps
    ∷ c.args.run.settings.newton_maxiter
    ∷ c.flag_word-6.ensures i
    ∷ c.mass_word.ensures i
    ∷ c.source_word.ensures i
    ∷ c.flag_word-7.ensures i
    ∷ c.rule_word.ensures i
    ∷ c.option_tag-2.ensures i
    ∷ c.option_tag-3.ensures i
    ∷ c.option_tag-4.ensures i
    ∷ c.option_tag-5.ensures i
    ∷ c.option_tag-6.ensures i
    ∷ c.unwrap_or.ensures i
    ∷ c.option_tag-7.ensures i
    ∷ c.unwrap_or-2.ensures i
    ∷ c.option_tag-8.ensures i
    ∷ c.unwrap_or-3.ensures i
    ∷ c.flag_word-8.ensures i
    ∷ c.singular_kind.ensures i
    ∷ c.singular_column.ensures i
    ∷ c.option_tag-9.ensures i
    ∷ []
