-- Each contract of a run put into its places settles its call. That of `advanced` is none of these: it asks that the
-- run is fit, and says which run its arrays hold at the end, and not by which words.
use contract.BorrowLft.{◌⊑◌}
use denote.RattleType.{RattleType}
use denote.Param.Laws.{Laws, IsCopy}
use mir.Syntax.{Dict}
use Rattle.std.specs.declared.clone.Clone.{Ghosts}
use Rattle.words.specs.Contract.{Settles}
use Rattle.words.proofs.OneOutcome.{one-result}
use Rattle.radau_core.proofs.pack.words_of as words_of
use Rattle.radau_core.proofs.pack.doubles_of as doubles-of
use Rattle.radau_core.proofs.pack.run_at as run_at
use Rattle.radau_core.proofs.optional.option_tag as option_tag
use Rattle.radau_core.proofs.optional.option_at as option_at

pub words-of-once : Settles words_of.Kinds.ps words_of.Kinds.r words_of.Reads.Asked words_of.Reads.Post
words-of-once κs a = (tt, λ o p. one-result o.1)

pub doubles-of-once : Settles doubles-of.Kinds.ps doubles-of.Kinds.r doubles-of.Reads.Asked doubles-of.Reads.Post
doubles-of-once κs a = (tt, λ o p. one-result o.1)

pub run-at-once : Settles run_at.Kinds.ps run_at.Kinds.r run_at.Reads.Asked run_at.Reads.Post
run-at-once κs a = (tt, λ o p. one-result o.1)

-- What may be absent, at every type that is Copy: nothing is asked but that its values live as long as the call.
module _ (T : RattleType) (laws : Laws T) (copy : IsCopy T) (clone : Ghosts T.Denot) (dict : Dict) where
  pub option-tag-once :
      Settles (option_tag.Kinds.ps T laws copy) (option_tag.Kinds.r T laws copy)
      (λ κs a. κs.0 ⊑ T.lives → option_tag.Reads.Asked T laws copy clone dict κs a)
      (option_tag.Reads.Post T laws copy clone dict)
  option-tag-once κs a = ((λ lives. lives), λ o p. one-result o.1)

  pub option-at-once :
      Settles (option_at.Kinds.ps T laws copy) (option_at.Kinds.r T laws copy)
      (λ κs a. κs.0 ⊑ T.lives → option_at.Reads.Asked T laws copy clone dict κs a)
      (option_at.Reads.Post T laws copy clone dict)
  option-at-once κs a = ((λ lives. lives), λ o p. one-result o.1)
