-- `settings_of` meets its contract.
use Rattle.sheet_write.proofs.listing.settings_of.Goals as goal

pub returns : goal.returns
returns c = rw c.rule_number.ensures
