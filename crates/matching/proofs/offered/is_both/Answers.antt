-- `matching::offered::is_both` meets its contract.
use Rattle.matching.proofs.OfferedLaws.{rule_by}
use Rattle.matching.proofs.offered.is_both.Goals as goal

pub returns : goal.returns
returns c = rule_by _ _ c.is_in.ensures
