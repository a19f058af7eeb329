use Rattle.scim_json.proofs.PartCells.{parts_are_shown_whole}
use Rattle.scim_json.proofs.laws.parts_are_shown_whole.Goals as goal

pub returns : goal.returns
returns c = parts_are_shown_whole
