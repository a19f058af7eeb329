use Rattle.std.proofs.Common.{length}
use Rattle.scim_search.proofs.possible_ids.+with_texts.Given as goal

abbrev pub decreases-with_texts : goal.decreases-with_texts
decreases-with_texts g l = length l.texts.now
