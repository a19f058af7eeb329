use Rattle.std.proofs.Common.{length}
use Rattle.scim_search.proofs.pages_by_id.+push_with_ids.Given as goal

abbrev pub decreases-push_with_ids : goal.decreases-push_with_ids
decreases-push_with_ids g l = length l.ids.now
