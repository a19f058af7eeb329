use Rattle.std.proofs.Common.{length}
use Rattle.scim_search.proofs.shown_items.+push_items.Given as goal

abbrev pub decreases-push_items : goal.decreases-push_items
decreases-push_items g l = length l.parts.now
