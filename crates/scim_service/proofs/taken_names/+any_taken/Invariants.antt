use Rattle.std.proofs.Common.{length}
use Rattle.scim_service.proofs.taken_names.+any_taken.Given as goal

abbrev pub decreases-any_taken : goal.decreases-any_taken
decreases-any_taken g l = length l.names.now
