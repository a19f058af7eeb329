use Rattle.std.proofs.Common.{length}
use Rattle.scim_serve.proofs.serving.+hear_all.Given as goal

abbrev pub decreases-hear_all : goal.decreases-hear_all
decreases-hear_all g l = length l.events.now
