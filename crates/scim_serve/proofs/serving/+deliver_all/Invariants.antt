use Rattle.std.proofs.Common.{length}
use Rattle.scim_serve.proofs.serving.+deliver_all.Given as goal

abbrev pub decreases-deliver_all : goal.decreases-deliver_all
decreases-deliver_all g l = length l.answers.now
