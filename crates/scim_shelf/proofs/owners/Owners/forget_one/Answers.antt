use Rattle.std.proofs.Common.{◌∙◌, ap, Bool, cond}
use Rattle.std.specs.Prelude.{None}
use Rattle.scim_shelf.specs.Owners.{owner}
use Rattle.scim_shelf.proofs.OwnerLemmas.{tied_alike}
use Rattle.scim_shelf.proofs.owners.Owners.forget_one.Goals as goal

pub returns : goal.returns
returns c = λ q. c.remove.ensures.updates.0 q ∙ ap (λ (b : Bool). cond b None (owner c.args.self.now q)) (tied_alike c.args.name.now q)
