use Rattle.std.proofs.Common.{◌∙◌, ap, Bool, cond}
use Rattle.std.specs.Prelude.{Some}
use Rattle.scim_shelf.specs.Owners.{owner}
use Rattle.scim_shelf.proofs.OwnerLemmas.{tied_copy}
use Rattle.scim_shelf.proofs.owners.Owners.note_one.Goals as goal

pub returns-clause-ok : goal.returns-clause-ok
returns-clause-ok c = λ q.
    c.in_ok-insert.ensures.updates.0 q
    ∙ ap (λ (b : Bool). cond b (Some c.args.id) (owner c.args.self.now q)) (tied_copy c.in_ok-copy.copy c.args.name.now q c.in_ok-copy.ensures)
