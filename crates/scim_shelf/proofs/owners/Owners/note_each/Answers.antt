use Rattle.std.proofs.Common.{◌∙◌, ap, Bool, cond}
use Rattle.std.specs.Prelude.{Some}
use Rattle.scim_shelf.specs.Owners.{owner}
use Rattle.scim_shelf.proofs.OwnerLemmas.{none_taken}
use Rattle.scim_shelf.proofs.owners.Owners.note_each.Goals as goal

pub returns-in_err-note_one-clause-others : goal.returns-in_err-note_one-clause-others
returns-in_err-note_one-clause-others c = λ q none.
    c.in_err-note_one.ensures.err q ∙ c.loop-name.invariant q
    ∙ ap (λ (b : Bool). cond b (Some c.args.id) (owner c.args.self.now q)) (none_taken q c.args.names.now c.loop-name.name-index none)
