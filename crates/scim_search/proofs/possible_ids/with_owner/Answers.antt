use Rattle.std.proofs.Common.{◌∙◌, ap}
use Rattle.std.specs.Prelude.{find}
use Rattle.scim_value.specs.Uniqueness.{Name}
use Rattle.scim_shelf.specs.Stores.{has_name}
use Rattle.scim_search.proofs.PossibleIdLemmas.{by_name}
use Rattle.scim_search.proofs.possible_ids.with_owner.Goals as goal

pub returns-clause-ids : goal.returns-clause-ids
returns-clause-ids g c store stands honest base is =
    let name = c.in_ok-name.ensures in
    by_name base store is c.args.kind c.args.needed.leaf c.args.needed.text.now c.args.ids _ c.in_ok-owner.owner c.requires c.in_ok-with_found.ensures.kept
    (c.in_ok-owner.ensures.answer store stands honest ∙ ap (λ (n : Name). find (has_name n) store.resources) (λ i. record { leaf = name.leaf i; text = name.text i })) c.in_ok-with_found.ensures.own
