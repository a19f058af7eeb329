use Rattle.std.proofs.Common.{◌∙◌, sym}
use Rattle.scim_value.specs.Uniqueness.{name_of}
use Rattle.scim_shelf.specs.Stores.{has_name}
use Rattle.scim_shelf.proofs.NameLemmas.{found_by_id}
use Rattle.scim_shelf.proofs.collections.Collection.named.Goals as goal

pub returns : goal.returns
returns c = λ cs h.
    c.with_id.ensures cs h
    ∙ found_by_id (has_name (name_of c.args.name.now)) c.in_ok-id.id cs h.keyed_apart (sym (h.owners c.args.name.now) ∙ sym c.of.ensures ∙ c.in_ok-id.was)
