use Rattle.std.proofs.Common.{rules, ◌∙◌, ap, not, map}
use Rattle.std.proofs.lemmas.Fn.{filter_same}
use Rattle.scim_value.specs.declared.uniqueness.UniqueName.{UniqueName}
use Rattle.scim_value.specs.Uniqueness.{name_of}
use Rattle.scim_shelf.specs.Owners.{is_among}
use Rattle.scim_store.specs.Edits.{names_beyond}
use Rattle.scim_store.proofs.NameLemmas.{beyond_named}
use Rattle.scim_store.proofs.changes.names_beyond.Goals as goal

pub returns : goal.returns
returns c =
    let others = c.in_ok-others.others.items in
    ap (map name_of) (filter_same _ (λ (q : UniqueName). not (is_among q others)) _ (λ x b f' h. (search rules, search rules)) _ _ c.retain.ensures.filtered)
    ∙ beyond_named others c.in_ok-names.names.items
    ∙ (λ i. names_beyond (c.in_ok-others.ensures i) (c.in_ok-names.ensures i))
