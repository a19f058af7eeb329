use Rattle.std.proofs.Common.{rules, ◌∙◌, ap, List}
use Rattle.scim_cell.specs.Content.{Content}
use Rattle.scim_shelf.specs.Collections.{IsCollection}
use Rattle.scim_shelf.specs.Indexed.{only_of}
use Rattle.scim_shelf.proofs.NameLemmas.{found_at}
use Rattle.scim_shelf.proofs.collections.Collection.resource_at.Goals as goal

pub returns : goal.returns
returns c =
    let there = λ (cs : List Content) (h : IsCollection cs c.args.self.now).
    c.if_of.ensures ∙ ap (only_of c.args.kind) (c.with_id.ensures cs h) ∙ found_at c.args.kind c.args.id cs h.keyed_apart in
    search (rules, there)
