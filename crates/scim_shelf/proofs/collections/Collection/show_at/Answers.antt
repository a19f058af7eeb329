use Rattle.std.proofs.Common.{refl, ◌∙◌, ap, subst, List}
use Rattle.std.specs.List.{FoldsTo}
use Rattle.std.proofs.lemmas.Result.{on_ok_weaker}
use Rattle.scim_cell.specs.Content.{Content}
use Rattle.scim_shelf.specs.Stores.{those_found}
use Rattle.scim_shelf.specs.Indexed.{only_of}
use Rattle.scim_shelf.proofs.NameLemmas.{found_at}
use Rattle.scim_shelf.proofs.collections.Collection.show_at.Goals as goal

pub returns-in-Some : goal.returns-in-Some
returns-in-Some g c =
    on_ok_weaker c.take.result
    (λ took cs h.
    let there = c.in-Some.ensures ∙ ap (only_of c.args.kind) (c.with_id.ensures cs h) ∙ found_at c.args.kind c.args.id cs h.keyed_apart in
    subst (λ (ds : List Content). FoldsTo g.V.Visitor.takes c.args.visitor.now ds c.take.new.self) (ap those_found there) (c.take.new.self, took, refl))
    c.take.ensures

pub returns-in-None : goal.returns-in-None
returns-in-None g c = λ cs h.
    let none = c.in-None.ensures ∙ ap (only_of c.args.kind) (c.with_id.ensures cs h) ∙ found_at c.args.kind c.args.id cs h.keyed_apart in
    subst (λ (ds : List Content). FoldsTo g.V.Visitor.takes c.args.visitor.now ds c.args.visitor.now) (ap those_found none) refl
