use Rattle.std.proofs.Common.{◌++◌, ◌∷◌, [], List, subst}
use Rattle.scim_cell.specs.Content.{Content}
use Rattle.scim_shelf.specs.Stores.{keep}
use Rattle.scim_shelf.specs.Indexed.{AreLeft}
use Rattle.scim_shelf.proofs.LeftLemmas.{all_left, last_place, last_kept}
use Rattle.scim_shelf.proofs.collections.Collection.of.Goals as goal

pub resources-init : goal.resources-init
resources-init c = ([], all_left c.args.resources.items c.requires, c.new-collection.ensures)

pub resources-preserved : goal.resources-preserved
resources-preserved c =
    let all = c.args.resources.items in
    let cs = c.resources.invariant.0 in
    let rest = c.pop.new.self.items in
    let one = c.in-Some.resource in
    let h : AreLeft all (rest ++ one ∷ []) cs = subst (λ (xs : List Content). AreLeft all xs cs) c.in-Some.ensures.items c.resources.invariant.1 in
    let before = c.resources.invariant.2 in
    (keep one cs, last_kept all rest cs one before.keyed_apart h, c.in_ok-keep.ensures.ok cs before (last_place all rest cs one h))
