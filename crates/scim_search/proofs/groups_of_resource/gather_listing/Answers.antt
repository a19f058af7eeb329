use Rattle.std.proofs.Common.{◌≡◌, sym, ◌∙◌, ap, subst, ℕ, List, [], filter}
use Rattle.std.specs.List.{FoldsTo}
use Rattle.std.proofs.lemmas.Result.{IfOk-weaker}
use Rattle.scim_cell.specs.Ids.{id_text}
use Rattle.scim_view.specs.Listings.{AreListing}
use Rattle.scim_shelf.specs.Stores.{is_group_with}
use Rattle.scim_search.specs.Visits.{TakesListing}
use Rattle.scim_search.proofs.StoreViews.{suffice}
use Rattle.scim_search.proofs.VisitLemmas.{took_listing}
use Rattle.scim_search.proofs.WalkLemmas.{groups_found, groups_list}
use Rattle.scim_search.proofs.groups_of_resource.gather_listing.Goals as goal

pub returns-clause-groups : goal.returns-clause-groups
returns-clause-groups g c =
    IfOk-weaker c.groups_with.result _ _
    (λ u answer store stands honest base v own is same tells none.
    let text : c.write-value.result.now ≡ id_text own.id = c.write-value.ensures.value ∙ ap id_text (sym same) in
    let groups = filter (is_group_with (id_text own.id)) store.resources in
    let shown : FoldsTo TakesListing c.args.listing.now groups c.groups_with.new.visitor
    = subst (λ (t : List ℕ). FoldsTo TakesListing c.args.listing.now (filter (is_group_with t) store.resources) c.groups_with.new.visitor) text (answer store stands honest) in
    let took = took_listing v store.resources own.id c.args.listing.now groups c.groups_with.new.visitor (groups_found base store is own.id) (groups_list own.id store.resources) shown tells []
    (subst (λ (id : List ℕ). AreListing v id [] c.args.listing.now.groups) (sym same) none) in
    (took.0, record { groups = groups; gathered = took.1; same = suffice v base store own is }))
    c.groups_with.ensures.answer
