use Rattle.std.proofs.Common.{rules, ◌≡◌, sym, ◌∙◌, subst, ℕ, List, []}
use Rattle.std.proofs.lemmas.Result.{IfOk-weaker}
use Rattle.scim_schema.specs.declared.Kind.TheVariants.{Group}
use Rattle.scim_cell.specs.Kinds.{of_kind}
use Rattle.scim_view.specs.Listings.{AreListing}
use Rattle.scim_search.proofs.StoreViews.{none_of_group}
use Rattle.scim_search.proofs.groups_of_resource.gather_groups.Goals as goal

pub returns-in-User-clause-groups : goal.returns-in-User-clause-groups
returns-in-User-clause-groups g c =
    IfOk-weaker c.gather_listing.result _ _
    (λ u answer store stands honest base v own is kind same tells.
    answer store stands honest base v own is same (c.clear.ensures.tells v store.resources tells) (c.clear.ensures.groups v))
    c.gather_listing.ensures.groups

pub returns-in-Group-clause-groups : goal.returns-in-Group-clause-groups
returns-in-Group-clause-groups g c store stands honest base v own is kind same tells =
    let group : c.args.kind ≡ Group = search rules in (
      c.clear.ensures.tells v store.resources tells,
      record { groups = []; gathered = subst (λ (id : List ℕ). AreListing v id [] c.clear.new.self.groups) (sym same) (c.clear.ensures.groups v); same = none_of_group v [] (of_kind Group store.resources) own (kind ∙ group) },
    )
