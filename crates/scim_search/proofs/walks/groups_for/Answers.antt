use Rattle.std.proofs.Common.{rules, ◌≡◌, refl, ◌∙◌, []}
use Rattle.std.proofs.lemmas.Result.{IfOk-weaker}
use Rattle.scim_schema.specs.declared.Kind.TheVariants.{Group}
use Rattle.scim_cell.specs.Kinds.{of_kind}
use Rattle.scim_view.specs.View.{viewer_of}
use Rattle.scim_search.proofs.StoreViews.{none_of_group}
use Rattle.scim_search.proofs.walks.groups_for.Goals as goal

pub returns-in-User-clause-index : goal.returns-in-User-clause-index
returns-in-User-clause-index g c =
    IfOk-weaker c.seen_groups.result _ _
    (λ index answer store stands honest. record { groups = of_kind Group store.resources; is_index = answer store stands honest; same = λ d is. refl })
    c.seen_groups.ensures.index

pub returns-in-Group-clause-index : goal.returns-in-Group-clause-index
returns-in-Group-clause-index g c store stands honest =
    let viewer = viewer_of c.args.viewer.now in
    let group : c.args.kind ≡ Group = search rules in
    record { groups = []; is_index = c.new.ensures viewer; same = λ d is. none_of_group viewer [] (of_kind Group store.resources) d (is ∙ group) }
