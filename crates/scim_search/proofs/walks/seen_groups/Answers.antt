use Rattle.std.proofs.Common.{sym, subst, []}
use denote.Ref.{Bor}
use Rattle.scim_schema.specs.declared.Kind.TheVariants.{Group}
use Rattle.scim_cell.specs.Kinds.{of_kind}
use Rattle.scim_view.specs.declared.viewers.Viewer.{Viewer as ViewerInCode}
use Rattle.scim_view.specs.declared.group_index.GroupIndex.{GroupIndex}
use Rattle.scim_view.specs.View.{viewer_of}
use Rattle.scim_view.specs.Indexes.{IsIndexOf}
use Rattle.scim_search.specs.ReadPatterns.{ArePatterns}
use Rattle.scim_search.proofs.VisitLemmas.{took_groups}
use Rattle.scim_search.proofs.walks.seen_groups.Goals as goal

pub returns-clause-index : goal.returns-clause-index
returns-clause-index g c store stands honest =
    let gs = of_kind Group store.resources in
    let first = c.in_ok-groups.groups in
    let last = c.each.new.visitor in
    let walk = took_groups first gs last (c.in_ok-each.ensures.answer store stands honest) in
    let are : ArePatterns (viewer_of first.viewer.now) first.patterns
    = subst (λ (u : Bor ViewerInCode). ArePatterns (viewer_of u.now) first.patterns) (sym c.in_ok-groups.ensures.viewer) c.in_ok-groups.ensures.patterns in
    let none : IsIndexOf (viewer_of first.viewer.now) [] first.index = c.in_ok-groups.ensures.index (viewer_of first.viewer.now) in
    subst (λ (i : GroupIndex). IsIndexOf (viewer_of c.args.viewer.now) gs i) (sym c.end.ensures)
    (subst (λ (u : Bor ViewerInCode). IsIndexOf (viewer_of u.now) gs last.index) c.in_ok-groups.ensures.viewer (walk [] are none))
