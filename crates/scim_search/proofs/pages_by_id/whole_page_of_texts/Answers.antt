use Rattle.std.proofs.Common.{sym, ◌∙◌, ap, subst, List, [], filter, arith}
use Rattle.std.proofs.lemmas.Result.{IfOk-weaker}
use denote.Ref.{Bor}
use Rattle.scim_schema.specs.declared.Kind.{Kind}
use Rattle.scim_schema.specs.declared.Kind.TheVariants.{Group}
use Rattle.scim_cell.specs.Content.{Content}
use Rattle.scim_cell.specs.Kinds.{of_kind}
use Rattle.scim_view.specs.View.{viewer_of}
use Rattle.scim_view.specs.Groups.{views}
use Rattle.scim_query.specs.declared.queries.Query.{Query}
use Rattle.scim_query.specs.Pages.{IsPage, matching}
use Rattle.scim_search.specs.declared.walks.Walk.{Walk}
use Rattle.scim_search.specs.declared.walks.WalkScope.TheVariants.{WholeKind}
use Rattle.scim_search.specs.PossibleIds.{has_id}
use Rattle.scim_search.proofs.LookupLemmas.{page_of_matching, page_of_possible, one_in_order}
use Rattle.scim_search.proofs.WalkLemmas.{all_walked, none_matches}
use Rattle.scim_search.proofs.pages_by_id.whole_page_of_texts.Goals as goal

pub returns-then-not-may_find-clause-page : goal.returns-then-not-may_find-clause-page
returns-then-not-may_find-clause-page g c store stands honest base is =
    let viewer = viewer_of c.args.viewer.now in
    let kind = c.args.kind in
    let query = c.args.query.now in
    let groups = of_kind Group store.resources in
    let all = of_kind kind store.resources in
    let walk : Walk = record { kind = kind; scope = WholeKind } in
    let page = c.in_ok-end.field-0 in
    let none : IsPage [] query page
    = subst (λ (q : Bor Query). IsPage [] q.now page) c.new.ensures.query (c.in_ok-end.ensures [] c.new.ensures.taken (λ e. one_in_order [] (omega arith))) in
    page_of_matching [] (views viewer groups all) query page
    (none_matches viewer walk groups query.filter base store is
    (λ d part own seen. c.may_find.ensures c.if-not-may_find.true viewer groups d c.in_ok-patterns.ensures.patterns part (own ∙ sym c.in_ok-patterns.ensures.kind) seen)
    ∙ ap (λ (cs : List Content). matching query.filter (views viewer groups cs)) (sym (all_walked all))) none

pub returns-clause-page : goal.returns-clause-page
returns-clause-page g c =
    IfOk-weaker c.page_of_ids.result _ _
    (λ page answer store stands honest base is.
    let viewer = viewer_of c.args.viewer.now in
    let groups = of_kind Group store.resources in
    let query = c.args.query.now in
    let possible = c.in_ok-ids in
    let has = possible.ensures.ids store stands (c.page_of_ids.ensures.read.honest honest) base is in
    page_of_possible (λ d. has_id possible.ids d.id) viewer groups (of_kind c.args.kind store.resources) query page
    (λ k d lt matches. has viewer k d lt (c.requires.needed _ matches))
    (subst (λ (kind : Kind). IsPage (views viewer groups (filter (λ d. has_id possible.ids d.id) (of_kind kind store.resources))) query page) c.in_ok-patterns.ensures.kind
    (answer store (possible.ensures.read.store store stands) honest base is)))
    c.page_of_ids.ensures.page
