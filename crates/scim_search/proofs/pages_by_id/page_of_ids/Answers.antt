use Rattle.std.proofs.Common.{◌≡◌, sym, ◌∙◌, ap, subst, ℕ, Bool, List, [], filter, arith}
use Rattle.scim_schema.specs.declared.Kind.TheVariants.{Group}
use Rattle.scim_cell.specs.Content.{Content}
use Rattle.scim_cell.specs.Kinds.{of_kind}
use Rattle.scim_view.specs.View.{viewer_of}
use Rattle.scim_view.specs.Groups.{views}
use Rattle.scim_query.specs.declared.queries.Query.{Query}
use Rattle.scim_query.specs.Pagers.{HasTaken}
use Rattle.scim_query.specs.Pages.{IsPage}
use denote.Ref.{Bor}
use Rattle.scim_search.specs.PagesById.{at_ids, seen_of}
use Rattle.scim_search.specs.PossibleIds.{has_id}
use Rattle.scim_search.proofs.ListLemmas.{no_first}
use Rattle.scim_search.proofs.LookupLemmas.{one_in_order}
use Rattle.scim_search.proofs.PageByIdLemmas.{at_all, views_in_order}
use Rattle.scim_search.proofs.pages_by_id.page_of_ids.Goals as goal

pub returns-in_default-clause-page : goal.returns-in_default-clause-page
returns-in_default-clause-page g c store stands honest base is =
    let viewer = viewer_of c.args.viewer.now in
    let kind = c.args.patterns.now.kind in
    let ids = c.args.ids.now in
    let listed = c.in_ok-listed.listed.items in
    let none : listed ≡ [] = sym c.as_slice-ids.ensures.value ∙ no_first _ (omega arith) in
    let page = c.in_ok-end.field-0 in
    let those = at_all base store is kind ids listed c.in_ok-listed.ensures.ids c.in_ok-listed.ensures.ascending in
    let empty : IsPage [] c.args.query.now page
    = subst (λ (q : Bor Query). IsPage [] q.now page) c.new.ensures.query (c.in_ok-end.ensures [] c.new.ensures.taken (λ e. one_in_order [] (omega arith))) in
    subst (λ (cs : List Content). IsPage (views viewer (of_kind Group store.resources) cs) c.args.query.now page)
    (ap (λ (is' : List (List ℕ)). at_ids kind is' store.resources) (sym none) ∙ those) empty

pub returns-clause-page : goal.returns-clause-page
returns-clause-page g c store stands honest base is =
    let viewer = viewer_of c.args.viewer.now in
    let kind = c.args.patterns.now.kind in
    let ids = c.args.ids.now in
    let groups = of_kind Group store.resources in
    let test : Content → Bool = λ d. has_id ids d.id in
    let those = filter test (of_kind kind store.resources) in
    let page = c.in_ok-end-2.field-0 in
    let taken = (c.in_ok-push_with_ids.ensures.taken store stands honest base is (c.in_ok-listing.ensures store.resources)).1 [] c.new-pager.ensures.taken in
    let same : at_ids kind c.as_slice-ids.result.now store.resources ≡ those
    = ap (λ (is' : List (List ℕ)). at_ids kind is' store.resources) c.as_slice-ids.ensures.value
    ∙ at_all base store is kind ids c.in_ok-listed.listed.items c.in_ok-listed.ensures.ids c.in_ok-listed.ensures.ascending in
    let all : HasTaken (views viewer groups those) c.push_with_ids.new.pager
    = subst (λ (cs : List Content). HasTaken (seen_of viewer store.resources cs) c.push_with_ids.new.pager) same taken in
    subst (λ (q : Bor Query). IsPage (views viewer groups those) q.now page) (c.in_ok-push_with_ids.ensures.query ∙ c.new-pager.ensures.query)
    (c.in_ok-end-2.ensures (views viewer groups those) all (λ e. views_in_order base store is viewer groups kind test))
