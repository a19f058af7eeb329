use Rattle.std.proofs.Common.{◌∙◌, sym, subst, List}
use Rattle.scim_schema.specs.declared.Kind.TheVariants.{Group}
use Rattle.scim_cell.specs.Content.{Content}
use Rattle.scim_cell.specs.Kinds.{of_kind}
use Rattle.scim_view.specs.View.{viewer_of}
use Rattle.scim_query.specs.Pages.{IsPage}
use Rattle.scim_search.specs.declared.view_builders.ViewBuilder.{ViewBuilder}
use Rattle.scim_search.specs.ViewBuilders.{IsViewBuilder}
use Rattle.scim_search.specs.Walks.{made_of_walk, walked}
use Rattle.scim_search.proofs.WalkLemmas.{walked_kind}
use Rattle.scim_search.proofs.StoreViews.{made_views, views_alike}
use Rattle.scim_search.proofs.walks.page_by_groups.Goals as goal

pub returns-clause-page : goal.returns-clause-page
returns-clause-page g c store stands honest base is =
    let viewer = viewer_of c.args.viewer.now in
    let walk = c.args.walk.now in
    let cs = walked walk store.resources in
    let page = c.in_ok-found.found.page in
    let told = c.in_ok-index.ensures.index store stands (c.in_ok-found.ensures.read.honest honest) in
    let builder = c.new-builder.ensures in
    let known : IsViewBuilder told.groups c.new-builder.result = subst (IsViewBuilder told.groups) (sym builder) (record { patterns = c.requires; index = told.is_index }) in
    let whole = subst (λ (s : ViewBuilder). IsPage (made_of_walk told.groups s walk store.resources) c.args.query.now page) builder
    (c.in_ok-found.ensures.page store (c.in_ok-index.ensures.read.store store stands) honest told.groups base known is).0 in
    let is_page = subst (λ (view : List Content). IsPage view c.args.query.now page)
    (made_views viewer told.groups cs ∙ views_alike viewer told.groups (of_kind Group store.resources) cs (λ k d lt. told.same _ (walked_kind walk store.resources k d lt))) whole in
    record { found = page; is_page = is_page; total = c.in_ok-shown_page.ensures.total; start = c.in_ok-shown_page.ensures.start; items = c.in_ok-shown_page.ensures.items }
