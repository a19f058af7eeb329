use Rattle.std.proofs.Common.{sym, ◌∙◌, ap, subst, List, filter}
use Rattle.std.specs.List.{FoldsTo}
use Rattle.scim_cell.specs.Content.{Content}
use Rattle.scim_cell.specs.Kinds.{of_kind}
use Rattle.scim_search.specs.declared.walks.WalkScope.{WalkScope}
use Rattle.scim_search.specs.Visits.{TakesResource}
use Rattle.scim_search.specs.Walks.{is_walked}
use Rattle.scim_search.proofs.VisitLemmas.{ok_by}
use Rattle.scim_search.proofs.WalkLemmas.{all_walked}
use Rattle.scim_search.proofs.walks.Walk.show.Goals as goal

pub returns-in-WholeKind-clause-answer : goal.returns-in-WholeKind-clause-answer
returns-in-WholeKind-clause-answer g c =
    ok_by c.each.result _ _
    (λ answer store stands honest.
    let ds = of_kind c.args.self.now.kind store.resources in
    subst (λ (es : List Content). FoldsTo TakesResource c.args.visitor.now es c.each.new.visitor)
    (all_walked ds ∙ ap (λ (s : WalkScope). filter (is_walked s) ds) (sym c.in-WholeKind.is)) (answer store stands honest))
    c.each.ensures.answer
