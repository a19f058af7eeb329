use Rattle.std.proofs.Common.{sym, subst}
use Rattle.scim_schema.specs.declared.Kind.TheVariants.{Group}
use Rattle.scim_view.specs.View.{Viewer}
use Rattle.scim_search.specs.ReadPatterns.{ArePatterns, AreFor}
use Rattle.scim_search.proofs.VisitLemmas.{ok_by}
use Rattle.scim_search.proofs.WalkLemmas.{on_found}
use Rattle.scim_search.proofs.visitors.ListingVisitorVisitor.take.Goals as goal

pub returns-in-Some : goal.returns-in-Some
returns-in-Some c =
    ok_by c.push.result _ _
    (λ listing v cs found tells. (
      record { viewer = tells.viewer; patterns = tells.patterns; cached = tells.cached },
      λ id gathered lists is. listing v id gathered (c.in-Some.ensures v Group cs tells.patterns tells.cached found) lists is,
    ))
    c.push.ensures

pub returns : goal.returns
returns c =
    ok_by c.keep.result _ _
    (λ kept v cs found tells.
    let group = c.args.resource.now in
    let patterns = c.in_ok-patterns.patterns in
    let own : AreFor v group patterns
    = subst (λ (u : Viewer). AreFor u group patterns) tells.viewer (c.in_ok-patterns.ensures (subst (λ (u : Viewer). ArePatterns u c.args.self.now.patterns) (sym tells.viewer) tells.patterns)) in (
      record { viewer = tells.viewer; patterns = tells.patterns; cached = kept v Group cs (on_found v Group cs c.id.result group patterns c.id.ensures found own) tells.cached },
      λ id gathered lists is. c.in_ok-push.ensures v id gathered own lists is,
    ))
    c.keep.ensures.recalls
