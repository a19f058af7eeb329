use Rattle.std.proofs.Common.{sym, ◌∙◌, ap}
use Rattle.std.proofs.lemmas.Result.{IfOk-weaker}
use denote.Enum.Bare.{sameb}
use Rattle.scim_schema.specs.declared.Kind.{Kind}
use Rattle.scim_schema.specs.contracts.Kind.{the_type as the_kind}
use Rattle.scim_schema.specs.declared.Kind.TheVariants.{Group}
use Rattle.scim_cell.specs.Kinds.{of_kind}
use Rattle.scim_view.specs.View.{viewer_of}
use Rattle.scim_value.proofs.Facts.{not_flip}
use Rattle.scim_search.proofs.ListLemmas.{not_false}
use Rattle.scim_search.proofs.LookupLemmas.{of_another_kind, of_own_kind}
use Rattle.scim_search.proofs.lookups.seen_part.Goals as goal

pub returns-then-ne-clause-part : goal.returns-then-ne-clause-part
returns-then-ne-clause-part g c store stands honest base is = of_another_kind c.args.kind (viewer_of c.args.viewer.now) (of_kind Group store.resources) c.args.resource.now
    (ap (λ (k : Kind). sameb the_kind k c.args.kind) (sym c.kind.ensures) ∙ not_flip _ (sym c.ne.ensures ∙ c.if-ne.true))

pub returns-clause-part : goal.returns-clause-part
returns-clause-part g c =
    IfOk-weaker c.view_beside.result _ _
    (λ part answer store stands honest base is.
    of_own_kind c.args.kind (viewer_of c.args.viewer.now) (of_kind Group store.resources) c.args.resource.now part
    (ap (λ (k : Kind). sameb the_kind k c.args.kind) (sym c.kind.ensures) ∙ not_false _ (sym c.ne.ensures ∙ c.if-ne.false)) (answer store stands honest base is c.in_ok-patterns.ensures (c.in_ok-listing.ensures store.resources)).1)
    c.view_beside.ensures.part
