use Rattle.std.proofs.Common.{sym, ◌∙◌, ap, []}
use Rattle.std.specs.Prelude.{Option}
use Rattle.std.proofs.lemmas.Result.{IfOk-weaker}
use Rattle.scim_schema.specs.declared.Kind.TheVariants.{Group}
use Rattle.scim_cell.specs.Content.{Content}
use Rattle.scim_cell.specs.Kinds.{of_kind}
use Rattle.scim_view.specs.View.{viewer_of}
use Rattle.scim_view.specs.Groups.{and_those, views}
use Rattle.scim_search.proofs.lookups.seen_if_found.Goals as goal

pub returns-in-Some-clause-part : goal.returns-in-Some-clause-part
returns-in-Some-clause-part g c =
    IfOk-weaker c.seen_part.result _ _
    (λ part answer store stands honest base is.
    answer store stands honest base is
    ∙ ap (λ (o : Option Content). views (viewer_of c.args.viewer.now) (of_kind Group store.resources) (of_kind c.args.kind (and_those o []))) (sym c.in-Some.is))
    c.seen_part.ensures.part
