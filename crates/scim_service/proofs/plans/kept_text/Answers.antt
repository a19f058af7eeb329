use Rattle.std.proofs.Common.{◌∙◌, sym}
use Rattle.scim_schema.specs.declared.Kind.TheVariants.{Group}
use Rattle.scim_schema.specs.declared.Attribute.TheVariants.{Id}
use Rattle.scim_schema.specs.Units.{simple}
use Rattle.scim_cell.specs.Kinds.{of_kind}
use Rattle.scim_policy.specs.PatternTable.{rules_in}
use Rattle.scim_policy.specs.Patterns.{decisions_of, whole_decision}
use Rattle.scim_view.specs.View.{viewer_of}
use Rattle.scim_service.proofs.CreationLemmas.{kept_groups, text_seen, text_unseen}
use Rattle.scim_service.proofs.PlanLemmas.{whole_read}
use Rattle.scim_service.proofs.plans.kept_text.Goals as goal

pub returns-then-not-shows_id-clause-text : goal.returns-then-not-shows_id-clause-text
returns-then-not-shows_id-clause-text g c store stands honest base is own_kind =
    let viewer = viewer_of c.args.viewer.now in
    let own = c.args.resource.now in
    let id = whole_decision (decisions_of (rules_in c.args.patterns.now (simple Id))) in
    text_unseen viewer store.resources c.args.wanted.now own id (whole_read c.args.patterns.now viewer own (simple Id) (c.requires (simple Id)))
    (sym c.shows_id.ensures ∙ c.if-not-shows_id.true)

pub returns-clause-text : goal.returns-clause-text
returns-clause-text g c store stands honest base is own_kind =
    let viewer = viewer_of c.args.viewer.now in
    let own = c.args.resource.now in
    let id = whole_decision (decisions_of (rules_in c.args.patterns.now (simple Id))) in
    text_seen viewer store.resources c.args.wanted.now own (of_kind Group store.resources) c.in_ok-text.text id
    (c.in_ok-text.ensures.text store stands honest base is) (kept_groups viewer base store own is own_kind)
    (whole_read c.args.patterns.now viewer own (simple Id) (c.requires (simple Id))) (sym c.shows_id.ensures ∙ c.if-not-shows_id.false)
