use Rattle.std.proofs.Common.{sym, ◌∙◌, ap, map, List}
use Rattle.std.specs.Prelude.{Some}
use denote.Ref.{Bor}
use Rattle.scim_cell.specs.Content.{Content}
use Rattle.scim_policy.specs.PatternTable.{rules_in}
use Rattle.scim_view.specs.declared.computed_groups.SeenGroup.{SeenGroup}
use Rattle.scim_view.specs.View.{decision_in, viewer_of}
use Rattle.scim_view.specs.Groups as spec
use Rattle.scim_view.proofs.IndexLemmas.{held}
use Rattle.scim_view.proofs.ListLemmas.{unseen_with, seen_with}
use Rattle.scim_view.proofs.viewers.Viewer.view_by_index.Goals as goal

pub returns-then-not-shows_id : goal.returns-then-not-shows_id
returns-then-not-shows_id c groups decides indexed =
    unseen_with (rules_in c.args.patterns.now) (viewer_of c.args.self.now) groups c.args.resource.now decides (sym c.shows_id.ensures ∙ c.if-not-shows_id.true)

pub returns : goal.returns
returns c groups decides indexed =
    let rules = rules_in c.args.patterns.now in
    let viewer = viewer_of c.args.self.now in
    ap (λ (p : Content). Some p) (c.in_ok-view.ensures ∙ ap (λ (gs : List (Bor SeenGroup)). spec.visible_with (decision_in rules) (map (spec.membership_at viewer.base) gs) c.args.resource.now) c.as_slice.ensures.value)
    ∙ seen_with rules viewer groups c.args.resource.now (map (spec.membership_at viewer.base) c.in_ok-groups.groups.items) decides
    (sym c.shows_id.ensures ∙ c.if-not-shows_id.false) (c.in_ok-groups.ensures (spec.seen viewer groups) (held (spec.seen viewer groups) c.args.index.now indexed) viewer.base)
