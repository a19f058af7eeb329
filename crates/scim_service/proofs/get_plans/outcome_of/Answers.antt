use Rattle.std.proofs.Common.{◌∙◌, []}
use Rattle.scim_view.specs.View.{viewer_of}
use Rattle.scim_service.proofs.PlanLemmas.{id_read, text_without}
use Rattle.scim_service.proofs.get_plans.outcome_of.Goals as goal

pub returns-then-not-seen : goal.returns-then-not-seen
returns-then-not-seen c =
    let viewer = viewer_of c.args.viewer.now in
    let own = c.args.resource.now in
    let decides = id_read c.in_ok-patterns.patterns viewer own c.simple.result c.whole-seen.result c.whole-seen.ensures c.simple.ensures c.in_ok-patterns.ensures in
    (decides, c.if-not-seen.true)

pub returns : goal.returns
returns c =
    let viewer = viewer_of c.args.viewer.now in
    let own = c.args.resource.now in
    let decides = id_read c.in_ok-patterns.patterns viewer own c.simple.result c.whole-seen.result c.whole-seen.ensures c.simple.ensures c.in_ok-patterns.ensures in
    let hidden = c.shows_groups.ensures c.if-shows_groups.false in
    (decides, c.if-not-seen.false, λ groups. c.in_ok-text.ensures [] (rw c.id.ensures at c.new-none.ensures viewer) ∙ text_without viewer [] groups c.args.wanted.now own (hidden viewer [] groups))
