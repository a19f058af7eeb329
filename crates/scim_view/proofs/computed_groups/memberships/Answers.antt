use Rattle.std.proofs.Common.{◌∙◌, ap, List, map}
use Rattle.std.proofs.lemmas.List.{take_all}
use denote.Ref.{Bor}
use Rattle.scim_schema.specs.declared.Kind.TheVariants.{User}
use Rattle.scim_cell.specs.Rows.{restricted}
use Rattle.scim_policy.specs.PatternTable.{last_decision}
use Rattle.scim_view.specs.declared.computed_groups.SeenGroup.{SeenGroup}
use Rattle.scim_view.specs.View.{may_be_seen}
use Rattle.scim_view.specs.Groups.{membership_at}
use Rattle.scim_view.proofs.GroupLemmas.{membership_rows}
use Rattle.scim_view.proofs.UncoveredLemmas.{groups_alike}
use Rattle.scim_view.proofs.computed_groups.memberships.Goals as goal

pub returns : goal.returns
returns c =
    let ps = c.args.patterns.now in
    let base = c.args.base.now in
    let groups = c.args.groups.now in
    c.loop-group.invariant
    ∙ ap (λ (gs : List (Bor SeenGroup)). restricted (may_be_seen (λ q. last_decision ps) User) (map (membership_at base) gs)) (take_all c.loop-group.group-index groups c.loop-group-test.false)
    ∙ groups_alike ps (map (membership_at base) groups) (membership_rows base groups)
