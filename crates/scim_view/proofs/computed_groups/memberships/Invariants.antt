use Rattle.std.proofs.Common.{◌≡◌, map, take}
use Rattle.scim_schema.specs.declared.Kind.TheVariants.{User}
use Rattle.scim_cell.specs.Rows.{restricted}
use Rattle.scim_policy.specs.PatternTable.{last_decision}
use Rattle.scim_view.specs.View.{may_be_seen}
use Rattle.scim_view.specs.Groups.{membership_at}
use Rattle.scim_view.proofs.computed_groups.memberships.Given as goal

abbrev pub invariant-loop-group : goal.invariant-loop-group
invariant-loop-group l = l.values.items ≡ restricted (may_be_seen (λ r. last_decision l.shown.patterns.now) User) (map (membership_at l.base) (take l.group-index l.groups))
