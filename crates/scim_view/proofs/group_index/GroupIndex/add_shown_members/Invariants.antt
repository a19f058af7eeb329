use Rattle.std.proofs.Common.{◌≡◌, take}
use Rattle.scim_policy.specs.PatternTable.{rules_in}
use Rattle.scim_view.specs.View.{decision_in}
use Rattle.scim_view.specs.code.Index.{names_shown}
use Rattle.scim_view.proofs.IndexLemmas.{AreNoted}
use Rattle.scim_view.proofs.group_index.GroupIndex.add_shown_members.Given as goal

-- each member so far whose `value` may be read is noted
abbrev pub invariant-loop-member : goal.invariant-loop-member
invariant-loop-member l = record {
  groups : l.self.groups ≡ l.fn.self.groups;
  positions : AreNoted (names_shown (decision_in (rules_in l.patterns))) l.fn.self (take l.member-index l.members) l.self;
}
