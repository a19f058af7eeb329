use Rattle.std.proofs.Common.{◌≡◌, take}
use Rattle.scim_view.specs.code.Memberships.{names_id}
use Rattle.scim_view.proofs.IndexLemmas.{AreNoted}
use Rattle.scim_view.proofs.group_index.GroupIndex.add_members.Given as goal

-- each member so far is noted
abbrev pub invariant-loop-member : goal.invariant-loop-member
invariant-loop-member l = record {
  groups : l.self.groups ≡ l.fn.self.groups;
  positions : AreNoted names_id l.fn.self (take l.member-index l.members) l.self;
}
