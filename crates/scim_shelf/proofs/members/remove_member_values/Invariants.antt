use Rattle.std.proofs.Common.{◌≡◌, ℕ, List, take, ◌&&◌, not}
use Rattle.scim_shelf.specs.Members.{is_in, is_value_of}
use Rattle.scim_shelf.proofs.members.remove_member_values.Given as goal

-- the values without those of the members so far
abbrev pub invariant-loop-member : goal.invariant-loop-member
invariant-loop-member l = (v : List ℕ) → is_in v l.values ≡ (is_in v l.initial.values && not (is_value_of v (take l.member-index l.members)))
