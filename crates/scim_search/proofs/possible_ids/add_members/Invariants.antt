use Rattle.std.proofs.Common.{◌≡◌, ◌||◌, ℕ, List, take}
use Rattle.scim_cell.specs.Ids.{IsId, id_text}
use Rattle.scim_shelf.specs.Members.{is_value_of}
use Rattle.scim_search.specs.PossibleIds.{has_id}
use Rattle.scim_search.proofs.possible_ids.add_members.Given as goal

-- the ids of the members so far
abbrev pub invariant-loop-member : goal.invariant-loop-member
invariant-loop-member l = (id : List ℕ) → IsId id → has_id l.ids id ≡ (has_id l.fn.ids id || is_value_of (id_text id) (take l.member-index l.members))
