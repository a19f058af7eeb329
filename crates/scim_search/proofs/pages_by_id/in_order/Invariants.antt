use Rattle.std.proofs.Common.{◌≡◌, map}
use Rattle.scim_search.proofs.pages_by_id.in_order.Given as goal

-- the ids so far
abbrev pub invariant-loop-id : goal.invariant-loop-id
invariant-loop-id l = l.listed.items ≡ map (λ id. id.now) l.yielded
