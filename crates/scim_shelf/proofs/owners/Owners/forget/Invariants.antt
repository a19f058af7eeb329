use Rattle.std.proofs.Common.{◌≡◌, None, cond, take}
use Rattle.scim_value.specs.declared.uniqueness.UniqueName.{UniqueName}
use Rattle.scim_shelf.specs.Owners.{owner, is_among}
use Rattle.scim_shelf.proofs.owners.Owners.forget.Given as goal

-- the names so far have no owner
abbrev pub invariant-loop-name : goal.invariant-loop-name
invariant-loop-name l = (q : UniqueName) → owner l.self q ≡ cond (is_among q (take l.name-index l.names)) None (owner l.fn.self q)
