use Rattle.std.proofs.Common.{◌≡◌, ◌++◌, map, drop}
use Rattle.std.specs.List.{flat_map}
use Rattle.scim_value.specs.Resource.{first_at}
use Rattle.scim_value.specs.Uniqueness.{name_at, name_of}
use Rattle.scim_value.proofs.uniqueness.push_names.Given as goal

-- the names that are found and those at the leaves that are left make the whole
abbrev pub invariant-loop-leaf : goal.invariant-loop-leaf
invariant-loop-leaf l =
    map name_of l.names.items ++ flat_map (λ m. name_at l.resource.kind m (first_at m l.resource)) (drop l.leaf-index l.leaves)
    ≡ map name_of l.fn.names.items ++ flat_map (λ m. name_at l.resource.kind m (first_at m l.resource)) l.leaves
