use Rattle.std.proofs.Common.{◌≡◌, ◌++◌, map, drop}
use Rattle.std.specs.List.{flat_map}
use Rattle.scim_schema.specs.UniqueLeaves.{unique_leaves_by_name}
use Rattle.scim_value.specs.Resource.{first_at}
use Rattle.scim_value.specs.Uniqueness.{name_at, name_of}
use Rattle.scim_store.specs.code.Damage.{ordered_names}
use Rattle.scim_store.proofs.damage.ordered_names.Given as goal

-- the names that are found and those at the leaves that are left make the whole
abbrev pub invariant-loop-leaf : goal.invariant-loop-leaf
invariant-loop-leaf l =
    map name_of l.names.items ++ flat_map (λ m. name_at l.resource.kind m (first_at m l.resource)) (drop l.leaf-index (unique_leaves_by_name l.resource.kind))
    ≡ ordered_names l.resource
