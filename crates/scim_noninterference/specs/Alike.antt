-- Stores that are alike for a client.
use Rattle.std.specs.Prelude.{◌≡◌, Bool, List, map, filter}
use Rattle.std.specs.List.{list_any}
use Rattle.scim_schema.specs.declared.Kind.TheVariants.{Group}
use Rattle.scim_cell.specs.Content.{Content}
use Rattle.scim_cell.specs.Kinds.{of_kind}
use Rattle.scim_value.specs.Uniqueness.{Name}
use Rattle.scim_policy.specs.Control.{control}
use Rattle.scim_view.specs.View.{Viewer, sees}
use Rattle.scim_view.specs.Groups.{views}
use Rattle.scim_shelf.specs.Stores.{has_name}

-- Whether a unique name is in use.
abbrev pub is_in_use : List Content → Name → Bool
is_in_use cs name = list_any (has_name name) cs

-- All resources of a store that the viewer sees, each with only the values that the viewer sees. Each user
-- lists those of its groups that the viewer sees.
abbrev pub whole_view : Viewer → List Content → List Content
whole_view v cs = views v (of_kind Group cs) cs

-- Two stores are alike for a viewer if the viewer sees the same in both, the same unique names are in use in
-- both, and the visible resources have the same control in both: the values that the policy's targets name or
-- that must be unique.
pub record IsAlike (v : Viewer) (s t : List Content) : Type 0 where
  pub same_view : whole_view v s ≡ whole_view v t
  pub same_control : map (control v.policy) (filter (sees v) s) ≡ map (control v.policy) (filter (sees v) t)
  pub same_names : (name : Name) → is_in_use s name ≡ is_in_use t name
