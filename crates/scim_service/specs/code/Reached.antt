-- The resource that a request names, if its client sees it, as the code reads it.
use Rattle.std.specs.Prelude.{◌≡◌, ⊤, true, List, Some}
use Rattle.scim_schema.specs.declared.Attribute.TheVariants.{Id}
use Rattle.scim_schema.specs.declared.Leaf.{Leaf}
use Rattle.scim_schema.specs.Units.{simple}
use Rattle.scim_cell.specs.Content.{Content}
use Rattle.scim_policy.specs.declared.access_rights.Rights.{Rights}
use Rattle.scim_policy.specs.PatternTable.{access_in, reading_rules_in}
use Rattle.scim_view.specs.View.{Viewer, read_decision, read_rules}
use Rattle.scim_service.specs.declared.requests.Turn.{Turn}
use Rattle.scim_service.specs.declared.plans.Plan.{Plan}
use Rattle.scim_service.specs.declared.reached_resources.Reached.{Reached}
use Rattle.scim_service.specs.Step.{access_to, sought_resource, plan_for_seen}

-- The rights are the client's access to the resource, and their patterns are those for reading it.
pub record AreRightsOn (v : Viewer) (c : Content) (rights : Rights) : Type 0 where
  pub access : access_in rights ≡ access_to v c
  pub reading : (l : Leaf) → reading_rules_in rights l ≡ read_rules v c l

-- The rights returned with a resource are the client's rights on it.
abbrev pub HasRights : Viewer → Reached → Type 0
HasRights v (Reached.Seen c rights) = AreRightsOn v c rights
HasRights v (Reached.Told plan) = ⊤

-- With `Seen`: the request names the resource `c`, and the client sees it. With `Told`: the plan refuses the
-- request because the resource doesn't exist or the client doesn't see it.
abbrev pub IsReached : Viewer → Turn → List Content → Reached → Type 0
IsReached v turn cs (Reached.Seen c rights) = (Some c ≡ sought_resource turn cs) × ((read_decision v c (simple Id)).allow ≡ true)
IsReached v turn cs (Reached.Told plan) = (next : Content → Plan) → plan ≡ plan_for_seen v turn next (sought_resource turn cs)
