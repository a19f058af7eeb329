-- The refusals of a create and of a change, as the code finds them.
use Rattle.std.specs.Prelude.{◌≡◌, Bool, false, List, Option, None, Some}
use Rattle.scim_cell.specs.Content.{Content}
use Rattle.scim_policy.specs.Access.{Access, widening}
use Rattle.scim_view.specs.declared.projection.Wanted.{Wanted}
use Rattle.scim_view.specs.View.{Viewer}
use Rattle.scim_shelf.specs.Stores.{is_taken, is_used, without}
use Rattle.scim_service.specs.declared.requests.Turn.{Turn}
use Rattle.scim_service.specs.declared.plans.Plan.{Plan}
use Rattle.scim_service.specs.Step.{access_to, unique_creation_plan, unique_change_plan}

-- If there is a plan, it is the plan for the creation of `c`, whatever attributes the client wants. If there
-- is no plan, the unique names and the id of `c` are free.
abbrev pub IsRefusalToMake : Viewer → Turn → List Content → Content → Option Plan → Type 0
IsRefusalToMake v turn cs c (Some plan) = (wanted : Wanted) → plan ≡ unique_creation_plan v turn cs wanted c
IsRefusalToMake v turn cs c None = (is_taken cs c ≡ false) × (is_used cs c.id ≡ false)

-- If there is a plan, it is the plan for the change that results in `c`, whatever attributes the client
-- wants. If there is no plan, the unique names of `c` are free, and the client's access to `c` isn't wider
-- than `a`, the client's access before the change.
abbrev pub IsRefusalToChange : Viewer → Turn → List Content → Access → Content → Option Plan → Type 0
IsRefusalToChange v turn cs a c (Some plan) = (wanted : Wanted) (changed : Bool) → plan ≡ unique_change_plan v turn cs wanted a changed c
IsRefusalToChange v turn cs a c None = (is_taken (without c.id cs) c ≡ false) × (widening c.kind a (access_to v c) ≡ None)
