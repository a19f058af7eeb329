-- The outcome of a GET of a resource that a shelf lends.
use Rattle.std.specs.Prelude.{◌≡◌, true, false, List, Option, None, Some}
use Rattle.scim_schema.specs.declared.Attribute.TheVariants.{Id}
use Rattle.scim_schema.specs.Units.{simple}
use Rattle.scim_cell.specs.Content.{Content}
use Rattle.scim_view.specs.declared.projection.Wanted.{Wanted}
use Rattle.scim_view.specs.View.{Viewer, viewer_of, read_decision}
use Rattle.scim_service.specs.declared.get_plans.Outcome.{Outcome}
use Rattle.scim_service.specs.declared.get_plans.GetVisitor.{GetVisitor}
use Rattle.scim_service.specs.Step.{resource_text}

-- With `Hidden`: the decision on reading the resource's `id`, which denies. With `Told`: that decision, which allows,
-- and the text of the reply, whatever groups list the resource. With `Copy`: the resource.
abbrev pub IsOutcome : Viewer → Wanted → Content → Outcome → Type 0
IsOutcome v wanted c (Outcome.Hidden d) = (d ≡ read_decision v c (simple Id)) × (d.allow ≡ false)
IsOutcome v wanted c (Outcome.Told d text) = (d ≡ read_decision v c (simple Id)) × (d.allow ≡ true) × ((groups : List Content) → text ≡ resource_text v groups wanted c)
IsOutcome v wanted c (Outcome.Copy own) = own ≡ c

-- The option has the outcome of a GET of the resource that a look-up found; None if the look-up found none.
abbrev pub IsLent : Viewer → Wanted → Option Content → Option Outcome → Type 0
IsLent v wanted None outcome = outcome ≡ None
IsLent v wanted (Some c) None = ⊥
IsLent v wanted (Some c) (Some outcome) = IsOutcome v wanted c outcome

-- When the visitor is shown a resource, it makes the outcome of a GET of it.
abbrev pub TakesLent : GetVisitor → Content → GetVisitor → Type 0
TakesLent old c new = IsLent (viewer_of old.viewer.now) old.wanted.now (Some c) new.outcome
