-- What is planned where a resource is patched.
use Rattle.std.proofs.Common.{◌≡◌, refl, Bool, true, List}
use Rattle.std.specs.Prelude.{None, Ok, Err}
use denote.Enum.Bare.{sameb}
use Rattle.scim_schema.specs.contracts.Kind.{the_type as the_kind}
use Rattle.scim_cell.specs.Content.{Content}
use Rattle.scim_patch_steps.specs.declared.steps.StepFault.{StepFault}
use Rattle.scim_patch_steps.specs.Patch.{Patch, touched, applied}
use Rattle.scim_view.specs.declared.projection.Wanted.{Wanted}
use Rattle.scim_view.specs.View.{Viewer}
use Rattle.scim_service.specs.declared.requests.Turn.{Turn}
use Rattle.scim_service.specs.Step.{rejection_plan, access_to, unique_change_plan, first_forbidden, step_refusal, decided_patch_plan, patch_plan}

module _ (v : Viewer) (turn : Turn) (cs : List Content) (p : Patch) (wanted : Wanted) (c : Content) where
  pub patched_is : (x : Content) (changed : Bool) → Ok (x, changed) ≡ applied p turn.moment c
      → unique_change_plan v turn cs wanted (access_to v c) changed x ≡ decided_patch_plan v turn cs p wanted c None
  patched_is x changed e = rw (← e) refl

  pub refused_is : (e : StepFault) → Err e ≡ applied p turn.moment c → rejection_plan turn (step_refusal e) ≡ decided_patch_plan v turn cs p wanted c None
  refused_is e h = rw (← h) refl

  pub patching_is : sameb the_kind p.kind c.kind ≡ true → first_forbidden p.kind (access_to v c) (touched p) ≡ None
      → decided_patch_plan v turn cs p wanted c None ≡ patch_plan v turn cs p wanted c
  unfolding patch_plan
  patching_is own none = rw (own, none) refl
