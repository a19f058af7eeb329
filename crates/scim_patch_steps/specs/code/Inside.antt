-- The representation of patches in code.
use Rattle.scim_patch_steps.specs.declared.patches.Patch.TheInside.{Inside as PatchInside}
use Rattle.scim_patch_steps.specs.Kept.{Kept}

-- the kind and the steps of a patch in code, as a record
abbrev pub kept_of : PatchInside → Kept
kept_of p = record { kind = p.kind; steps = p.steps.items }
