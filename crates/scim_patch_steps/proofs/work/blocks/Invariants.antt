use Rattle.std.proofs.Common.{◌≡◌, take}
use Rattle.scim_patch_steps.specs.Work.{blocks}
use Rattle.scim_patch_steps.specs.code.Capped.{capped}
use Rattle.scim_patch_steps.proofs.work.blocks.Given as goal

-- the blocks of the fields before this one
abbrev pub invariant-loop-field : goal.invariant-loop-field
invariant-loop-field l = l.count ≡ capped (blocks (take l.field-index l.fields))
