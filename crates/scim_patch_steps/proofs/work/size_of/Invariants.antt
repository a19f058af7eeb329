use Rattle.std.proofs.Common.{◌≡◌, take}
use Rattle.scim_patch_steps.specs.Work.{size_of}
use Rattle.scim_patch_steps.specs.code.Capped.{capped}
use Rattle.scim_patch_steps.proofs.work.size_of.Given as goal

-- the sizes of the values before this one
abbrev pub invariant-loop-value : goal.invariant-loop-value
invariant-loop-value l = l.sum ≡ capped (size_of (take l.value-index l.values))
