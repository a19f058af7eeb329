use Rattle.std.proofs.Common.{take}
use Rattle.scim_patch_values.specs.code.Listed.{HoldsTexts}
use Rattle.scim_patch_values.proofs.listed.set_of.Given as goal

-- the set has just the texts before this one
abbrev pub invariant-loop-text : goal.invariant-loop-text
invariant-loop-text l = HoldsTexts l.set (take l.text-index l.texts)
