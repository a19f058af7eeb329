use Rattle.std.proofs.Common.{◌≡◌, ◌++◌, drop}
use Rattle.std.specs.List.{flat_map}
use Rattle.scim_patch_message.specs.PathSteps.{value_text}
use Rattle.scim_patch_message.proofs.path_steps.value_texts.Given as goal

-- the texts so far and those of the values that are left are all
abbrev pub invariant-loop-value : goal.invariant-loop-value
invariant-loop-value l = l.texts.items ++ flat_map (value_text l.fn.attribute) (drop l.value-index l.values) ≡ flat_map (value_text l.fn.attribute) l.values
