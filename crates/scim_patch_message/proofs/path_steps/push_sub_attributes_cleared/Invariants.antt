use Rattle.std.proofs.Common.{◌≡◌, drop, map}
use Rattle.scim_patch_message.specs.PathSteps.{sub_attribute_cleared_at}
use Rattle.scim_patch_message.specs.Readings.{both, joined}
use Rattle.scim_patch_message.specs.code.Inside.{read_of}
use Rattle.scim_patch_message.proofs.path_steps.push_sub_attributes_cleared.Given as goal

-- what is read and what is left to read make all
abbrev pub invariant-loop-sub_attribute : goal.invariant-loop-sub_attribute
invariant-loop-sub_attribute l =
    both (read_of l.fn.reading) (joined (map (sub_attribute_cleared_at l.kind l.attribute) l.sub_attributes))
    ≡ both (read_of l.reading) (joined (map (sub_attribute_cleared_at l.kind l.attribute) (drop l.sub_attribute-index l.sub_attributes)))
