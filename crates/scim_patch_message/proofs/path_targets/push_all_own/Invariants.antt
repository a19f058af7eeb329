use Rattle.std.proofs.Common.{◌≡◌, drop, map}
use Rattle.scim_patch_message.specs.PathSteps.{own_removed}
use Rattle.scim_patch_message.specs.Readings.{both, joined}
use Rattle.scim_patch_message.specs.code.Inside.{read_of}
use Rattle.scim_patch_message.proofs.path_targets.push_all_own.Given as goal

-- the steps read so far, with those of the remaining attributes, are the steps of all attributes
abbrev pub invariant-loop-attribute : goal.invariant-loop-attribute
invariant-loop-attribute l =
    both (read_of l.fn.reading) (joined (map (own_removed l.kind l.schema) l.attributes))
    ≡ both (read_of l.reading) (joined (map (own_removed l.kind l.schema) (drop l.attribute-index l.attributes)))
