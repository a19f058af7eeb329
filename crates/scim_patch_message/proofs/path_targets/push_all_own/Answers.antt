use Rattle.std.proofs.Common.{◌∙◌}
use Rattle.scim_patch_message.specs.PathSteps.{own_removed}
use Rattle.scim_patch_message.specs.code.Inside.{read_of}
use Rattle.scim_patch_message.proofs.BothLemmas.{read_next}
use Rattle.scim_patch_message.proofs.path_targets.push_all_own.Goals as goal

pub loop-attribute-preserved : goal.loop-attribute-preserved
loop-attribute-preserved c =
    c.loop-attribute.invariant
    ∙ read_next (own_removed c.args.kind c.args.schema) c.args.attributes.now c.loop-attribute.attribute-index _ c.loop-attribute-test.true
    (read_of c.loop-attribute.reading) (read_of c.push_own.new.reading) c.in_ok-push_own.ensures
