use Rattle.std.proofs.Common.{◌∙◌, refl, ap, List, None}
use Rattle.scim_policy.specs.declared.decisions.AttributeDecisions.{AttributeDecisions}
use Rattle.scim_policy.specs.Table.{in_attributes}
use Rattle.scim_policy.proofs.TableLemmas.{pushed, empty_entry}
use Rattle.scim_policy.proofs.decisions.grow.Goals as goal

pub loop-alloc-preserved : goal.loop-alloc-preserved
loop-alloc-preserved c n sub =
    ap (λ (es : List AttributeDecisions). in_attributes n sub es) c.in_ok-push.ensures.items
    ∙ pushed n sub c.loop-alloc.entries.items (record { sub_attributes = c.new.result; whole = None }) (empty_entry sub (record { sub_attributes = c.new.result; whole = None }) c.new.ensures.items refl)
    ∙ c.loop-alloc.invariant n sub
