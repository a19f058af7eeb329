use Rattle.std.proofs.Common.{◌∙◌, ap, sym, arith}
use Rattle.scim_policy.specs.declared.decisions.AttributeDecisions.{AttributeDecisions}
use Rattle.scim_policy.specs.Table.{in_attribute}
use Rattle.scim_policy.proofs.TableLemmas.{at_entry, at_no_entry}
use Rattle.scim_policy.proofs.decisions.at_number.Goals as goal

pub returns-then-number-entries : goal.returns-then-number-entries
returns-then-number-entries c =
    c.decided.ensures
    ∙ ap (λ (e : AttributeDecisions). in_attribute c.args.sub_attribute e) c.index-entries-number.is
    ∙ sym (at_entry c.args.number c.args.sub_attribute c.args.entries.now _ c.if-number-entries.true)

pub returns-else-number-entries : goal.returns-else-number-entries
returns-else-number-entries c = sym (at_no_entry c.args.number c.args.sub_attribute c.args.entries.now (λ less. omega (arith, less)))
