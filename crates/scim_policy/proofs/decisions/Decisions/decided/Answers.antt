use Rattle.std.proofs.Common.{◌≡◌, ◌∙◌, sym, ap, List, Option, None, Some}
use denote.Enum.Declared.{tag_of}
use Rattle.scim_schema.specs.contracts.Attribute.{the_type as the_attribute}
use Rattle.scim_policy.specs.declared.rules.Decision.{Decision}
use Rattle.scim_policy.specs.declared.decisions.AttributeDecisions.{AttributeDecisions}
use Rattle.scim_policy.specs.Table.{or_else}
use Rattle.scim_policy.specs.Table.{decided, in_attributes}
use Rattle.scim_policy.proofs.decisions.Decisions.decided.Goals as goal

pub returns-in-Some : goal.returns-in-Some
unfolding decided
returns-in-Some c =
    let own : Some c.in-Some.decision ≡ in_attributes (tag_of the_attribute c.args.leaf.attribute) c.args.leaf.sub_attribute c.args.self.now.attributes.items =
    sym c.in-Some.is ∙ c.at_number.ensures ∙ ap (λ (es : List AttributeDecisions). in_attributes (tag_of the_attribute c.args.leaf.attribute) c.args.leaf.sub_attribute es) c.as_slice.ensures.value in
    ap (λ (o : Option Decision). or_else o c.args.self.now.rest) own

pub returns-in-None : goal.returns-in-None
unfolding decided
returns-in-None c =
    let own : None ≡ in_attributes (tag_of the_attribute c.args.leaf.attribute) c.args.leaf.sub_attribute c.args.self.now.attributes.items =
    sym c.in-None.is ∙ c.at_number.ensures ∙ ap (λ (es : List AttributeDecisions). in_attributes (tag_of the_attribute c.args.leaf.attribute) c.args.leaf.sub_attribute es) c.as_slice.ensures.value in
    ap (λ (o : Option Decision). or_else o c.args.self.now.rest) own
