use Rattle.std.proofs.Common.{◌≡◌, drop}
use Rattle.std.specs.List.{list_any}
use Rattle.scim_body.specs.View.{members_view}
use Rattle.scim_schema.specs.declared.SubAttribute.{SubAttribute}
use Rattle.scim_schema.specs.Names.{sub_attribute_name}
use Rattle.scim_body.specs.BodyNames.{is_twice}
use Rattle.scim_body.proofs.repeated_keys.sub_attributes_clash.Given as goal

-- those that are left decide
abbrev pub invariant-loop-sub_attribute : goal.invariant-loop-sub_attribute
invariant-loop-sub_attribute l =
    list_any (λ (b : SubAttribute). is_twice (sub_attribute_name b) (members_view l.members)) (drop l.sub_attribute-index l.sub_attribute-items)
    ≡ list_any (λ (b : SubAttribute). is_twice (sub_attribute_name b) (members_view l.members)) l.sub_attribute-items
