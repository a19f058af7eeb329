use Rattle.std.proofs.Common.{◌≡◌, drop}
use Rattle.std.specs.List.{list_any}
use denote.Enum.Bare.{sameb}
use Rattle.scim_schema.specs.declared.SubAttribute.{SubAttribute}
use Rattle.scim_schema.specs.declared.SubAttribute.TheVariants.{Value}
use Rattle.scim_schema.specs.contracts.SubAttribute.{the_type as the_sub_attribute}
use Rattle.scim_body.proofs.values.has_value.Given as goal

-- those that are left decide
abbrev pub invariant-loop-sub_attribute : goal.invariant-loop-sub_attribute
invariant-loop-sub_attribute l =
    list_any (λ (b : SubAttribute). sameb the_sub_attribute b Value) (drop l.sub_attribute-index l.sub_attribute-items)
    ≡ list_any (λ (b : SubAttribute). sameb the_sub_attribute b Value) l.sub_attribute-items
