use Rattle.std.proofs.Common.{◌≡◌, drop}
use Rattle.std.specs.List.{list_any}
use Rattle.std.specs.Prelude.{◌&&◌}
use Rattle.std.specs.Option.{option_eq}
use denote.Enum.Bare.{sameb}
use Rattle.scim_body.specs.View.{members_view}
use Rattle.scim_schema.specs.declared.Attribute.{Attribute}
use Rattle.scim_schema.specs.contracts.schema_urns.Schema.{the_type as the_schema}
use Rattle.scim_schema.specs.Schemas.{extension_of}
use Rattle.scim_body.specs.BodyNames.{attribute_clashes}
use Rattle.scim_body.proofs.repeated_keys.schema_clashes.Given as goal

-- those that are left decide
abbrev pub invariant-loop-attribute : goal.invariant-loop-attribute
invariant-loop-attribute l =
    list_any (λ (a : Attribute). option_eq (sameb the_schema) (extension_of a) l.schema && attribute_clashes l.kind (members_view l.members) a) (drop l.attribute-index l.attribute-items)
    ≡ list_any (λ (a : Attribute). option_eq (sameb the_schema) (extension_of a) l.schema && attribute_clashes l.kind (members_view l.members) a) l.attribute-items
