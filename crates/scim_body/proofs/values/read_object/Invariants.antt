use Rattle.std.proofs.Common.{◌≡◌, ◌++◌, drop, option_map}
use Rattle.scim_body.specs.View.{members_view}
use Rattle.scim_body.specs.BodyValues.{collected, field_in}
use Rattle.scim_body.proofs.values.read_object.Given as goal

-- the fields that are read and those of the sub-attributes that are left make the whole
abbrev pub invariant-loop-sub_attribute : goal.invariant-loop-sub_attribute
invariant-loop-sub_attribute l =
    collected (field_in l.kind l.attribute (members_view l.members)) l.sub_attribute-items
    ≡ option_map (λ more. l.fields.items ++ more) (collected (field_in l.kind l.attribute (members_view l.members)) (drop l.sub_attribute-index l.sub_attribute-items))
