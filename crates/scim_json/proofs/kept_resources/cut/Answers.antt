use Rattle.std.proofs.Common.{[], sym, ap, subst, ◌∙◌}
use Rattle.scim_schema.specs.declared.Attribute.TheVariants.{DoorCode}
use Rattle.scim_schema.specs.Units.{whole}
use Rattle.scim_cell.specs.Content.{Content}
use Rattle.scim_value.specs.Changes.{with_values}
use Rattle.scim_value.specs.Resource.{IsResource}
use Rattle.scim_json.proofs.KeptParts.{cut_is, rest_resource}
use Rattle.scim_json.proofs.kept_resources.cut.Goals as goal

pub of_whole-requires : goal.of_whole-requires
of_whole-requires c =
    let rest = c.in_ok-rest.ensures.whole ∙ (λ i. with_values (c.whole.ensures i) (c.new.ensures.items i) (c.in_ok-part.ensures i))
    ∙ ap (λ (p : Content). with_values (whole DoorCode) [] p) c.part.ensures.value ∙ cut_is c.args.resource.now c.part.ensures.valid in
    subst IsResource (sym rest) (rest_resource c.args.resource.now c.part.ensures.valid)

pub returns-clause-rest : goal.returns-clause-rest
returns-clause-rest c =
    c.of_whole.ensures ∙ c.in_ok-rest.ensures.whole ∙ (λ i. with_values (c.whole.ensures i) (c.new.ensures.items i) (c.in_ok-part.ensures i))
    ∙ ap (λ (p : Content). with_values (whole DoorCode) [] p) c.part.ensures.value ∙ cut_is c.args.resource.now c.part.ensures.valid
