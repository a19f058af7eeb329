use Rattle.std.proofs.Common.{ap, ◌∙◌}
use Rattle.scim_value.specs.Changes.{without_cell}
use Rattle.scim_value.proofs.BaseLemmas.{base_without}
use Rattle.scim_value.proofs.resources.Resource.without.Goals as goal

pub returns-clause-base : goal.returns-clause-base
returns-clause-base c = λ other base has.
    base_without base c.args.leaf c.args.position c.args.self.now c.in_ok-of_part.field-0 c.part.ensures.valid.part
    (c.in_ok-of_part.ensures.value ∙ c.in_ok-part.ensures ∙ ap (without_cell c.args.leaf c.args.position) c.part.ensures.value) other has
