use Rattle.std.proofs.Common.{ap, ◌∙◌}
use Rattle.scim_value.specs.Changes.{with_cell}
use Rattle.scim_value.proofs.BaseLemmas.{base_with}
use Rattle.scim_value.proofs.resources.Resource.with.Goals as goal

pub returns-clause-base : goal.returns-clause-base
returns-clause-base c = λ other base has.
    base_with base c.args.leaf c.args.position c.args.atom c.args.self.now c.in_ok-of_part.field-0
    (c.in_ok-of_part.ensures.value ∙ c.in_ok-part.ensures.ok ∙ ap (with_cell c.args.leaf c.args.position c.args.atom) c.part.ensures.value) other has
