use Rattle.std.proofs.Common.{List, ℕ}
use Rattle.scim_value.specs.Resource.{HasBase}
use Rattle.scim_value.proofs.ValidityLemmas.{some_found}
use Rattle.scim_value.proofs.validity.is_located.Goals as goal

pub returns : goal.returns
returns c = rw c.is_some.ensures (some_found c.location_base.result (λ (base : List ℕ). HasBase base c.args.part.now) c.location_base.ensures)
