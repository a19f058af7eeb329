use Rattle.std.proofs.Common.{ap, refl}
use Rattle.std.specs.Option.{option_copied}
use Rattle.scim_value.specs.Resource.{location}
use Rattle.scim_value.proofs.ValidityLemmas.{base_found}
use Rattle.scim_value.proofs.validity.location_base.Goals as goal

pub returns-in_err-location : goal.returns-in_err-location
returns-in_err-location c base = (
  λ s. cc (ap option_copied c.from_residual.ensures),
  λ h. cc ((c.in_err-location.ensures (location base c.args.part.now.kind c.args.part.now.id)).1 (rw c.of.ensures h)),
)

pub returns : goal.returns
returns c =
    base_found c.args.part.now c.in_ok-location.location.now _
    (rw c.of.ensures at ((c.in_ok-location.ensures c.in_ok-location.location.now).0 refl))
    (rw (← c.id.ensures, ← c.write.ensures.value, ← c.kind.ensures) c.base_of.ensures)
