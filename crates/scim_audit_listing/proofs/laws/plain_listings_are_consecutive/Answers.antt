use Rattle.scim_audit_listing.proofs.PlainLemmas.{plain_consecutive}
use Rattle.scim_audit_listing.proofs.laws.plain_listings_are_consecutive.Goals as goal

pub returns : goal.returns
returns c = plain_consecutive
