-- The listing that a request for rows of the audit asks for.
use Rattle.std.specs.Prelude.{◌≡◌}
use Rattle.std.specs.Option.{option_copied}
use Rattle.scim_audit_listing.specs.declared.listings.Listing.{Listing}
use Rattle.scim_admin_text.specs.declared.audit_queries.AuditQuery.{AuditQuery}

-- the listing has the conditions, the portion and the form of the query
pub record Lists (q : AuditQuery) (l : Listing) : Type 0 where
  pub from : l.from ≡ q.from
  pub portion : l.portion ≡ q.portion
  pub client : option_copied l.filter.client ≡ q.client
  pub since : l.filter.since ≡ q.since
  pub refusal : l.filter.refusal ≡ q.refusal
  pub format : l.format ≡ q.format
