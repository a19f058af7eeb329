-- The listing that a query asks for.
use Rattle.std.proofs.Common.{◌≡◌, ℕ, List, Option, None, Some, refl, sym, ◌∙◌}
use Rattle.std.specs.Prelude.{◌&&◌, filter, option_map}
use Rattle.std.specs.List.{enumerate_from}
use Rattle.std.specs.Option.{option_copied}
use Rattle.scim_audit.specs.declared.audit_rows.AuditRow.{AuditRow}
use Rattle.scim_audit_listing.specs.declared.listings.Listing.{Listing}
use Rattle.scim_audit_listing.specs.Filters.{fits, has_refusal, is_of_client, is_since}
use Rattle.scim_audit_listing.specs.Listings.{Numbered, fitting_rows}
use Rattle.scim_admin_text.specs.declared.audit_queries.AuditQuery.{AuditQuery}
use Rattle.scim_admin_text.specs.Listings.{Lists}
use Rattle.scim_admin_streams.specs.AuditJobs.{filter_of, reference_to}

same_name : (name : Option (List ℕ)) → option_copied (option_map reference_to name) ≡ name
same_name None = refl
same_name (Some name) = refl

module _ (q : AuditQuery) (l : Listing) (lists : Lists q l) where
  -- the rows that fit are the same
  fits_same : (row : AuditRow) → fits l.filter row ≡ fits (filter_of q) row
  fits_same row =
      let client = lists.client ∙ sym (same_name q.client) in
      (λ i. is_of_client (client i) row.client && is_since (lists.since i) row.moment && has_refusal (lists.refusal i) row.refusal)

  pub fitting_same : (n : ℕ) (rows : List AuditRow) → fitting_rows l.filter n rows ≡ fitting_rows (filter_of q) n rows
  fitting_same n rows = (λ i. filter (λ (x : Numbered). fits_same x.1 i) (enumerate_from n rows))
