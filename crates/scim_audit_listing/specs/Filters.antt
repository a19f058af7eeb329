-- Which rows of the audit a listing shows.
use Rattle.std.specs.Prelude.{ℕ, ◌==◌, ◌&&◌, nat_le, List, Bool, true, false, Option, None, Some}
use Rattle.std.specs.Option.{option_copied}
use Rattle.scim_schema.specs.Lookup.{is_same_text}
use Rattle.scim_audit.specs.declared.refusals.Refusal.{Refusal}
use Rattle.scim_audit.specs.declared.audit_rows.AuditRow.{AuditRow}
use Rattle.scim_audit.specs.Refusals.{number_of}
use Rattle.scim_audit_listing.specs.declared.filters.AuditFilter.{AuditFilter}

-- whether the client has this name, if one is given
abbrev pub is_of_client : Option (List ℕ) → List ℕ → Bool
is_of_client None client = true
is_of_client (Some name) client = is_same_text name client

-- whether the moment is at or after `since`, if that is given
abbrev pub is_since : Option ℕ → ℕ → Bool
is_since None moment = true
is_since (Some since) moment = nat_le since moment

-- whether there is a refusal with this number, if a number is given
abbrev pub has_refusal : Option ℕ → Option Refusal → Bool
has_refusal None refusal = true
has_refusal (Some number) None = false
has_refusal (Some number) (Some refusal) = number_of refusal == number

-- whether the row satisfies each condition that is given
abbrev pub fits : AuditFilter → AuditRow → Bool
fits filter row =
    is_of_client (option_copied filter.client) row.client && is_since filter.since row.moment && has_refusal filter.refusal row.refusal
