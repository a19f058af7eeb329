-- What other crates may use of the proofs here.
pub use Rattle.scim_audit_listing.proofs.FilteredLemmas.{last_all, lines_parts, take_parts}
pub use Rattle.scim_audit_listing.proofs.ListingLemmas.{fitting_block, fitting_fewer, fitting_first, fitting_last, fitting_none}
pub use Rattle.scim_audit_listing.proofs.PlainLemmas.{plain_consecutive}
