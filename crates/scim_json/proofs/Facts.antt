-- What other crates may use of the proofs here.
pub use Rattle.scim_json.proofs.Shapes.{fits}
pub use Rattle.scim_json.proofs.Ascending.{IsKept, AreKept, AreKept-item, IsKept-array}
pub use Rattle.scim_json.proofs.Kept.{data_of-IsKept}
pub use Rattle.scim_json.proofs.Back.{documents_are_apart}
pub use Rattle.scim_json.proofs.KeptParts.{group_code, kept_of, kept_parts_determine, kept_whole, no_site_code, rest_resource}
