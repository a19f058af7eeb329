-- What other crates may use of the proofs here.
pub use Rattle.scim_patch_steps.proofs.LawLemmas.{patching_rests_on_its_units}
pub use Rattle.scim_patch_steps.proofs.OutcomeLemmas.{applied_sound}
pub use Rattle.scim_patch_steps.proofs.StandLemmas.{same_content}
