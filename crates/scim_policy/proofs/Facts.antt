-- What other crates may use of the proofs here.
pub use Rattle.scim_policy.proofs.ControlLemmas.{PassesNames, decide_same, kept_rows, patterns_same, truth_kept}
pub use Rattle.scim_policy.proofs.NumberLemmas.{same_decisions_same_rules}
pub use Rattle.scim_policy.proofs.OpenedLemmas.{not_opened}
pub use Rattle.scim_policy.proofs.PatternLawLemmas.{groups_undivided, plain_once, positions_by_value, single_undivided, some_allows, some_allows_for, some_allows_in, undivided_decision, undivided_pattern, whole_one, wholes_allow}
pub use Rattle.scim_policy.proofs.RuleLemmas.{decide_other, decide_reading}
