-- What other crates may use of the proofs here.
pub use Rattle.scim_store_tables.proofs.OrderLemmas.{order_rising, told_rising}
pub use Rattle.scim_store_tables.proofs.WholeLemmas.{rows_of, holds_lists, other_none, foreign_none, altered_none, altered_rows, altered_further, tables_rows, same_version}
pub use Rattle.scim_store_tables.proofs.TestLemmas.{text_of, passes_text}
pub use Rattle.scim_store_tables.proofs.StepLemmas.{goes_then, if_then, both_then, if_both, HasDone, does_nothing, does_less, does_then, does_failed, fails_then, does_both, does_by, any_ok, any_err}
pub use Rattle.scim_store_tables.proofs.AnswerLemmas.{answered_columns, found_first, unchanged_rests, asks_spare, shown_open, answered, failed_rests}
pub use Rattle.scim_store_tables.proofs.ReadLemmas.{Answered, rows_told, resources_told}
pub use Rattle.scim_store_tables.proofs.ToldLemmas.{both_unchanged, err_behind}
pub use Rattle.scim_store_tables.proofs.AskLemmas.{resources_text, asks_resources}
pub use Rattle.scim_store_tables.proofs.UniqueLemmas.{HaveOwnText, HaveOwnTexts, ids_once, names_once}
