use Rattle.std.proofs.Common.{◌≢◌, ◌<◌, ℕ, slice_index_or}
use Rattle.scim_store_tables.specs.Lists.{version_values}
use Rattle.scim_store_tables.proofs.database_kinds.names_version.Given as goal

abbrev pub invariant-loop-row : goal.invariant-loop-row
invariant-loop-row l = (k : ℕ) → k < l.row-index → slice_index_or l.rows k (version_values l.fn.version) ≢ version_values l.fn.version
