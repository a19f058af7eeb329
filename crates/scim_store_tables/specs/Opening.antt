-- The creation of the tables in an empty database.
use Rattle.std.specs.Prelude.{◌≡◌}
use Rattle.sqlite.specs.Effect.{Database}
use Rattle.scim_store_tables.specs.Tables.{no_schema}
use Rattle.scim_store_tables.specs.Lists.{Are, no_rows}

-- A database without tables, indexes and views becomes a database with the six tables. They have no rows
-- except the one in `setting` with the version.
abbrev pub MakesTables : Database → Database → Type 0
MakesTables old new = old.schema ≡ no_schema → Are new no_rows
