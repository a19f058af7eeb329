-- The empty store of a new database.
use Rattle.std.specs.Prelude.{◌≡◌, ℕ, List, []}
use Rattle.sqlite.specs.Effect.{Database}
use Rattle.scim_shelf.specs.Stores.{Store}
use Rattle.scim_store_tables.specs.Tables.{no_schema}
use Rattle.scim_store_rows.specs.Stands.{StandsFor}

-- A store without resources and audit rows.
abbrev pub no_store : Store
no_store = record { resources = []; audit = [] }

-- A database without tables, indexes and views becomes a database with the six tables, which hold an empty
-- store.
abbrev pub Begins : Database → Database → Type 0
Begins old new = old.schema ≡ no_schema → (base : List ℕ) → StandsFor base new no_store
