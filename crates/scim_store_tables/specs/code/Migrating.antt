-- The two steps of the migration.
use Rattle.std.specs.Prelude.{◌≡◌, ◌≢◌, ℕ, [], ◌∷◌}
use Rattle.sqlite.specs.Change.{KeepsRows}
use Rattle.sqlite.specs.Edit.{IsNoIndex}
use Rattle.sqlite.specs.Effect.{Database}
use Rattle.scim_store_tables.specs.Tables.{old_schema, store_schema}
use Rattle.scim_store_tables.specs.Lists.{IsTableOf, pair, version_values}
use Rattle.scim_store_tables.specs.declared.versions.Version.TheVariants.{One, Two}

-- The database gets the table `secret`, which has no rows. The rows of the other tables stay.
pub record AddsSecret (old new : Database) : Type 0 where
  pub schema_is : new.schema ≡ store_schema
  pub empty : new.trees 9 ≡ []
  pub others : KeepsRows old_schema.tables old.trees new.trees

-- In the row of `setting` that names version 1, the number becomes 2. The rows of the other tables stay.
pub record SetsVersion (old new : Database) : Type 0 where
  pub schema_is : new.schema ≡ store_schema
  pub version : IsTableOf pair (new.trees 0) (version_values Two ∷ [])
  pub others : (t : ℕ) → t ≢ 0 → IsNoIndex store_schema t → new.trees t ≡ old.trees t

-- A database with the tables of version 1 gets the table `secret`.
abbrev pub MayAddSecret : Database → Database → Type 0
MayAddSecret old new = old.schema ≡ old_schema → AddsSecret old new

-- A database with the tables of version 2 that names version 1 gets the number 2.
abbrev pub MaySetVersion : Database → Database → Type 0
MaySetVersion old new = old.schema ≡ store_schema → IsTableOf pair (old.trees 0) (version_values One ∷ []) → SetsVersion old new
