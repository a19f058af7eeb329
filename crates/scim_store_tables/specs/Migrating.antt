-- The migration of the tables from version 1 to version 2.
use Rattle.sqlite.specs.Effect.{Database}
use Rattle.scim_store_tables.specs.Lists.{Lists, AreOld, Are}

-- Tables of version 1 become tables of version 2 with exactly the same rows. The new table `secret` has no rows.
pub record Migrates (old new : Database) : Type 0 where
  pub migrated : (lists : Lists) → AreOld old lists → Are new lists
  pub same : (lists other : Lists) → AreOld old lists → Are new other → AreOld old other
