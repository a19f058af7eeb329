-- What it is that a text means.
use Rattle.std.proofs.Common.{◌≡◌, List, [], ◌∷◌, ℕ}
use Rattle.sqlite.specs.Command.TheVariants.{Insert, Update, Delete}
use Rattle.sqlite.specs.Source.TheVariants.{Values}
use Rattle.sqlite.specs.Term.{Term, col}
use Rattle.sqlite.specs.Listing.{understood}
use Rattle.sqlite.proofs.Callers.{IsPlain, command_of}
use Rattle.scim_store_tables.specs.Tables.{store_schema}
use Rattle.scim_store_tables.specs.Queries.{one_table}

-- a text of SQL that puts one row into a table
pub record IsInsert (text : List ℕ) (place : ℕ) (terms : List Term) (width : ℕ) : Type 0 where
  pub command : command_of (understood store_schema text) ≡ Insert place (Values terms width)
  pub plain : IsPlain (understood store_schema text)

-- a text of SQL that takes the rows that pass tests out of a table
pub record IsDelete (text : List ℕ) (place tree : ℕ) (tests : List Term) : Type 0 where
  pub command : command_of (understood store_schema text) ≡ Delete place (record { lets = []; body = one_table tree tests (col 1 0 ∷ []) [] })
  pub plain : IsPlain (understood store_schema text)

-- a text of SQL that writes these columns to the rows of a table that pass tests
pub record IsUpdate (text : List ℕ) (place tree : ℕ) (tests columns : List Term) : Type 0 where
  pub command : command_of (understood store_schema text) ≡ Update place (record { lets = []; body = one_table tree tests (col 1 0 ∷ columns) [] })
  pub plain : IsPlain (understood store_schema text)
