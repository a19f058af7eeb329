-- What is read of a database that stands for no store, and what a look that leaves it untouched keeps.
use Rattle.std.proofs.Common.{List, ℕ}
use Rattle.sqlite.specs.Effect.{Database}
use Rattle.sqlite.specs.State.{State}
use Rattle.scim_store_tables.specs.Whole.{Is, AreNone, IsUntouched}
use Rattle.scim_store_tables.specs.declared.database_kinds.TableRows.{TableRows}
use Rattle.scim_store_tables.specs.declared.database_kinds.DatabaseKind.TheVariants.{WrongVersion, Foreign, Altered}
use Rattle.scim_store_tables.specs.declared.versions.Version.{Version}
use Rattle.scim_store_tables.proofs.Facts.{other_none, foreign_none, altered_none}
use Rattle.scim_store_rows.specs.Stands.{lists_of}
use Rattle.scim_store.specs.Committing.{Stays}
use Rattle.scim_store.specs.Opening.{StandForNoSound}

-- where the tables hold no rows of ours, they hold no store of any version
pub none_stand : (base : List ℕ) (db : Database) → AreNone db → StandForNoSound base db
none_stand base db none version store sound stands = none version (lists_of stands.entries store.audit) stands.tables

pub other_stand : (base : List ℕ) (db : Database) → Is db WrongVersion → StandForNoSound base db
other_stand base db is = none_stand base db (other_none db is)

pub foreign_stand : (base : List ℕ) (db : Database) → Is db Foreign → StandForNoSound base db
foreign_stand base db is = none_stand base db (foreign_none db is)

pub altered_stand : (base : List ℕ) (db : Database) (version : Version) (rows : TableRows) → Is db (Altered version rows) → StandForNoSound base db
altered_stand base db version rows is = none_stand base db (altered_none db version rows is)

pub untouched_stays : (old new : State) → IsUntouched old new → Stays old new
untouched_stays old new same = record {
  was_open = same.was_open;
  now = λ opened. (same.unchanged (same.was_open opened)).0.now_is;
  committed = λ opened. (same.unchanged (same.was_open opened)).0.committed_is;
}
