-- The parts of a shelf over a database.
use Rattle.std.specs.Prelude.{ℕ, List}
use Rattle.sqlite_trees.specs.declared.store.Store.{Ghosts}
use Rattle.sqlite.specs.Held.{Held}
use Rattle.scim_store.specs.declared.sql_shelf.SqlShelf.{SqlShelf}

-- The connection of a shelf.
abbrev pub connection_of : {S : Type 0} {g : Ghosts S} → SqlShelf S g → Held S
connection_of shelf = shelf.connection

-- The base URI of the locations of the resources of a shelf.
abbrev pub base_of : {S : Type 0} {g : Ghosts S} → SqlShelf S g → List ℕ
base_of shelf = shelf.base

-- The number of audit rows, as a shelf counts them.
abbrev pub rows_of : {S : Type 0} {g : Ghosts S} → SqlShelf S g → ℕ
rows_of shelf = shelf.rows
