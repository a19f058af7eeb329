-- What a crash leaves after reads of a store.
use Rattle.std.specs.Prelude.{◌≡◌}
use Rattle.sqlite.specs.State.{State, Survives}
use Rattle.scim_shelf.specs.Stores.{Store}
use Rattle.scim_store_tables.specs.Tables.{store_schema}

-- If the database has exactly the six tables of version 2, and they represent a store, a crash leaves only a state
-- that a crash before the call could also leave.
abbrev pub SparesStore : (Store → Type 0) → State → State → Type 0
SparesStore Represents old new = Survives old new (λ _. old.now.schema ≡ store_schema → (store : Store) → Represents store → ⊥)
