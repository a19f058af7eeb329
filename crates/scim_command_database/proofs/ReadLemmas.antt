-- What a crash leaves after reads of a store, one after another.
use Rattle.std.proofs.Common.{◌≡◌, ◌∙◌, arith}
use Rattle.sqlite.specs.State.{State, HasCleanDisk}
use Rattle.sqlite.proofs.StateLemmas.{survives_then}
use Rattle.scim_shelf.specs.Stores.{Store}
use Rattle.scim_store_tables.specs.Reading.{Spares}
use Rattle.scim_command_database.specs.Audit.{SparesStore}

module _ (Represents : Store → Type 0) (a b c : State) (same : (store : Store) → Represents store → HasCleanDisk b → b.now.schema ≡ a.now.schema) where
  -- one read more, where the tables are as they were
  pub spares_more : SparesStore Represents a b → Spares b c → SparesStore Represents a c
  spares_more one two =
      survives_then a b c _ _ _ (λ _ db none. none) (λ clean db altered. λ schema store kept. altered (same store kept (omega (arith, clean, two.clean)) ∙ schema)) one two

  -- reads behind reads
  pub spares_both : (After : Store → Type 0) → ((store : Store) → Represents store → After store) → SparesStore Represents a b → SparesStore After b c → SparesStore Represents a c
  spares_both After keeps one two =
      survives_then a b c _ _ _ (λ _ db none. none) (λ clean db none. λ schema store kept. none (same store kept (omega (arith, clean, two.clean)) ∙ schema) store (keeps store kept)) one two
