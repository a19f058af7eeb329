-- What a crash leaves after a read, step by step.
use Rattle.std.proofs.Common.{◌≡◌, ◌∙◌, ap, refl, inl, arith}
use Rattle.sqlite.specs.Effect.{Database}
use Rattle.sqlite.specs.State.{State, HasCleanDisk, IsUnchanged, Survives}
use Rattle.sqlite.proofs.StateLemmas.{survives_then}
use Rattle.scim_store_tables.specs.Tables.{store_schema}
use Rattle.scim_store_tables.specs.declared.versions.Version.{Version}
use Rattle.scim_store_tables.specs.Reading.{HasTables, Spares, SparesIn}

-- where nothing is done, a crash leaves what it left before
pub spares_itself : (s : State) → Spares s s
spares_itself s = record {
  clean = omega arith;
  shield = λ shielded. shielded;
  counts = omega arith;
  limit = refl;
  closes = λ _ opened. inl opened;
  crash = λ _ db left. inl left;
}

-- a read that changes nothing keeps the tables
pub keeps_tables : (a b : State) → (HasTables a → IsUnchanged a b) → a.now.schema ≡ store_schema → b.now.schema ≡ store_schema
keeps_tables a b same has = ap (λ (d : Database). d.schema) (same (λ _. has)).0.now_is ∙ has

-- one read behind another
pub spares_then : (a b c : State) → Spares a b → (HasCleanDisk b → a.now.schema ≡ store_schema → b.now.schema ≡ store_schema) → Spares b c → Spares a c
spares_then a b c one keeps two = survives_then a b c _ _ _ (λ _ db other. other) (λ clean db other has. other (keeps (omega (arith, clean, two.clean)) has)) one two

-- a step of a query commits nothing
pub spares_step : (v : Version) (a b c : State) → SparesIn v a b → Survives b c (λ _. ⊥) → SparesIn v a c
spares_step v a b c one two = survives_then a b c _ _ _ (λ _ db other. other) (λ _ db none. absurd none) one two
