-- What a command that reads a store leaves in the database.
use Rattle.std.proofs.Common.{◌≡◌, ℕ, List, sym, subst, inl, inr, arith}
use Rattle.std.specs.Prelude.{Result, IfErr}
use Rattle.sqlite.specs.Effect.{Database}
use Rattle.sqlite.specs.State.{State, HasCleanDisk, Survives}
use Rattle.sqlite.proofs.StateLemmas.{survives_then}
use Rattle.scim_shelf.specs.Stores.{Store, AreKeyed}
use Rattle.scim_shelf.proofs.Facts.{keyed_nil}
use Rattle.scim_store.specs.Shelves.{HasOpened, IsKeptIn, LeavesBegun, Opens}
use Rattle.scim_command.specs.declared.command_faults.CommandFault.{CommandFault}
use Rattle.scim_command.specs.declared.faults.RunFault.{RunFault}
use Rattle.scim_command_database.specs.Audit.{SparesStore}
use Rattle.scim_command_database.specs.Works.{KeepsStoreOf, Reads, program_result}

-- the resources of an opened store are in order and share no unique name
pub opened_keyed : (base : List ℕ) (db : Database) (store : Store) → Opens base db store → AreKeyed store.resources
opened_keyed base db store opens = elim opens [
  | inl new ↦ subst (λ (s : Store). AreKeyed s.resources) (sym new.1) keyed_nil
  | inr found ↦ found.1.keyed
]

-- a call that keeps the store of an opened database, where `Holds` is true of that store
pub opened_kept : (base its below : List ℕ) (old mid new : State) (rows later : ℕ) (Holds : Store → Type 0) → its ≡ base
    → (HasCleanDisk new → HasCleanDisk mid)
    → (HasCleanDisk mid → (store : Store) × HasOpened base old.now mid rows store)
    → ((store : Store) → AreKeyed store.resources → IsKeptIn its mid rows store → IsKeptIn below new later store)
    → ((store : Store) → IsKeptIn its mid rows store → HasCleanDisk new → Holds store)
    → KeepsStoreOf base old new Holds
opened_kept base its below old mid new rows later Holds same earlier opened keeps holds clean =
    let found = opened (earlier clean) in
    let store = found.0 in
    let keyed = opened_keyed base old.now store found.1.opens in
    let stands = subst (λ (b : List ℕ). IsKeptIn b mid rows store) (sym same) found.1.kept in
    (store, record { opens = found.1.opens; holds = (below, (keeps store keyed stands).stored clean) }, holds store stands clean)

-- the same call, as a command with its result
pub ran_over : (base its below : List ℕ) (old mid new : State) (rows later : ℕ) (IsFault : RunFault → Type 0) (Holds : Result (Unit {0}) RunFault → Store → Type 0) (done : Result (Unit {0}) RunFault) (result : Result (Unit {0}) CommandFault) → its ≡ base
    → result ≡ program_result done
    → IfErr done IsFault
    → (HasCleanDisk new → HasCleanDisk mid)
    → (HasCleanDisk mid → (store : Store) × HasOpened base old.now mid rows store)
    → ((store : Store) → IsKeptIn its mid rows store → IsKeptIn below new later store)
    → ((store : Store) → IsKeptIn its mid rows store → HasCleanDisk new → Holds done store)
    → Reads base IsFault Holds old new result
ran_over base its below old mid new rows later IsFault Holds done result same is faults earlier opened keeps holds = inr (
  done,
  is,
  record { holds = opened_kept base its below old mid new rows later (Holds done) same earlier opened (λ store _ stands. keeps store stands) holds; faults = faults },
)

-- a crash during reads of an opened store leaves what opening it may leave
pub opened_spared : (base its : List ℕ) (old mid new : State) (rows : ℕ) → its ≡ base → Survives old mid (LeavesBegun base old)
    → (HasCleanDisk mid → (store : Store) × HasOpened base old.now mid rows store) → SparesStore (IsKeptIn its mid rows) mid new → Survives old new (LeavesBegun base old)
opened_spared base its old mid new rows same begun opened spares =
    survives_then old mid new (LeavesBegun base old) _ (LeavesBegun base old) (λ clean db left. left)
    (λ clean db none.
    let found = opened (omega (arith, clean, spares.clean)) in
    let stored = found.1.kept.stored (omega (arith, clean, spares.clean)) in
    absurd (none (stored.stands found.1.is_open).tables.schema found.0 (subst (λ (b : List ℕ). IsKeptIn b mid rows found.0) (sym same) found.1.kept))) begun spares
