-- What a commit leaves of a store.
use Rattle.std.proofs.Common.{◌≡◌, ◌≢◌, true, ◌∙◌, sym, subst, refl, ap, ℕ, List, Option, arith}
use Rattle.sqlite.specs.Effect.{Database}
use Rattle.sqlite.specs.State.{State, HasCleanDisk, Survives}
use Rattle.sqlite.specs.Tree.{Trees}
use Rattle.sqlite.specs.Held.{Held, state}
use Rattle.sqlite.proofs.Callers.{survives_begin}
use Rattle.sqlite.proofs.StateLemmas.{survives_then, survives_weaker}
use Rattle.sqlite_trees.specs.declared.store.Store.{Ghosts}
use Rattle.scim_cell.specs.Content.{Content}
use Rattle.scim_audit.specs.declared.audit_rows.AuditRow.{AuditRow}
use Rattle.scim_shelf.specs.declared.changes.Change.{Change}
use Rattle.scim_shelf.specs.Stores.{Store, IsOld, after}
use Rattle.scim_store_tables.specs.Audit.{audit_values}
use Rattle.scim_store_tables.specs.declared.audit.AuditColumns.{AuditColumns}
use Rattle.scim_store_tables.specs.Tables.{store_schema}
use Rattle.scim_store_tables.specs.Reading.{Spares}
use Rattle.scim_store_tables.specs.Steps.{Leaves}
use Rattle.scim_store.specs.declared.edits.Edits.{Edits}
use Rattle.scim_store_rows.specs.Audit.{audit_row}
use Rattle.scim_store.specs.Edits.{AreEdits, Writes}
use Rattle.scim_store.specs.Committing.{IsDue, IsDueOver, Stays, Changes, StandForNone}
use Rattle.scim_store_rows.specs.Finding.{StandsIn}
use Rattle.scim_store_rows.specs.Stands.{StandsFor}

-- ---- what a crash leaves

-- a transaction and its commit
pub transaction_survives : {S : Type 0} (g : Ghosts S) (P : Database → Database → Type 0) (old : Held S) (last end : State) → Survives (state g (record old { in_transaction = true })) last (λ _. ⊥) → (HasCleanDisk last → P (state g old).now last.now)
    → Survives last end (λ trees. trees ≡ last.now.trees) → Survives (state g old) end (Leaves P (state g old).now)
transaction_survives g P old last end ran_on ran commits =
    survives_then (state g old) last end _ _ _ (λ _ trees none. absurd none) (λ clean trees is. (last.now, is, ran (omega (arith, commits.clean)))) (survives_begin g old last _ ran_on) commits

foreign_none : (base : List ℕ) (db : Database) → db.schema ≢ store_schema → StandForNone base db
foreign_none base db foreign store stands = foreign stands.tables.schema

-- a look is no change
looked_survives : (base : List ℕ) (next : Store → Store) (May : Store → Type 0) (db : Database) (trees : Trees) → db.schema ≢ store_schema → Leaves (Changes base next May) db trees
looked_survives base next May db trees foreign = (record { schema = store_schema; trees = trees }, refl, λ store stands may. absurd (foreign_none base db foreign store stands))

pub look_survives : (base : List ℕ) (next : Store → Store) (May : Store → Type 0) (a b : State) → Spares a b → Survives a b (Leaves (Changes base next May) a.now)
look_survives base next May a b = survives_weaker a b _ _ (λ _ trees foreign. looked_survives base next May a.now trees foreign)

-- ---- what a change makes, where it is known what there is of its id

pub written : (base : List ℕ) (change : Change) (row : AuditRow) (old : Option Content) (edits : Option Edits) (number : ℕ) (columns : AuditColumns) → audit_values columns ≡ audit_row number row
    → ((store : Store) → IsOld store.resources change old → AreEdits base store.resources change edits) → (before behind : Database) → Writes edits columns before behind
    → Changes base (after change row) (IsDueOver old change number) before behind
written base change row old edits number columns are edit before behind writes store stands it = writes.stands base store change row stands it.due.can (edit store it.was) (are ∙ ap (λ n. audit_row n row) it.due.next)

-- ---- what it makes, once that has been looked up

module _ (base : List ℕ) (change : Change) (row : AuditRow) (old : Option Content) (number : ℕ) (a b c : State)
    (found : HasCleanDisk c → (store : Store) → StandsIn base a store → IsOld store.resources change old × Stays a b × (b.now ≡ a.now)) where
  pub then_survives : Spares a b → Survives b c (Leaves (Changes base (after change row) (IsDueOver old change number)) b.now)
      → Survives a c (Leaves (Changes base (after change row) (IsDue change number)) a.now)
  then_survives = survives_then a b c _ _ _ (λ _ trees foreign. looked_survives base (after change row) (IsDue change number) a.now trees foreign) (λ clean trees leaves. (
    leaves.0,
    leaves.1,
    λ store stands due. (let it = found clean store (λ _. stands) in leaves.2 store (subst (λ (db : Database). StandsFor base db store) (sym it.2) stands) (record { due = due; was = it.0 })),
  ))
