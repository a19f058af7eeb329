-- The shelf over a database: its count of failures, and what its commits leave.
use Rattle.std.proofs.Common.{◌≡◌, ◌≤◌, ◌+◌, ℕ, List, Result, Ok, Err, inl, inr, sym, ap, subst, arith, length}
use Rattle.std.specs.Prelude.{min, OnOk, IfOk}
use Rattle.std.proofs.lemmas.Bool.Decides.{eqb_tells}
use Rattle.std.proofs.lemmas.Result.{on_ok_weaker}
use Rattle.sqlite.specs.State.{State, HasCleanDisk, Survives}
use Rattle.sqlite.specs.Tree.{Trees}
use Rattle.sqlite.specs.View.{doubt}
use Rattle.sqlite.proofs.StateLemmas.{survives_weaker}
use Rattle.scim_text.specs.declared.memory.Failed.TheVariants.{Because}
use Rattle.scim_shelf.specs.declared.changes.Change.{Change}
use Rattle.scim_shelf.specs.declared.faults.ShelfFault.TheVariants.{Device}
use Rattle.scim_shelf.specs.Shelves.{count_after}
use Rattle.scim_shelf.specs.Stores.{Store, CanKeep}
use Rattle.scim_store_tables.specs.Steps.{Leaves}
use Rattle.scim_store.specs.Committing.{HasStore, IsDue, AreOf, Changes}
use Rattle.scim_store.specs.Shelves.{IsKeptIn, CommitsWhole}
use Rattle.scim_shelf.specs.declared.commits.Commit.{Commit}
use Rattle.scim_shelf.specs.Commits.{CanKeepAll, AreOld, after_all}
use Rattle.scim_store.specs.Commits.{AreDue}
use Rattle.scim_shelf.proofs.Facts.{rows_after}

-- a disk that gives back what was written did so before
pub clean_before : (old new : State) → doubt old.is_clean ≤ doubt new.is_clean → HasCleanDisk new → HasCleanDisk old
clean_before old new grows clean = omega (arith, grows, clean)

-- ---- the count of failures

-- a sum that saturates counts one failure
pub saturates : (n : ℕ) → n ≤ 18446744073709551615 → min (n + 1) 18446744073709551615 ≡ count_after n (Because Device)
saturates n low = elim (eqb_tells n 18446744073709551615) [
  | inl same ↦ rw same.0 (omega (arith, same.1))
  | inr other ↦ rw other.0 (omega (arith, low, other.1))
]

-- ---- what a commit leaves

-- the result of the commit is that of the call
pub told_ok : {T E F : Type 0} (P Q : Type 0) (done : Result T E) (result : Result T F) → IfOk result (λ x. (done ≡ Ok x) × Q) → OnOk done P → OnOk result P
told_ok P Q done (Ok x) same made = subst (λ r. OnOk r P) same.0 made
told_ok P Q done (Err e) same made = tt

module _ {T E : Type 0} (base : List ℕ) (next : Store → Store) (Due May : Store → Type 0) (old new : State) (due : (store : Store) → May store → Due store)
    (kept : (store : Store) → May store → HasCleanDisk old → HasStore base old store) where
  -- a commit that leaves the change of each store to which it is due leaves that of each store to which it
  -- may be made
  pub whole_left : (result : Result T E) → Survives old new (Leaves (Changes base next Due) old.now)
      → (HasCleanDisk new → OnOk result ((store : Store) → HasStore base old store → Due store → (trees : Trees) → new.may_leave trees → AreOf base (next store) trees)) → CommitsWhole base next May old new result
  whole_left result crash durable = record {
    crash = survives_weaker old new _ _ (λ _ trees leaves. (leaves.0, leaves.1, λ store stands may. leaves.2 store stands (due store may))) crash;
    durable = λ clean. on_ok_weaker result (λ lasts store may. lasts store (kept store may (clean_before old new crash.clean clean)) (due store may)) (durable clean);
  }

-- the change is due to each store of the shelf to which it may be made
pub due_of : (base : List ℕ) (s : State) (rows : ℕ) (change : Change) (store : Store) → IsKeptIn base s rows store → CanKeep store change → IsDue change (rows + 1) store
due_of base s rows change store kept can = record { can = can; next = ap (λ n. n + 1) (sym kept.rows_are) }

-- several commits that succeed leave the shelf with the store after them
pub all_kept : {T E F : Type 0} (base : List ℕ) (commits : List Commit) (rows more : ℕ) (a b : State) (done : Result T E) (result : Result T F) → IfOk result (λ x. (done ≡ Ok x) × (more ≡ rows + length commits))
    → (HasCleanDisk b → HasCleanDisk a) → (HasCleanDisk b → OnOk done ((store : Store) → HasStore base a store → AreDue commits rows store → HasStore base b (after_all commits store)))
    → OnOk result ((store : Store) → IsKeptIn base a rows store → CanKeepAll commits store → (HasCleanDisk b → AreOld commits store) → IsKeptIn base b more (after_all commits store))
all_kept base commits rows more a b done (Err e) is before made = tt
all_kept base commits rows more a b done (Ok x) is before made = λ store kept can were. record {
  stored = λ clean. subst (λ r. OnOk r ((store : Store) → HasStore base a store → AreDue commits rows store → HasStore base b (after_all commits store))) is.0 (made clean) store (kept.stored (before clean)) (record { can = can; were = were clean; rows_are = kept.rows_are });
  rows_are = omega (arith, rows_after commits store, kept.rows_are, is.1);
}
