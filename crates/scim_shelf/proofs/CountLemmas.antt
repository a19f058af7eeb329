-- The count of failures.
use Rattle.std.proofs.Common.{◌≡◌, ◌<◌, ◌≤◌, ◌⊎◌, inl, inr, ℕ, Result, Ok, Err, arith}
use Rattle.std.proofs.lemmas.Bool.Decides.{eqb_tells}
use Rattle.scim_text.specs.declared.memory.Failed.{Failed}
use Rattle.scim_text.specs.declared.memory.Failed.TheVariants.{Because, NoMemory}
use Rattle.scim_shelf.specs.declared.faults.ShelfFault.{ShelfFault}
use Rattle.scim_shelf.specs.declared.faults.ShelfFault.TheVariants.{Device, Full}
use Rattle.scim_shelf.specs.Shelves.{Counts, count_after}

-- a device's failure raises the count, or the count is at its maximum
pub device_raises : (before : ℕ) → (before < count_after before (Because Device)) ⊎ (before ≡ 18446744073709551615)
device_raises before = elim (eqb_tells before 18446744073709551615) [
  | inl same ↦ inr same.1
  | inr other ↦ inl (rw other.0 (omega arith))
]

fault_counts : (before : ℕ) (fault : Failed ShelfFault) → before ≤ count_after before fault
fault_counts before (Because Device) = elim (eqb_tells before 18446744073709551615) [
  | inl same ↦ rw same.0 (omega arith)
  | inr other ↦ rw other.0 (omega arith)
]
fault_counts before (Because Full) = omega arith
fault_counts before NoMemory = omega arith

-- the count of failures never falls
pub counts_grow : {T : Type 0} (before now : ℕ) (result : Result T (Failed ShelfFault)) → Counts before now result → before ≤ now
counts_grow before now (Ok x) counts = omega (arith, counts.ok)
counts_grow before now (Err fault) counts = omega (arith, counts.err, fault_counts before fault)
