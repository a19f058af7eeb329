-- The fault of a merge that fails because a call that it makes fails.
use Rattle.std.specs.Prelude.{◌≡◌, ℕ, Result, Ok, Err}
use Rattle.scim_text.specs.declared.memory.Failed.{Failed}
use Rattle.scim_text.specs.declared.memory.Failed.TheVariants as failed
use Rattle.scim_json.specs.declared.faults.DamagedItem.{DamagedItem}
use Rattle.scim_shelf.specs.declared.faults.ShelfFault.{ShelfFault}
use Rattle.scim_shelf.specs.Shelves.{count_after}
use Rattle.scim_shelf_merge.specs.declared.faults.MergeFault.{MergeFault}
use Rattle.scim_shelf_merge.specs.declared.faults.MergeFault.TheVariants.{Users, Shelf, NoMemory}

-- The fault of a merge whose users file can't be read.
abbrev pub of_reading : Failed DamagedItem → MergeFault
of_reading (failed.Because item) = Users item
of_reading failed.NoMemory = NoMemory

-- The fault of a merge whose shelf failed.
abbrev pub of_shelf : Failed ShelfFault → MergeFault
of_shelf (failed.Because fault) = Shelf fault
of_shelf failed.NoMemory = NoMemory

-- The count of the device's failures after a merge that failed: one more if the device failed, unless the count
-- is at its maximum.
abbrev pub failures_after : ℕ → MergeFault → ℕ
failures_after before (Shelf fault) = count_after before (failed.Because fault)
failures_after before _ = before

-- A merge fails with the device's fault exactly where the device has failed.
abbrev pub CountsFailures : {T : Type 0} → ℕ → ℕ → Result T MergeFault → Type 0
CountsFailures before now (Ok x) = now ≡ before
CountsFailures before now (Err fault) = now ≡ failures_after before fault
