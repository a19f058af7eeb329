-- The command `import` with `--merge`.
use Rattle.std.specs.Prelude.{ℕ, List, ◌++◌, codes, decimal}
use Rattle.scim_shelf.specs.Stores.{Store}
use Rattle.scim_shelf_merge.specs.declared.faults.Clash.{Clash}
use Rattle.scim_shelf_merge.specs.declared.faults.MergeFault.{MergeFault}
use Rattle.scim_shelf_merge.specs.declared.faults.MergeFault.TheVariants as merging
use Rattle.scim_shelf_merge.specs.declared.merging.MergeCount.{MergeCount}
use Rattle.scim_shelf_merge.specs.Merged.{HasMerged, IsStoppedAt}
use Rattle.scim_command.specs.Options.{default_base}
use Rattle.scim_command.specs.declared.faults.DatabaseFault.TheVariants.{Unusable}
use Rattle.scim_command.specs.declared.faults.RunFault.{RunFault}
use Rattle.scim_command.specs.declared.faults.RunFault.TheVariants.{Users, Database, Output, NoMemory}

-- the client of the audit rows that a merge leaves
abbrev pub merge_client : List ℕ
merge_client = codes "(import)"

-- the shelf represents the store after the users file is merged into `store`, and these are the counts
abbrev pub HasMergedUsers : {H : Type 0} → (H → Store → Type 0) → List ℕ → ℕ → Store → MergeCount → H → Type 0
HasMergedUsers Stands users now store count shelf = HasMerged Stands default_base users now merge_client store count shelf

-- this item of the users file is the first that can't be merged into the store
abbrev pub IsClashAt : List ℕ → ℕ → Store → ℕ → Type 0
IsClashAt users now store item = (clash : Clash) × IsStoppedAt default_base users now merge_client store item clash

-- the counts of a merge, on a line
abbrev pub count_text : MergeCount → List ℕ
count_text count =
    codes "created: " ++ decimal count.created ++ codes ", replaced: " ++ decimal count.replaced
    ++ codes ", unchanged: " ++ decimal count.unchanged ++ codes "\n"

-- the fault of a command for a failed merge
abbrev pub of_merging : MergeFault → RunFault
of_merging (merging.Users item) = Users item.0
of_merging (merging.Clash item clash) = Users item
of_merging (merging.Shelf fault) = Database Unusable
of_merging merging.NoRound = NoMemory
of_merging merging.NoMemory = NoMemory

-- a merge may return the fault: an item that is invalid or can't be merged, an unusable database, a failed write, or
-- `NoMemory`
abbrev pub IsMergeFault : RunFault → Type 0
IsMergeFault (Users n) = Unit {0}
IsMergeFault (Database Unusable) = Unit {0}
IsMergeFault Output = Unit {0}
IsMergeFault NoMemory = Unit {0}
IsMergeFault _ = ⊥
