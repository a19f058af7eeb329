-- What a merge of a users file has done to a shelf.
use Rattle.std.specs.Prelude.{◌≡◌, ◌⊎◌, ℕ, List}
use Rattle.scim_cell.specs.Content.{Content}
use Rattle.scim_json.specs.Documents.{IsDocumentsText}
use Rattle.scim_shelf.specs.Shelves.{Round, settled, since}
use Rattle.scim_shelf.specs.Stores.{Store, IsStore}
use Rattle.scim_shelf_merge.specs.declared.faults.Clash.{Clash}
use Rattle.scim_shelf_merge.specs.declared.merging.MergeCount.{MergeCount}
use Rattle.scim_shelf_merge.specs.Merging.{merged, none, done, stopped}

-- The shelf represents the store after all resources of the users file are merged into `store`, and these are
-- the counts.
pub record HasMerged {H : Type 0} (Stands : H → Store → Type 0) (base users : List ℕ) (now : ℕ) (client : List ℕ)
    (store : Store) (count : MergeCount) (shelf : H) : Type 0 where
  pub resources : List Content
  pub file : IsDocumentsText base users resources
  pub new : Store
  pub merges : merged now client 1 resources store none ≡ done new count
  pub stands : Stands shelf new
  pub is_store : IsStore base new

-- The first resource of the users file that can't be merged into the store is the item with this number.
pub record IsStoppedAt (base users : List ℕ) (now : ℕ) (client : List ℕ) (store : Store) (item : ℕ) (clash : Clash) : Type 0 where
  pub resources : List Content
  pub file : IsDocumentsText base users resources
  pub stops : merged now client 1 resources store none ≡ stopped item clash

-- Nothing is put on the device: the shelf represents the store and no round is under way, or the round since
-- the store is under way.
abbrev pub IsUnmerged : {H : Type 0} → (H → Store → Type 0) → (H → Round → Type 0) → Store → H → Type 0
IsUnmerged Stands HasRound store shelf = (Stands shelf store × HasRound shelf settled) ⊎ HasRound shelf (since store)
