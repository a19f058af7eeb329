-- The users file of the items of an export.
use Rattle.std.specs.Prelude.{◌≡◌, ℕ, ◌+◌, List, [], ◌∷◌, ⊤, String, Some, Ok, Err, All, length, take, slice_get, string_bytes}
use Rattle.std.specs.declared.alloc.Global.{Global}
use Rattle.serde_json.specs.Data.{array, no_items}
use Rattle.serde_json.specs.Read.{read}
use Rattle.scim_cell.specs.Content.{Content}
use Rattle.scim_json.specs.Documents.{documents_and}
use Rattle.scim_json.specs.Stored.{IsResourceBelow}
use Rattle.scim_foreign_users.specs.declared.faults.RefusedItem.{RefusedItem}
use Rattle.scim_foreign_users.specs.Resources.{GivesResource}

-- one resource is made of each item, with the fresh id at its place
abbrev pub AreMade : List ℕ → ℕ → List (String Global) → List (List ℕ) → List Content → Type 0
AreMade base now [] [] [] = ⊤
AreMade base now (item ∷ items) (id ∷ ids) (c ∷ cs) = GivesResource base now id (read (string_bytes item)) (Ok c) × AreMade base now items ids cs
AreMade base now _ _ _ = ⊥

-- no resource can be made of the item with this number, for this reason; of those before it one can
pub record IsRefusedAt (base : List ℕ) (now : ℕ) (items : List (String Global)) (ids : List (List ℕ)) (refused : RefusedItem) : Type 0 where
  pub before : List Content
  pub made : AreMade base now (take (length before) items) (take (length before) ids) before
  pub number : refused.number ≡ length before + 1
  pub item : String Global
  pub item_is : slice_get items (length before) ≡ Some item
  pub fresh : List ℕ
  pub fresh_is : slice_get ids (length before) ≡ Some fresh
  pub faulty : GivesResource base now fresh (read (string_bytes item)) (Err refused.fault)

-- the text is a JSON list of the stored documents of these resources, which are below the base; it is a users
-- file if they may be on the same server
pub record IsDocumentList (base text : List ℕ) (cs : List Content) : Type 0 where
  pub below : All (IsResourceBelow base) cs
  pub reads : read text ≡ Some (array (documents_and cs no_items))
