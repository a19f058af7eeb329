-- The copies of a visitor that was given all resources of a store.
use Rattle.std.proofs.Common.{List, []}
use Rattle.std.specs.List.{FoldsTo}
use Rattle.scim_cell.specs.Content.{Content}
use Rattle.scim_shelf.specs.Stores.{AreKeyed}
use Rattle.scim_shelf.proofs.Facts.{kept_all}
use Rattle.scim_shelf_cache.specs.declared.contents.CacheContents.{CacheContents}
use Rattle.scim_shelf_cache.specs.Caches.{Caches, HasCached}

-- such a visitor has copied all of them
pub cached_all : (cs : List Content) (first last : CacheContents) → AreKeyed cs → HasCached [] first → FoldsTo Caches first cs last → HasCached cs last
cached_all cs first last keyed is folds = kept_all HasCached cs first last keyed is folds
