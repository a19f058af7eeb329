-- What looking into a shelf leaves.
use Rattle.scim_shelf.specs.Stores.{Store}
use Rattle.scim_shelf_cache.specs.Caches.{HasKeyed}
use Rattle.scim_shelf.specs.Shelves.{KeepsRound, KeepsStore, Round}

-- The shelf represents each store that it represented, if the store's resources are in order and share no
-- unique name. It has the round that it had, and is honest only if it was.
pub record KeepsShelf {H : Type 0} (Stands : H → Store → Type 0) (IsHonest : H → Type 0) (HasRound : H → Round → Type 0) (old new : H) : Type 0 where
  pub store : KeepsStore (HasKeyed Stands) old new
  pub round : KeepsRound HasRound old new
  pub honest : IsHonest new → IsHonest old
