-- The resources that a collection in memory holds.
use Rattle.std.specs.Prelude.{◌≡◌, ℕ, List, map, find}
use Rattle.std.specs.Option.{option_map}
use Rattle.scim_schema.specs.declared.Kind.{Kind}
use Rattle.scim_cell.specs.Content.{Content}
use Rattle.scim_cell.specs.Kinds.{of_kind}
use Rattle.scim_value.specs.declared.uniqueness.UniqueName.{UniqueName}
use Rattle.scim_value.specs.Uniqueness.{name_of}
use Rattle.scim_shelf.specs.declared.collections.Collection.{Collection}
use Rattle.scim_shelf.specs.Stores.{AreKeyed, has_name}
use Rattle.scim_shelf.specs.Indexed.{has_id, keyed}
use Rattle.scim_shelf.specs.KindIds.{ids}
use Rattle.scim_shelf.specs.Owners.{owner}
use Rattle.scim_shelf.specs.IndexedTexts.{is_under_in}
use Rattle.scim_shelf.specs.TextIndex.{is_noted}

-- The collection has exactly the resources `cs` by id, has the ids of each kind in order, finds the owner of each
-- unique name, and has each resource indexed under exactly the texts that it has at the indexed leaves of its kind.
pub record IsCollection (cs : List Content) (collection : Collection) : Type 0 where
  pub resources : collection.by_id.entries ≡ map keyed cs
  pub keyed_apart : AreKeyed cs
  pub kinds : (kind : Kind) → ids collection.kinds kind ≡ map (λ c. c.id) (of_kind kind cs)
  pub owners : (q : UniqueName) → owner collection.owners q ≡ option_map (λ c. c.id) (find (has_name (name_of q)) cs)
  pub noted : (q : UniqueName) (id : List ℕ) → is_noted collection.texts q id ≡ is_under_in q (find (has_id id) cs)
