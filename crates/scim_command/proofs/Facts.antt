-- Facts for other crates.
use Rattle.std.proofs.Common.{ℕ, List}
use Rattle.std.proofs.lemmas.List.Sorted.{All-permutation}
use Rattle.scim_json.specs.Stored.{IsResourceBelow}
use Rattle.scim_shelf.specs.Stores.{Store, IsStore}
use Rattle.scim_command.specs.Once.{IsStoreOf}

-- the store of a users file is a store of resources below the base
pub is_store : (base text : List ℕ) (store : Store) → IsStoreOf base text store → IsStore base store
is_store base text store of = record {
  sound = All-permutation (IsResourceBelow base) of.resources store.resources of.is_new.members of.documents.0.below;
  keyed = of.is_new.keyed;
}
