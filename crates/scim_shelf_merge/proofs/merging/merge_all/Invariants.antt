use Rattle.std.proofs.Common.{◌≡◌, ℕ, ◌+◌, List}
use Rattle.std.specs.Prelude.{All}
use Rattle.scim_json.specs.Stored.{IsResourceBelow}
use Rattle.scim_shelf.specs.Shelves.{KeepsRound}
use Rattle.scim_shelf.specs.Stores.{Store, IsStore}
use Rattle.scim_shelf_merge.specs.Merging.{merged, none}
use Rattle.scim_shelf_merge.proofs.MergeLemmas.{rest}
use Rattle.scim_shelf_merge.proofs.merging.merge_all.Given as goal

-- the shelf represents a store from which the later resources lead where all lead from the first store
abbrev pub invariant-loop-index : goal.invariant-loop-index
invariant-loop-index g l = record {
  number : l.count.created + l.count.replaced + l.count.unchanged ≡ l.index;
  round : KeepsRound g.H.Shelf.has_round l.fn.shelf l.shelf;
  honest : g.H.Shelf.is_honest l.shelf → g.H.Shelf.is_honest l.fn.shelf;
  counts : g.H.Shelf.failures l.shelf ≡ g.H.Shelf.failures l.fn.shelf;
  merges : (base : List ℕ) (store : Store) → g.H.Shelf.stands l.fn.shelf store → g.H.Shelf.is_honest l.shelf
      → IsStore base store → All (IsResourceBelow base) l.resources
      → (here : Store) × (merged l.now l.client 1 l.resources store none ≡ rest l.now l.client l.resources l.index here l.count)
      × g.H.Shelf.stands l.shelf here × IsStore base here;
}
