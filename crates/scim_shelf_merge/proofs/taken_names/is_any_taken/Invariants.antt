use Rattle.std.proofs.Common.{◌≡◌, drop, map}
use Rattle.std.specs.List.{list_any}
use Rattle.scim_value.specs.Uniqueness.{name_of}
use Rattle.scim_shelf.specs.Shelves.{KeepsRound, KeepsStore}
use Rattle.scim_shelf.specs.Stores.{Store, AreKeyed, has_name, without}
use Rattle.scim_shelf_merge.proofs.taken_names.is_any_taken.Given as goal

-- the later names tell whether one of all is taken
abbrev pub invariant-loop-name : goal.invariant-loop-name
invariant-loop-name g l = record {
  store : KeepsStore g.H.Shelf.stands l.fn.shelf l.shelf;
  round : KeepsRound g.H.Shelf.has_round l.fn.shelf l.shelf;
  honest : g.H.Shelf.is_honest l.shelf → g.H.Shelf.is_honest l.fn.shelf;
  counts : g.H.Shelf.failures l.shelf ≡ g.H.Shelf.failures l.fn.shelf;
  later : (store : Store) → g.H.Shelf.stands l.fn.shelf store → g.H.Shelf.is_honest l.shelf → AreKeyed store.resources
      → list_any (λ n. list_any (has_name n) (without l.own store.resources)) (map name_of l.names)
      ≡ list_any (λ n. list_any (has_name n) (without l.own store.resources)) (map name_of (drop l.name-index l.names));
}
