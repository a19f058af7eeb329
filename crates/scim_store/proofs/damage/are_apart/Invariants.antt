use Rattle.std.proofs.Common.{◌≡◌, ℕ, List, take}
use Rattle.std.specs.List.{list_any, IsDistinct}
use Rattle.scim_store.specs.Damage.{is_shared}
use Rattle.scim_store.proofs.ApartLemmas.{names, is_known}
use Rattle.scim_store.proofs.damage.are_apart.Given as goal

-- the pairs are those of the names so far, and no two of these share one
abbrev pub invariant-loop-name : goal.invariant-loop-name
invariant-loop-name l = record {
  known : (attribute text : List ℕ) → is_known attribute text l.known ≡ list_any (names attribute text) (take l.name-index l.names);
  apart : IsDistinct is_shared (take l.name-index l.names);
}
