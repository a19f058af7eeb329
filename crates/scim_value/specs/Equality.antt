-- The equality of parts.
use Rattle.std.specs.Prelude.{◌≡◌, ◌&&◌, eqb, Bool, nat_eq}
use Rattle.std.specs.Bool.{Decides}
use Rattle.std.specs.Cmp.{IsEquivalence, decided, unsigned_Decides}
use Rattle.std.specs.Cmp.Lexicographic.{pointwise, pointwise_decides, bytes_decides}
use Rattle.std.specs.FinMap.{entries, same_entries_map}
use Rattle.std.proofs.Common.{ap}
use Rattle.std.proofs.lemmas.Bool.Decides.{Decides-and}
use denote.Enum.Bare.{sameb, same_true, true_same}
use Rattle.scim_schema.specs.declared.Kind.{Kind}
use Rattle.scim_schema.specs.contracts.Kind.{the_type as the_kind}
use Rattle.scim_schema.specs.Units.{is_same_leaf}
use Rattle.scim_schema.proofs.Facts.{is_same_leaf-Decides}
use Rattle.scim_cell.specs.declared.places.Place.{Place}
use Rattle.scim_cell.specs.Atoms.{is_same_atom, is_same_atom-Decides}
use Rattle.scim_cell.specs.Place.{leaf_of, place_at}
use Rattle.scim_cell.specs.Content.{Content, Entry}
use Rattle.scim_cell.specs.Equality.{both}

-- whether two entries have the same place and the same atom
abbrev pub is_same_entry : Entry → Entry → Bool
is_same_entry e f = (is_same_leaf (leaf_of e.0) (leaf_of f.0) && eqb e.0.position f.0.position) && is_same_atom e.1 f.1

-- whether two parts have the same kind, the same id and the same cells
abbrev pub is_same_part : Content → Content → Bool
is_same_part c d = sameb the_kind c.kind d.kind && (pointwise nat_eq c.id d.id && pointwise is_same_entry (entries c.cells) (entries d.cells))

-- the comparison of kinds decides their equality
kind_Decides : (a b : Kind) → Decides (sameb the_kind a b) (a ≡ b)
kind_Decides a b = (same_true the_kind tt a b, true_same the_kind a b)

-- the comparison of places by leaf and position decides their equality
place_Decides : (p q : Place) → Decides (is_same_leaf (leaf_of p) (leaf_of q) && eqb p.position q.position) (p ≡ q)
place_Decides p q =
    both _ _ (is_same_leaf-Decides (leaf_of p) (leaf_of q)) (unsigned_Decides p.position q.position)
    (λ l k. λ i. place_at (l i) (k i)) (ap leaf_of) (ap (λ (x : Place). x.position))

-- `is_same_entry` decides the equality of entries
entry_Decides : (e f : Entry) → Decides (is_same_entry e f) (e ≡ f)
entry_Decides e f =
    both _ _ (place_Decides e.0 f.0) (is_same_atom-Decides e.1 f.1)
    (λ p q. λ i. (p i, q i)) (ap (λ (x : Entry). x.0)) (ap (λ (x : Entry). x.1))

-- `is_same_part` decides the equality of parts
pub is_same_part-Decides : (c d : Content) → Decides (is_same_part c d) (c ≡ d)
is_same_part-Decides c d =
    both _ _ (kind_Decides c.kind d.kind)
    (Decides-and _ _ (bytes_decides c.id d.id) (pointwise_decides entry_Decides (entries c.cells) (entries d.cells)))
    (λ k h. λ i. record { kind = k i; id = h.0 i; cells = same_entries_map c.cells d.cells h.1 i }) (ap (λ (x : Content). x.kind))
    (λ e. (ap (λ (x : Content). x.id) e, ap (λ (x : Content). entries x.cells) e))

-- `is_same_part` is an equivalence
pub is_same_part-IsEquivalence : IsEquivalence is_same_part
is_same_part-IsEquivalence = decided is_same_part is_same_part-Decides
