-- The equality of ids, fields and rows.
use Rattle.std.specs.Prelude.{◌≡◌, ◌&&◌, Bool, List, ℕ, refl}
use Rattle.std.specs.Bool.{Decides}
use Rattle.std.specs.Cmp.{IsEquivalence, decided}
use Rattle.std.specs.Cmp.Lexicographic.{pointwise, pointwise_decides}
use Rattle.std.proofs.Common.{ap}
use Rattle.scim_schema.specs.Units.{is_same_leaf, is_same_unit}
use Rattle.scim_schema.proofs.Facts.{is_same_leaf-Decides, is_same_unit-Decides, and_first, and_second}
use Rattle.scim_cell.specs.declared.rows.Field.{Field}
use Rattle.scim_cell.specs.Atoms.{is_same_atom, is_same_atom-Decides}
use Rattle.scim_cell.specs.contracts.ids.IdPartialEq.TheImpl as id_eq
use Rattle.scim_cell.specs.Rows.{Row}

-- whether two ids are equal
abbrev pub is_same_id : List ℕ → List ℕ → Bool
is_same_id = (id_eq.ghosts).eq

-- whether two fields have the same leaf and the same atom
abbrev pub is_same_field : Field → Field → Bool
is_same_field f g = is_same_leaf f.leaf g.leaf && is_same_atom f.atom g.atom

-- whether two rows have the same unit and the same fields
abbrev pub is_same_row : Row → Row → Bool
is_same_row r s = is_same_unit r.unit s.unit && pointwise is_same_field r.fields s.fields

-- if p decides P, q decides Q, and R is equivalent to P and Q together, then p && q decides R
pub both : {P Q R : Type 0} (p q : Bool) → Decides p P → Decides q Q → (P → Q → R) → (R → P) → (R → Q) → Decides (p && q) R
both p q first second make one two = (λ t. make (first.0 (and_first p q t)) (second.0 (and_second p q t)), λ r. rw (first.1 (one r), second.1 (two r)) refl)

-- `is_same_field` decides the equality of fields
pub is_same_field-Decides : (f g : Field) → Decides (is_same_field f g) (f ≡ g)
is_same_field-Decides f g =
    both _ _ (is_same_leaf-Decides f.leaf g.leaf) (is_same_atom-Decides f.atom g.atom)
    (λ p q. λ i. record { leaf = p i; atom = q i }) (ap (λ (x : Field). x.leaf)) (ap (λ (x : Field). x.atom))

-- `is_same_field` is an equivalence
pub is_same_field-IsEquivalence : IsEquivalence is_same_field
is_same_field-IsEquivalence = decided is_same_field is_same_field-Decides

-- `is_same_row` decides the equality of rows
pub is_same_row-Decides : (r s : Row) → Decides (is_same_row r s) (r ≡ s)
is_same_row-Decides r s =
    both _ _ (is_same_unit-Decides r.unit s.unit) (pointwise_decides is_same_field-Decides r.fields s.fields)
    (λ p q. λ i. record { unit = p i; fields = q i }) (ap (λ (x : Row). x.unit)) (ap (λ (x : Row). x.fields))

-- `is_same_row` is an equivalence
pub is_same_row-IsEquivalence : IsEquivalence is_same_row
is_same_row-IsEquivalence = decided is_same_row is_same_row-Decides
