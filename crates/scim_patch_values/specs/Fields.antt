-- Changes of the fields of one value.
use Rattle.std.specs.Prelude.{not, false, List, [], ◌∷◌, ◌++◌, filter, if◌then◌else◌}
use Rattle.std.specs.declared.cmp.Ordering.{Ordering}
use Rattle.std.specs.Ordering.{is_lt, is_gt}
use Rattle.scim_schema.specs.declared.Leaf.{Leaf}
use Rattle.scim_schema.specs.declared.SubAttribute.TheVariants.{Primary}
use Rattle.scim_schema.specs.Units.{leaf_at, is_same_leaf}
use Rattle.scim_cell.specs.declared.atoms.Atom.TheVariants.{Truth}
use Rattle.scim_cell.specs.declared.rows.Field.{Field}
use Rattle.scim_cell.specs.Place.{place_cmp, place_at}
use Rattle.scim_cell.specs.Rows.{Row, is_primary}

-- the order of the fields of one value: by place
abbrev pub field_cmp : Field → Field → Ordering
field_cmp f g = place_cmp (place_at f.leaf 0) (place_at g.leaf 0)

-- the fields of the list, with the given field inserted at its place; it replaces fields that have the same
-- place
abbrev pub put_field : Field → List Field → List Field
put_field f fs = filter (λ (g : Field). is_lt (field_cmp g f)) fs ++ (f ∷ filter (λ (g : Field). is_gt (field_cmp g f)) fs)

-- the fields of the second list, with the given fields inserted at their places; they replace fields that
-- have the same places
abbrev pub over : List Field → List Field → List Field
over [] fs = fs
over (g ∷ given) fs = over given (put_field g fs)

-- the fields that don't belong to the leaf
abbrev pub without : Leaf → List Field → List Field
without l fs = filter (λ (f : Field). not (is_same_leaf f.leaf l)) fs

-- the value with the given fields set in it; they replace fields of the value that have the same places
abbrev pub row_over : List Field → Row → Row
row_over given r = record { unit = r.unit; fields = over given r.fields }

-- the value without the field of a leaf
abbrev pub row_without : Leaf → Row → Row
row_without l r = record { unit = r.unit; fields = without l r.fields }

-- the field that marks a value as not primary
abbrev pub not_primary : Row → Field
not_primary r = record { leaf = leaf_at r.unit.attribute Primary; atom = Truth false }

-- the value with `primary` set to false if it is true
abbrev pub demoted : Row → Row
demoted r = if is_primary r then record { unit = r.unit; fields = put_field (not_primary r) r.fields } else r
