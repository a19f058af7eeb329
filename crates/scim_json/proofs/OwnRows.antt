-- An attribute by its own rows alone.
use Rattle.std.proofs.Common.{◌≡◌, ◌==◌, length, List, [], ◌∷◌, refl, sym, ◌∙◌, ap, true, false, arith}
use Rattle.std.proofs.lemmas.Bool.Decides.{nat_tests}
use Rattle.std.specs.Prelude.{None, option_map, is_some}
use Rattle.std.specs.List.{list_any}
use Rattle.scim_schema.specs.declared.Attribute.{Attribute}
use Rattle.scim_schema.specs.declared.SubAttribute.{SubAttribute}
use Rattle.scim_schema.specs.declared.Leaf.{Leaf}
use Rattle.scim_schema.specs.Names.{sub_attribute_name}
use Rattle.scim_schema.specs.Characteristics.{is_multi_valued}
use Rattle.scim_schema.specs.Units.{simple, leaf_at, whole, unit_of}
use Rattle.scim_cell.specs.Content.{Content, IsPart}
use Rattle.scim_cell.specs.Rows.{Row, rows, attribute_rows, atom_at, cell_at}
use Rattle.scim_value.proofs.Facts.{sound_part, values_own, values_all}
use Rattle.scim_cell.specs.Place.{sub_attributes_by_place}
use Rattle.scim_schema.specs.declared.json_keys.JsonForm.{JsonForm}
use Rattle.scim_schema.specs.declared.json_keys.JsonShape.{JsonShape}
use Rattle.scim_schema.specs.declared.json_keys.JsonShape.TheVariants.{Simple, Complex, MultiValued}
use Rattle.scim_schema.specs.JsonKeys.{shape_of, ordered_sub_attributes}
use Rattle.scim_json.specs.PartData.{members_where, object_of, items_of, array_of, atom_data, value_data, simple_data, sub_data, complex_data, shaped_data, attribute_data}
use Rattle.scim_json.proofs.Adding.{members_where-absent}
use Rattle.scim_json.proofs.Shapes.{fits}
use Rattle.scim_json.proofs.ShapeLemmas.{shape_fits}

-- what stands at a leaf is in a row of its attribute
cell_own : (l : Leaf) (rs : List Row) → cell_at l 0 rs ≡ cell_at l 0 (attribute_rows l.attribute rs)
cell_own l rs = ap (atom_at l 0) (sym (values_own (unit_of l) rs))

-- so an attribute of any shape is in its rows
shaped_own : (form : JsonForm) (shape : JsonShape) (rs : List Row) (a : Attribute) → shaped_data form shape rs a ≡ shaped_data form shape (attribute_rows a rs) a
shaped_own form Simple rs a = ap (option_map atom_data) (cell_own (simple a) rs)
shaped_own form Complex rs a = λ i. object_of (members_where sub_attribute_name (λ b. option_map atom_data (cell_own (leaf_at a b) rs i)) (ordered_sub_attributes form a))
shaped_own form MultiValued rs a = ap (λ vs. array_of (items_of (value_data form a) vs)) (sym (values_own (whole a) rs))

no_sub : (a : Attribute) (bs : List SubAttribute) → list_any (λ b. is_some (sub_data [] a b)) bs ≡ false
no_sub a [] = refl
no_sub a (b ∷ bs) = no_sub a bs

-- no rows have no value
shaped_none : (form : JsonForm) (shape : JsonShape) (a : Attribute) → shaped_data form shape [] a ≡ None
shaped_none form Simple a = refl
shaped_none form Complex a = ap object_of (members_where-absent sub_attribute_name (sub_data [] a) (ordered_sub_attributes form a) (no_sub a (ordered_sub_attributes form a)))
shaped_none form MultiValued a = refl

-- a list of length 0
pub empty : {X : Type 0} (xs : List X) → (length xs == 0) ≡ true → xs ≡ []
empty [] h = refl
empty (x ∷ xs) h = absurd (grind (arith, nat_tests))

module _ (form : JsonForm) (a : Attribute) (own : List Row) where
  -- an attribute that no row has isn't there
  pub data_none : (rs : List Row) → own ≡ attribute_rows a rs → own ≡ [] → attribute_data form rs a ≡ None
  data_none rs e n = shaped_own form (shape_of a) rs a ∙ ap (λ vs. shaped_data form (shape_of a) vs a) (sym e ∙ n) ∙ shaped_none form (shape_of a) a

  -- an attribute by its shape and its rows
  pub data_simple : (rs : List Row) → own ≡ attribute_rows a rs → shape_of a ≡ Simple → attribute_data form rs a ≡ simple_data own a
  data_simple rs e s = ap (λ shape. shaped_data form shape rs a) s ∙ shaped_own form Simple rs a ∙ ap (λ vs. simple_data vs a) (sym e)

  pub data_complex : (rs : List Row) → own ≡ attribute_rows a rs → shape_of a ≡ Complex → attribute_data form rs a ≡ complex_data form own a
  data_complex rs e s = ap (λ shape. shaped_data form shape rs a) s ∙ shaped_own form Complex rs a ∙ ap (λ vs. complex_data form vs a) (sym e)

  pub data_values : (c : Content) → IsPart c → own ≡ attribute_rows a (rows c) → shape_of a ≡ MultiValued → attribute_data form (rows c) a ≡ array_of (items_of (value_data form a) own)
  data_values c p e s =
      let many : is_multi_valued a ≡ true = ap (λ shape. fits shape (is_multi_valued a) (sub_attributes_by_place a)) (sym s) ∙ shape_fits a in
      ap (λ shape. shaped_data form shape (rows c) a) s ∙ ap (λ vs. array_of (items_of (value_data form a) vs)) (values_all c.kind a (rows c) many (sound_part c p) ∙ sym e)
