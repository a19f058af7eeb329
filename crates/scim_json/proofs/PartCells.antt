-- The cells found in the JSON of a part, as it is shown, are those of the part.
use Rattle.std.proofs.Common.{◌≡◌, ◌≢◌, List, [], ◌∷◌, ◌++◌, Bool, true, inl, inr, refl, sym, ap, ap₂, ◌∙◌}
use Rattle.std.specs.List.{list_all, flat_map}
use Rattle.std.proofs.lemmas.Bool.{and_parts}
use Rattle.scim_schema.specs.declared.Attribute.{Attribute}
use Rattle.scim_schema.specs.declared.Attribute.TheVariants.{Meta}
use Rattle.scim_schema.specs.Table.{attributes}
use Rattle.scim_cell.specs.Content.{Content, Entry, IsPart}
use Rattle.scim_cell.specs.Rows.{rows}
use Rattle.scim_value.specs.Listing.{attribute_cells}
use Rattle.scim_value.proofs.Facts.{cells_are_listed, sound_part}
use Rattle.scim_schema.specs.declared.json_keys.JsonForm.{JsonForm}
use Rattle.scim_schema.specs.declared.json_keys.JsonForm.TheVariants.{Shown, Stored}
use Rattle.scim_schema.specs.JsonKeys.{shape_of}
use Rattle.scim_json.specs.PartData.{data_of, part_data}
use Rattle.scim_json.specs.Found.{if_there, found_shaped, found_attribute, found_cells}
use Rattle.scim_json.specs.Laws.{PartsAreShownWhole}
use Rattle.scim_json.proofs.FoundValues.{found_shape}
use Rattle.scim_schema.proofs.Facts.{all_attributes}
use Rattle.scim_json.proofs.KeyedLookups.{has_key, IsShown, attribute_shown}
use Rattle.scim_json.proofs.ShapeLemmas.{all_but_location, attribute_cells-shape, attribute_cells-nothing}

-- the cells found of an attribute are its cells, but for `meta` where it is kept
pub found_shown : (form : JsonForm) (c : Content) → IsPart c → (a : Attribute) → (form ≡ Stored → a ≢ Meta) → IsShown form c a → found_attribute c.kind (data_of form c) a ≡ attribute_cells (rows c) a
found_shown form c part a n (inl e) =
    ap (if_there (found_shaped c.kind a (shape_of a))) e
    ∙ found_shape form c.kind a (all_but_location form a n) (rows c) (sound_part c part).own (shape_of a)
    ∙ sym (attribute_cells-shape (rows c) a)
found_shown form c part a n (inr h) = ap (if_there (found_shaped c.kind a (shape_of a))) h.0 ∙ sym (attribute_cells-nothing (rows c) a h.1)

-- two ways to list the cells of attributes that agree on those that pass a test
pub same_cells : (f g : Attribute → List Entry) (test : Attribute → Bool) → ((a : Attribute) → test a ≡ true → f a ≡ g a) → (bs : List Attribute) → list_all test bs ≡ true → flat_map f bs ≡ flat_map g bs
same_cells f g test agree [] h = refl
same_cells f g test agree (a ∷ bs) h =
    let p = and_parts (test a) (list_all test bs) h in
    ap₂ ◌++◌ (agree a p.0) (same_cells f g test agree bs p.1)

-- the cells of a part are those found in what is shown of it
pub parts_are_shown_whole : PartsAreShownWhole
unfolding found_cells part_data
parts_are_shown_whole c part =
    same_cells (found_attribute c.kind (data_of Shown c)) (attribute_cells (rows c)) (has_key Shown c.kind)
    (λ a h. found_shown Shown c part a (λ e. cc) (attribute_shown Shown c a h))
    (attributes c.kind) (all_attributes c.kind)
    ∙ sym (cells_are_listed c part)
