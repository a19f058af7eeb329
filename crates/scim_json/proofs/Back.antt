-- The cells found in the JSON that is kept of a resource are those of the resource.
use Rattle.std.proofs.Common.{◌≡◌, ◌≢◌, ℕ, List, [], ◌∷◌, ◌++◌, append_assoc, append-nil, length, true, ◌||◌, Option, Some, option_map, option_and_then, inl, inr, refl, sym, ap, ap₂, subst, ◌∙◌, arith}
use Rattle.std.specs.Prelude.{not}
use Rattle.std.specs.List.{list_all, flat_map}
use Rattle.std.specs.FinMap.{entries, same_entries_map}
use Rattle.std.proofs.lemmas.Bool.{and_parts, or_cases}
use Rattle.std.proofs.lemmas.Grind.{flat_map-append}
use denote.Enum.Bare.{sameb, true_same}
use Rattle.serde_json.specs.Data.{object}
use Rattle.serde_json.specs.Find.{get, as_str}
use Rattle.scim_schema.specs.declared.Kind.{Kind}
use Rattle.scim_schema.specs.declared.Kind.TheVariants.{User, Group}
use Rattle.scim_schema.specs.declared.Leaf.{Leaf}
use Rattle.scim_schema.specs.declared.Attribute.{Attribute}
use Rattle.scim_schema.specs.declared.Attribute.TheVariants.{Id, Groups, Meta}
use Rattle.scim_schema.specs.declared.SubAttribute.{SubAttribute}
use Rattle.scim_schema.specs.declared.SubAttribute.TheVariants.{ResourceType, Created, LastModified, Location}
use Rattle.scim_schema.specs.contracts.Attribute.{the_type as the_attribute}
use Rattle.scim_schema.specs.Names.{kind_name, sub_attribute_name}
use Rattle.scim_schema.specs.Table.{attributes}
use Rattle.scim_schema.specs.Units.{simple, leaf_at}
use Rattle.scim_schema.proofs.Facts.{attribute_one}
use Rattle.scim_cell.specs.declared.atoms.Atom.{Atom}
use Rattle.scim_cell.specs.declared.atoms.Atom.TheVariants.{Text}
use Rattle.scim_cell.specs.Ids.{id_text}
use Rattle.scim_cell.specs.Place.{place_at}
use Rattle.scim_cell.specs.Content.{Content, Entry, IsPart}
use Rattle.scim_value.specs.Resource.{IsResource, HasBase, location, first_at}
use Rattle.scim_cell.specs.Rows.{rows, cell_at}
use Rattle.scim_cell.specs.Place.{sub_attributes_by_place}
use Rattle.scim_value.specs.Listing.{cell_with, attribute_cells}
use Rattle.scim_value.proofs.Facts.{get_cell, cells_are_listed, sound_part}
use Rattle.scim_cell.proofs.Facts.{id_text-injective}
use Rattle.scim_schema.specs.declared.json_keys.JsonForm.TheVariants.{Stored}
use Rattle.scim_schema.specs.declared.json_keys.JsonShape.{JsonShape}
use Rattle.scim_schema.specs.declared.json_keys.JsonShape.TheVariants.{Simple, Complex}
use Rattle.scim_schema.specs.JsonKeys.{shape_of, ordered_sub_attributes}
use Rattle.scim_json.specs.PartData.{object_of, atom_data, sub_data, shaped_data, stored_data}
use Rattle.scim_json.specs.Found.{if_there, found_value, found_sub_attribute, found_object, found_shaped, attribute_in, found_attribute, found_cells, cells_below, id_in, resource_type_in}
use Rattle.scim_json.specs.Stored.{DocumentsAreApart}
use Rattle.scim_json.proofs.FoundValues.{is_written, written_members, get_member-written, fits_cell, found_object_of, found_written}
use Rattle.scim_json.proofs.Lookups.{get_member-absent, get-object_of}
use Rattle.scim_json.proofs.PartCells.{found_shown, same_cells}
use Rattle.scim_json.proofs.ShapeLemmas.{without_groups}
use Rattle.scim_json.proofs.KeyedLookups.{has_key, front, meta_last, is_in_front, front_keys, location_clear, IsShown, attribute_shown, id_shown, meta_shown, groups_absent}

-- ---- what stands in a resource

-- an atom of a resource stands in its rows
cell_first : (c : Content) → IsPart c → (l : Leaf) (o : Option Atom) → first_at l c ≡ o → cell_at l 0 (rows c) ≡ o
cell_first c part l o e = sym (get_cell c part (sound_part c part) l 0) ∙ e

-- ---- `id` and `meta`

-- `meta` is complex
meta_shape : shape_of Meta ≡ Complex
unfolding shape_of
meta_shape = refl

-- `id` is simple
id_shape : shape_of Id ≡ Simple
unfolding shape_of
id_shape = refl

-- the object of `meta` is found
meta_in : (c : Content) → attribute_in Meta (stored_data c) ≡ object_of (written_members Stored Meta (sub_data (rows c) Meta))
unfolding stored_data
meta_in c = meta_shown c ∙ ap (λ (s : JsonShape). shaped_data Stored s (rows c) Meta) meta_shape

-- the text of `id` is found
id_data : (c : Content) → attribute_in Id (stored_data c) ≡ option_map atom_data (cell_at (simple Id) 0 (rows c))
unfolding stored_data
id_data c = id_shown c ∙ ap (λ (s : JsonShape). shaped_data Stored s (rows c) Id) id_shape

-- the id's text stands in the JSON
pub id_stored : (c : Content) → IsResource c → id_in (stored_data c) ≡ Some (id_text c.id)
id_stored c r =
    let cell = cell_first c r.part (simple Id) (Some (Text (id_text c.id))) r.identified.1 in
    ap (option_and_then as_str) (id_data c ∙ ap (option_map atom_data) cell)

-- `meta.resourceType` is kept
resource_type_kept : is_written Stored Meta ResourceType ≡ true
unfolding ordered_sub_attributes
resource_type_kept = refl

-- and so does the kind's name
pub resource_type_stored : (c : Content) → IsResource c → resource_type_in (stored_data c) ≡ Some (kind_name c.kind)
resource_type_stored c r =
    let name = sub_attribute_name ResourceType in
    let value = sub_data (rows c) Meta in
    let cell = cell_first c r.part (leaf_at Meta ResourceType) (Some (Text (kind_name c.kind))) r.has_meta.0 in
    ap (option_and_then as_str)
    (ap (option_and_then (get name)) (meta_in c) ∙ get-object_of name (written_members Stored Meta value) ∙ get_member-written Stored Meta value ResourceType resource_type_kept ∙ ap (option_map atom_data) cell)

-- ---- cells

-- the sub-attributes of `meta` that are kept
abbrev pub kept_of_meta : List SubAttribute
kept_of_meta = ResourceType ∷ Created ∷ LastModified ∷ []

-- these are kept
meta_kept : list_all (is_written Stored Meta) kept_of_meta ≡ true
unfolding ordered_sub_attributes
meta_kept = refl

-- the cell that isn't kept
abbrev pub location_cells : List ℕ → Content → List Entry
location_cells base c = (place_at (leaf_at Meta Location) 0, Text (location base c.kind c.id)) ∷ []

-- the cells found in the object of `meta` are those
found_meta_object : (c : Content) → IsPart c → found_object c.kind Meta 0 (object (written_members Stored Meta (sub_data (rows c) Meta))) ≡ flat_map (λ b. cell_with (leaf_at Meta b) 0 (cell_at (leaf_at Meta b) 0 (rows c))) kept_of_meta
unfolding sub_attributes_by_place
found_meta_object c part =
    let f = found_sub_attribute c.kind Meta 0 (object (written_members Stored Meta (sub_data (rows c) Meta))) in
    let own = (sound_part c part).own in
    let kept = found_written Stored c.kind Meta 0 (λ b. cell_at (leaf_at Meta b) 0 (rows c)) (λ b. fits_cell c.kind (leaf_at Meta b) 0 (rows c) own) kept_of_meta meta_kept in
    let none : f Location ≡ [] = ap (if_there (found_value c.kind (leaf_at Meta Location) 0)) (get_member-absent sub_attribute_name (sub_data (rows c) Meta) (sub_attribute_name Location) (ordered_sub_attributes Stored Meta) location_clear) in
    flat_map-append f kept_of_meta (Location ∷ []) ∙ ap₂ ◌++◌ kept (ap (λ es. es ++ []) none) ∙ append-nil (flat_map (λ b. cell_with (leaf_at Meta b) 0 (cell_at (leaf_at Meta b) 0 (rows c))) kept_of_meta)

-- with `meta.location` they are all cells of `meta`
found_meta : (base : List ℕ) (c : Content) → IsResource c → HasBase base c → found_attribute c.kind (stored_data c) Meta ++ location_cells base c ≡ attribute_cells (rows c) Meta
unfolding sub_attributes_by_place
found_meta base c r below =
    let g = λ (b : SubAttribute). cell_with (leaf_at Meta b) 0 (cell_at (leaf_at Meta b) 0 (rows c)) in
    let ms = written_members Stored Meta (sub_data (rows c) Meta) in
    let found : found_attribute c.kind (stored_data c) Meta ≡ flat_map g kept_of_meta =
    (λ i. if_there (found_shaped c.kind Meta (meta_shape i)) (meta_in c i)) ∙ found_object_of c.kind Meta 0 ms ∙ found_meta_object c r.part in
    let last : g Location ≡ location_cells base c = ap (cell_with (leaf_at Meta Location) 0) (cell_first c r.part (leaf_at Meta Location) (Some (Text (location base c.kind c.id))) below) in
    let cells : attribute_cells (rows c) Meta ≡ flat_map g kept_of_meta ++ location_cells base c = flat_map-append g kept_of_meta (Location ∷ []) ∙ ap (λ es. flat_map g kept_of_meta ++ (es ++ [])) last in
    ap (λ es. es ++ location_cells base c) found ∙ sym cells

-- `groups` isn't found, and has no cells
groups_shown : (c : Content) → IsResource c → IsShown Stored c Groups
groups_shown c r = inr (groups_absent c, without_groups c.kind (rows c) (sound_part c r.part) r.may_be_kept)

-- an attribute before `meta` is found, or has no cells
front_shown : (c : Content) → IsResource c → (a : Attribute) → (sameb the_attribute a Groups || has_key Stored c.kind a) ≡ true → IsShown Stored c a
front_shown c r a h =
    elim (or_cases (sameb the_attribute a Groups) (has_key Stored c.kind a) h) [
      | inl t ↦ subst (IsShown Stored c) (sym (attribute_one a Groups t)) (groups_shown c r)
      | inr k ↦ attribute_shown Stored c a k
    ]

-- an attribute that compares unequal to `meta` isn't it
not_meta : (a : Attribute) → not (sameb the_attribute a Meta) ≡ true → a ≢ Meta
not_meta a h e = let t : sameb the_attribute a Meta ≡ true = true_same the_attribute a Meta e in let f = rw t at h in cc

-- the cells found of an attribute before `meta` are its cells
found_in_front : (c : Content) → IsResource c → (a : Attribute) → is_in_front c.kind a ≡ true → found_attribute c.kind (stored_data c) a ≡ attribute_cells (rows c) a
unfolding stored_data
found_in_front c r a h =
    let q = and_parts (not (sameb the_attribute a Meta)) (sameb the_attribute a Groups || has_key Stored c.kind a) h in
    found_shown Stored c r.part a (λ e. not_meta a q.0) (front_shown c r a q.1)

-- equal fronts, and ends that some cells more make equal
joined : (xs ys last own more : List Entry) → xs ≡ ys → last ++ more ≡ own → (xs ++ (last ++ [])) ++ more ≡ ys ++ (own ++ [])
joined xs ys last own more same rest =
    append_assoc xs (last ++ []) more ∙ ap₂ ◌++◌ same (ap (λ es. es ++ more) (append-nil last) ∙ rest ∙ sym (append-nil own))

-- the cells of a resource are those found in what is kept of it, and `meta.location`
pub found_stored : (base : List ℕ) (c : Content) → IsResource c → HasBase base c
    → cells_below base c.kind c.id (stored_data c) ≡ entries c.cells
unfolding found_cells
found_stored base c r below =
    let f = found_attribute c.kind (stored_data c) in
    let g = attribute_cells (rows c) in
    let bs = front (attributes c.kind) in
    ap (λ ls. flat_map f ls ++ location_cells base c) (meta_last c.kind)
    ∙ ap (λ es. es ++ location_cells base c) (flat_map-append f bs (Meta ∷ []))
    ∙ joined (flat_map f bs) (flat_map g bs) (f Meta) (g Meta) (location_cells base c) (same_cells f g (is_in_front c.kind) (found_in_front c r) bs (front_keys c.kind)) (found_meta base c r below)
    ∙ sym (flat_map-append g bs (Meta ∷ []))
    ∙ ap (flat_map g) (sym (meta_last c.kind))
    ∙ sym (cells_are_listed c r.part)

-- ---- documents

-- kinds of one name are one
kind_one : (j k : Kind) → kind_name j ≡ kind_name k → j ≡ k
kind_one User User e = refl
kind_one User Group e = absurd (omega (arith, ap length e))
kind_one Group User e = absurd (omega (arith, ap length e))
kind_one Group Group e = refl

-- values that are there are equal where the options are
some_one : {X : Type 0} (a b : X) → Some a ≡ Some b → a ≡ b
some_one a b e = cc

-- what is kept of a resource below a base is kept of no other
pub documents_are_apart : DocumentsAreApart
documents_are_apart base d a b first second =
    let ra = first.0.0 in
    let rb = second.0.0 in
    let same : stored_data a ≡ stored_data b = sym first.1 ∙ second.1 in
    let kinds : a.kind ≡ b.kind = kind_one a.kind b.kind (some_one _ _ (sym (resource_type_stored a ra) ∙ ap resource_type_in same ∙ resource_type_stored b rb)) in
    let texts : id_text a.id ≡ id_text b.id = some_one _ _ (sym (id_stored a ra) ∙ ap id_in same ∙ id_stored b rb) in
    let ids : a.id ≡ b.id = id_text-injective a.id b.id ra.identified.0 rb.identified.0 texts in
    let found : cells_below base a.kind a.id (stored_data a) ≡ cells_below base b.kind b.id (stored_data b) = λ i. cells_below base (kinds i) (ids i) (same i) in
    let cells : a.cells ≡ b.cells = same_entries_map a.cells b.cells (sym (found_stored base a ra first.0.1) ∙ found ∙ found_stored base b rb second.0.1) in
    λ i. record { kind = kinds i; id = ids i; cells = cells i }
