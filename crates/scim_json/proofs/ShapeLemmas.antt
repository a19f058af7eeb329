-- The cells of an attribute by its shape, and of an attribute that no row has.
use Rattle.std.proofs.Common.{◌≡◌, ◌≢◌, List, [], ◌∷◌, ◌++◌, append-nil, Bool, true, false, ◌||◌, Option, Some, None, inl, inr, refl, ap, ap₂, ◌∙◌}
use Rattle.std.specs.Prelude.{All, if◌then◌else◌}
use Rattle.std.specs.List.{list_any, flat_map}
use Rattle.std.specs.Option.{option_eq}
use Rattle.std.specs.Ordering.{is_eq}
use Rattle.std.proofs.lemmas.Bool.{cases_Bool, not-true}
use Rattle.std.proofs.lemmas.List.Elements.{All-head, All-tail, All-nil, All-cons}
use Rattle.std.proofs.lemmas.List.Folds.{flat_map-map}
use denote.Enum.Bare.{sameb, true_same}
use Rattle.scim_schema.specs.declared.Kind.{Kind}
use Rattle.scim_schema.specs.declared.Unit.{Unit as AttributeUnit}
use Rattle.scim_schema.specs.declared.Attribute.{Attribute}
use Rattle.scim_schema.specs.declared.Attribute.TheVariants.{Id, Name, Emails, PhoneNumbers, Ims, Photos, Addresses, Groups, Entitlements, Roles, X509Certificates, Manager, Members, Meta}
use Rattle.scim_schema.specs.declared.SubAttribute.{SubAttribute}
use Rattle.scim_schema.specs.declared.schema_urns.Schema.{Schema}
use Rattle.scim_schema.specs.contracts.schema_urns.Schema.{the_type as the_schema}
use Rattle.scim_schema.specs.Characteristics.{is_multi_valued}
use Rattle.scim_schema.specs.Schemas.{extension_of}
use Rattle.scim_schema.specs.Table.{leaves_with}
use Rattle.scim_schema.specs.Units.{simple, leaf_at, whole, unit_of}
use Rattle.scim_cell.specs.declared.rows.Field.{Field}
use Rattle.scim_cell.specs.Place.{unit_cmp}
use Rattle.scim_cell.specs.Rows.{Row, values, cell_at, atom_at, has_fields, IsSoundField, AreSound}
use Rattle.scim_value.specs.Resource.{MayBeKept}
use Rattle.scim_cell.specs.Place.{sub_attributes_by_place}
use Rattle.scim_value.specs.Listing.{cell_with, values_cells, attribute_cells}
use Rattle.scim_value.proofs.Facts.{unit_same}
use Rattle.scim_schema.specs.declared.json_keys.JsonForm.{JsonForm}
use Rattle.scim_schema.specs.declared.json_keys.JsonForm.TheVariants.{Shown, Stored}
use Rattle.scim_schema.specs.declared.json_keys.JsonShape.{JsonShape}
use Rattle.scim_schema.specs.declared.json_keys.JsonShape.TheVariants.{Simple, Complex, MultiValued}
use Rattle.scim_schema.specs.JsonKeys.{shape_of, ordered_sub_attributes}
use Rattle.scim_json.specs.PartData.{has_extension}
use Rattle.scim_json.proofs.Shapes.{fits}
use Rattle.scim_json.proofs.FoundValues.{all_written, shaped_cells}

-- ---- the tables, by computation

-- the shape of each attribute fits it
pub shape_fits : (a : Attribute) → fits (shape_of a) (is_multi_valued a) (sub_attributes_by_place a) ≡ true
unfolding shape_of sub_attributes_by_place
shape_fits Id = refl
shape_fits _ = refl

-- all sub-attributes are written, but that `meta.location` isn't kept
pub all_but_location : (form : JsonForm) (a : Attribute) → (form ≡ Stored → a ≢ Meta) → all_written form a ≡ true
unfolding ordered_sub_attributes sub_attributes_by_place
all_but_location Shown Meta h = refl
all_but_location Stored Meta h = absurd (h refl refl)
all_but_location form Name h = refl
all_but_location form Emails h = refl
all_but_location form PhoneNumbers h = refl
all_but_location form Ims h = refl
all_but_location form Photos h = refl
all_but_location form Addresses h = refl
all_but_location form Groups h = refl
all_but_location form Entitlements h = refl
all_but_location form Roles h = refl
all_but_location form X509Certificates h = refl
all_but_location form Manager h = refl
all_but_location form Members h = refl
all_but_location form _ h = refl

-- ---- the cells of an attribute

-- cells of a value that a shape fits
by_shape : (rs : List Row) (a : Attribute) (shape : JsonShape) (many : Bool) (bs : List SubAttribute) → fits shape many bs ≡ true
    → (if many then values_cells a 0 (values (whole a) rs) else flat_map (λ l. cell_with l 0 (cell_at l 0 rs)) (leaves_with a bs)) ≡ shaped_cells rs a shape bs
by_shape rs a Simple many [] h = rw (not-true many h) (append-nil (cell_with (simple a) 0 (cell_at (simple a) 0 rs)))
by_shape rs a Simple many (b ∷ bs) h = cc
by_shape rs a Complex many [] h = cc
by_shape rs a Complex many (b ∷ bs) h = rw (not-true many h) (flat_map-map (λ l. cell_with l 0 (cell_at l 0 rs)) (leaf_at a) (b ∷ bs))
by_shape rs a MultiValued many bs h = rw h refl

-- they are those of its shape
pub attribute_cells-shape : (rs : List Row) (a : Attribute) → attribute_cells rs a ≡ shaped_cells rs a (shape_of a) (sub_attributes_by_place a)
attribute_cells-shape rs a = by_shape rs a (shape_of a) (is_multi_valued a) (sub_attributes_by_place a) (shape_fits a)

-- no row has the attribute
abbrev pub IsWithout : Attribute → List Row → Type 0
IsWithout a rs = All (λ (r : Row). r.unit.attribute ≢ a) rs

-- so there is no value of it
values_nothing : (u : AttributeUnit) (rs : List Row) → IsWithout u.attribute rs → values u rs ≡ []
values_nothing u [] h = refl
values_nothing u (r ∷ rs) h =
    let P = λ (s : Row). s.unit.attribute ≢ u.attribute in
    elim (cases_Bool (is_eq (unit_cmp r.unit u))) [
      | inl t ↦ absurd (All-head P r rs h (ap (λ (v : AttributeUnit). v.attribute) (unit_same r.unit u t)))
      | inr n ↦ rw n (values_nothing u rs (All-tail P r rs h))
    ]

-- nor a cell of a sub-attribute
subs_nothing : (rs : List Row) (a : Attribute) → IsWithout a rs → (bs : List SubAttribute) → flat_map (λ b. cell_with (leaf_at a b) 0 (cell_at (leaf_at a b) 0 rs)) bs ≡ []
subs_nothing rs a h [] = refl
subs_nothing rs a h (b ∷ bs) =
    ap₂ ◌++◌ (ap (λ vs. cell_with (leaf_at a b) 0 (atom_at (leaf_at a b) 0 vs)) (values_nothing (unit_of (leaf_at a b)) rs h)) (subs_nothing rs a h bs)

-- nor a cell of its shape
shape_nothing : (rs : List Row) (a : Attribute) → IsWithout a rs → (shape : JsonShape) → shaped_cells rs a shape (sub_attributes_by_place a) ≡ []
shape_nothing rs a h Simple = ap (λ vs. cell_with (simple a) 0 (atom_at (simple a) 0 vs)) (values_nothing (unit_of (simple a)) rs h)
shape_nothing rs a h Complex = subs_nothing rs a h (sub_attributes_by_place a)
shape_nothing rs a h MultiValued = ap (values_cells a 0) (values_nothing (whole a) rs h)

-- so it has no cells
pub attribute_cells-nothing : (rs : List Row) (a : Attribute) → IsWithout a rs → attribute_cells rs a ≡ []
attribute_cells-nothing rs a h = attribute_cells-shape rs a ∙ shape_nothing rs a h (shape_of a)

-- ---- attributes that no row has

-- neither of two is true
or_left_false : (p q : Bool) → (p || q) ≡ false → p ≡ false
or_left_false true q h = cc
or_left_false false q h = refl

-- so the second isn't
or_right_false : (p q : Bool) → (p || q) ≡ false → q ≡ false
or_right_false true q h = cc
or_right_false false q h = h

-- a schema that is there compares equal to itself
schema_same : (o : Option Schema) (s : Schema) → o ≡ Some s → option_eq (sameb the_schema) o (Some s) ≡ true
schema_same None s e = cc
schema_same (Some t) s e = true_same the_schema t s (cc)

-- those of an extension that isn't there
pub without_extension : (s : Schema) (a : Attribute) (rs : List Row) → extension_of a ≡ Some s → has_extension rs s ≡ false → IsWithout a rs
unfolding has_extension
without_extension s a [] e h = All-nil (λ (r : Row). r.unit.attribute ≢ a)
without_extension s a (r ∷ rs) e h =
    let own = λ (r : Row). option_eq (sameb the_schema) (extension_of r.unit.attribute) (Some s) in
    let n : own r ≡ false = or_left_false (own r) (list_any own rs) h in
    All-cons (λ (r : Row). r.unit.attribute ≢ a) r rs
    (λ same. (let t : own r ≡ true = schema_same (extension_of r.unit.attribute) s (ap extension_of same ∙ e) in cc))
    (without_extension s a rs e (or_right_false (own r) (list_any own rs) h))

-- a row whose fields may be kept isn't of `groups`
row_without : (kind : Kind) (u : AttributeUnit) (fs : List Field) → has_fields (record { unit = u; fields = fs }) ≡ true → All (IsSoundField kind u) fs → All (MayBeKept kind) fs → u.attribute ≢ Groups
row_without kind u [] full own kept = cc
row_without kind u (f ∷ fs) full own kept = λ e.
    (All-head (MayBeKept kind) f fs kept).own (ap (λ (v : AttributeUnit). v.attribute) (All-head (IsSoundField kind u) f fs own).0 ∙ e)

-- `groups`, in a resource
pub without_groups : (kind : Kind) (rs : List Row) → AreSound kind rs → All (λ r. All (MayBeKept kind) r.fields) rs → IsWithout Groups rs
without_groups kind rs sound kept i d l = row_without kind _ _ (sound.full i d l) (sound.own i d l).own (kept i d l)
