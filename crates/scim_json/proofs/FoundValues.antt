-- The cells that are found in a value are those that it was made of.
use Rattle.std.proofs.Common.{◌≡◌, ℕ, zero, suc, ◌+◌, List, [], ◌∷◌, ◌++◌, Bool, true, Option, Some, None, option_map, inl, inr, refl, sym, ap, ap₂, subst, ◌∙◌}
use Rattle.std.specs.Prelude.{All}
use Rattle.std.specs.List.{list_all, list_any, flat_map}
use Rattle.std.specs.Ordering.{is_eq}
use Rattle.std.proofs.lemmas.Bool.{cases_Bool, and_parts}
use Rattle.std.proofs.lemmas.List.Elements.{All-head, All-tail, All-filter}
use denote.Enum.Bare.{sameb}
use Rattle.serde_json.specs.Data.{Data, Members, no_members, member, object}
use Rattle.serde_json.specs.Find.{get_member}
use Rattle.scim_text.proofs.Facts.{printed_is_read}
use Rattle.scim_schema.specs.declared.Kind.{Kind}
use Rattle.scim_schema.specs.declared.Leaf.{Leaf}
use Rattle.scim_schema.specs.declared.Unit.{Unit as AttributeUnit}
use Rattle.scim_schema.specs.declared.Attribute.{Attribute}
use Rattle.scim_schema.specs.declared.SubAttribute.{SubAttribute}
use Rattle.scim_schema.specs.contracts.SubAttribute.{the_type as the_sub_attribute}
use Rattle.scim_schema.specs.declared.characteristics.AttributeType.{AttributeType}
use Rattle.scim_schema.specs.declared.characteristics.AttributeType.TheVariants.{String, Boolean, DateTime, Reference, Binary}
use Rattle.scim_schema.specs.Characteristics.{characteristics_of}
use Rattle.scim_schema.specs.Names.{sub_attribute_name}
use Rattle.scim_schema.specs.Units.{simple, leaf_at, whole, unit_of, is_same_leaf}
use Rattle.scim_schema.proofs.Facts.{sub_attribute_one, leaf_one, sub_attributes as sub_attributes_ascend}
use Rattle.scim_cell.specs.declared.atoms.Atom.{Atom}
use Rattle.scim_cell.specs.declared.atoms.Atom.TheVariants.{Text, Truth, Moment}
use Rattle.scim_cell.specs.declared.rows.Field.{Field}
use Rattle.scim_cell.specs.Place.{unit_cmp}
use Rattle.scim_cell.specs.Content.{Entry, HasType}
use Rattle.scim_cell.specs.Rows.{Row, values, atom_in, atom_at, cell_at, IsSoundField, IsSoundRow}
use Rattle.scim_cell.specs.Place.{sub_attributes_by_place}
use Rattle.scim_value.specs.Listing.{cell_with, values_cells}
use Rattle.scim_schema.specs.declared.json_keys.JsonForm.{JsonForm}
use Rattle.scim_schema.specs.declared.json_keys.JsonShape.{JsonShape}
use Rattle.scim_schema.specs.declared.json_keys.JsonShape.TheVariants.{Simple, Complex, MultiValued}
use Rattle.scim_schema.specs.JsonKeys.{ordered_sub_attributes}
use Rattle.scim_json.specs.PartData.{members_where, object_of, items_of, array_of, atom_data, value_data, shaped_data}
use Rattle.scim_json.specs.Found.{atom_of, if_there, found_value, found_sub_attribute, found_object, found_items, found_shaped}
use Rattle.scim_json.proofs.Lookups.{get_member-present}

-- ---- atoms

-- an atom is read back from what is written of it
atom_back : (type : AttributeType) (a : Atom) → HasType type a → atom_of type (atom_data a) ≡ Some a
atom_back Boolean (Truth b) h = refl
atom_back DateTime (Moment m) h = ap (option_map Moment) (printed_is_read m h)
atom_back String (Text t) h = refl
atom_back Reference (Text t) h = refl
atom_back Binary (Text t) h = refl
atom_back _ _ h = absurd h

-- an atom that is there has the type of the leaf
abbrev pub FitsLeaf : Kind → Leaf → Option Atom → Type 0
FitsLeaf kind l None = Unit {0}
FitsLeaf kind l (Some a) = HasType (characteristics_of kind l).attribute_type a

-- so has the one that a sound row has
pub fits_in : (kind : Kind) (u : AttributeUnit) (l : Leaf) (fs : List Field) → All (IsSoundField kind u) fs → FitsLeaf kind l (atom_in l fs)
fits_in kind u l [] h = tt
fits_in kind u l (f ∷ fs) h =
    elim (cases_Bool (is_same_leaf f.leaf l)) [
      | inl t ↦ rw t (subst (λ (m : Leaf). HasType (characteristics_of kind m).attribute_type f.atom) (leaf_one f.leaf l t) (All-head (IsSoundField kind u) f fs h).2)
      | inr n ↦ rw n (fits_in kind u l fs (All-tail (IsSoundField kind u) f fs h))
    ]

-- so has the one that a row at a position has
fits_at : (kind : Kind) (l : Leaf) (k : ℕ) (rs : List Row) → All (IsSoundRow kind) rs → FitsLeaf kind l (atom_at l k rs)
fits_at kind l k [] h = tt
fits_at kind l zero (r ∷ rs) h = fits_in kind r.unit l r.fields (All-head (IsSoundRow kind) r rs h).own
fits_at kind l (suc k) (r ∷ rs) h = fits_at kind l k rs (All-tail (IsSoundRow kind) r rs h)

-- the rows of a unit are sound too
pub sound_values : (kind : Kind) (u : AttributeUnit) (rs : List Row) → All (IsSoundRow kind) rs → All (IsSoundRow kind) (values u rs)
sound_values kind u rs h = All-filter (λ (r : Row). is_eq (unit_cmp r.unit u)) (IsSoundRow kind) rs h

-- and so has the one that sound rows have
pub fits_cell : (kind : Kind) (l : Leaf) (k : ℕ) (rs : List Row) → All (IsSoundRow kind) rs → FitsLeaf kind l (cell_at l k rs)
fits_cell kind l k rs h = fits_at kind l k (values (unit_of l) rs) (sound_values kind (unit_of l) rs h)

-- ---- objects

-- no cells from each are no cells
flat_map-nothing : {K A : Type 0} (xs : List K) → flat_map (λ (x : K). let none : List A = [] in none) xs ≡ []
flat_map-nothing [] = refl
flat_map-nothing (x ∷ xs) = flat_map-nothing xs

-- an object without members has no cells, and may be left out
pub found_object_of : (kind : Kind) (a : Attribute) (k : ℕ) (ms : Members) → if_there (found_object kind a k) (object_of ms) ≡ found_object kind a k (object ms)
found_object_of kind a k no_members = sym (flat_map-nothing (sub_attributes_by_place a))
found_object_of kind a k (member l d ms) = refl

-- a value that may be missing, as the cell that it stands for
found_atom : (kind : Kind) (l : Leaf) (k : ℕ) (o : Option Atom) → FitsLeaf kind l o → if_there (found_value kind l k) (option_map atom_data o) ≡ cell_with l k o
found_atom kind l k None h = refl
found_atom kind l k (Some a) h = ap (cell_with l k) (atom_back (characteristics_of kind l).attribute_type a h)

-- the cells of an attribute, by its shape and its sub-attributes
abbrev pub shaped_cells : List Row → Attribute → JsonShape → List SubAttribute → List Entry
shaped_cells rs a Simple bs = cell_with (simple a) 0 (cell_at (simple a) 0 rs)
shaped_cells rs a Complex bs = flat_map (λ b. cell_with (leaf_at a b) 0 (cell_at (leaf_at a b) 0 rs)) bs
shaped_cells rs a MultiValued bs = values_cells a 0 (values (whole a) rs)

module _ (form : JsonForm) where
  -- a sub-attribute that is written in the object of its attribute
  abbrev pub is_written : Attribute → SubAttribute → Bool
  is_written a b = list_any (sameb the_sub_attribute b) (ordered_sub_attributes form a)

  -- all sub-attributes are
  abbrev pub all_written : Attribute → Bool
  all_written a = list_all (is_written a) (sub_attributes_by_place a)

  -- the members of such an object
  abbrev pub written_members : Attribute → (SubAttribute → Option Data) → Members
  written_members a value = members_where sub_attribute_name value (ordered_sub_attributes form a)

  -- a sub-attribute that is written is found, with its value
  pub get_member-written : (a : Attribute) (value : SubAttribute → Option Data) (b : SubAttribute) → is_written a b ≡ true → get_member (sub_attribute_name b) (written_members a value) ≡ value b
  get_member-written a value b h =
      let found = get_member-present sub_attribute_name value (sameb the_sub_attribute b) (ordered_sub_attributes form a) (sub_attributes_ascend form a) h in
      subst (λ (s : SubAttribute). get_member (sub_attribute_name s) (written_members a value) ≡ value s) (sym (sub_attribute_one b found.0 found.1)) found.2

  module _ (kind : Kind) (a : Attribute) where
    module _ (k : ℕ) (cells : SubAttribute → Option Atom) (fit : (b : SubAttribute) → FitsLeaf kind (leaf_at a b) (cells b)) where
      -- the object that is written of such cells
      abbrev pub written_object : Data
      written_object = object (written_members a (λ b. option_map atom_data (cells b)))

      -- the cells of those sub-attributes that are written
      pub found_written : (bs : List SubAttribute) → list_all (is_written a) bs ≡ true → flat_map (found_sub_attribute kind a k written_object) bs ≡ flat_map (λ b. cell_with (leaf_at a b) k (cells b)) bs
      found_written [] h = refl
      found_written (b ∷ bs) h =
          let p = and_parts (is_written a b) (list_all (is_written a) bs) h in
          let here = ap (if_there (found_value kind (leaf_at a b) k)) (get_member-written a (λ b. option_map atom_data (cells b)) b p.0) in
          ap₂ ◌++◌ (here ∙ found_atom kind (leaf_at a b) k (cells b) (fit b)) (found_written bs p.1)

    -- an array that is left out where it would be empty has no cells then
    found_array : (vs : List Row) → if_there (found_shaped kind a MultiValued) (array_of (items_of (value_data form a) vs)) ≡ found_items kind a 0 (items_of (value_data form a) vs)
    found_array [] = refl
    found_array (v ∷ vs) = refl

    -- ---- values of a shape, where all sub-attributes are written

    module _ (all : all_written a ≡ true) where
      -- the cells of the values of a multi-valued attribute
      found_values : (k : ℕ) (vs : List Row) → All (IsSoundRow kind) vs → found_items kind a k (items_of (value_data form a) vs) ≡ values_cells a k vs
      found_values k [] h = refl
      found_values k (v ∷ vs) h =
          let own = (All-head (IsSoundRow kind) v vs h).own in
          ap₂ ◌++◌ (found_written k (λ b. atom_in (leaf_at a b) v.fields) (λ b. fits_in kind v.unit (leaf_at a b) v.fields own) (sub_attributes_by_place a) all) (found_values (k + 1) vs (All-tail (IsSoundRow kind) v vs h))

      -- the cells of an attribute of some shape
      pub found_shape : (rs : List Row) → All (IsSoundRow kind) rs → (shape : JsonShape) → if_there (found_shaped kind a shape) (shaped_data form shape rs a) ≡ shaped_cells rs a shape (sub_attributes_by_place a)
      found_shape rs sound Simple = found_atom kind (simple a) 0 (cell_at (simple a) 0 rs) (fits_cell kind (simple a) 0 rs sound)
      found_shape rs sound Complex =
          found_object_of kind a 0 (written_members a (λ b. option_map atom_data (cell_at (leaf_at a b) 0 rs)))
          ∙ found_written 0 (λ b. cell_at (leaf_at a b) 0 rs) (λ b. fits_cell kind (leaf_at a b) 0 rs sound) (sub_attributes_by_place a) all
      found_shape rs sound MultiValued = found_array (values (whole a) rs) ∙ found_values 0 (values (whole a) rs) (sound_values kind (whole a) rs sound)
