-- Look-ups in the JSON of a part, in either form.
use Rattle.std.proofs.Common.{◌≡◌, List, ◌∷◌, [], ◌++◌, Bool, true, ◌&&◌, ◌||◌, Option, Some, None, option_and_then, inl, inr, ◌⊎◌, refl, sym, ap, subst, ◌∙◌}
use Rattle.std.specs.Prelude.{not, is_none}
use Rattle.std.specs.List.{list_all, list_any}
use Rattle.std.specs.Option.{option_eq}
use Rattle.std.proofs.lemmas.Bool.{cases_Bool, and_parts}
use denote.Enum.Bare.{sameb, same_true}
use Rattle.serde_json.specs.Data.{Members, object}
use Rattle.serde_json.specs.Find.{get, get_member}
use Rattle.scim_schema.specs.declared.Kind.{Kind}
use Rattle.scim_schema.specs.declared.Kind.TheVariants.{User, Group}
use Rattle.scim_schema.specs.declared.Attribute.{Attribute}
use Rattle.scim_schema.specs.declared.Attribute.TheVariants.{Id, Groups, Meta}
use Rattle.scim_schema.specs.declared.SubAttribute.TheVariants.{Location}
use Rattle.scim_schema.specs.declared.schema_urns.Schema.{Schema}
use Rattle.scim_schema.specs.contracts.Attribute.{the_type as the_attribute}
use Rattle.scim_schema.specs.contracts.schema_urns.Schema.{the_type as the_schema}
use Rattle.scim_schema.specs.Names.{attribute_name, sub_attribute_name}
use Rattle.scim_schema.specs.Schemas.{urn, extension_of}
use Rattle.scim_schema.specs.Table.{attributes}
use Rattle.scim_schema.proofs.Facts.{attribute_one, part_keys, extension_attributes}
use Rattle.scim_cell.specs.Content.{Content}
use Rattle.scim_cell.specs.Rows.{Row, rows}
use Rattle.scim_schema.specs.declared.json_keys.JsonForm.{JsonForm}
use Rattle.scim_schema.specs.declared.json_keys.JsonForm.TheVariants.{Stored}
use Rattle.scim_schema.specs.declared.json_keys.JsonKey.{JsonKey}
use Rattle.scim_schema.specs.declared.json_keys.JsonKey.TheVariants.{Of, Schemas, Extension}
use Rattle.scim_schema.specs.JsonKeys.{key_text, keys, extension_keys, ordered_sub_attributes, stands_under}
use Rattle.scim_json.specs.PartData.{members_where, attribute_data, has_extension, extension_data, key_data, data_of}
use Rattle.scim_json.specs.Found.{object_with, attribute_in}
use Rattle.scim_json.proofs.Lookups.{is_clear, get_member-absent, get_member-present}
use Rattle.scim_json.proofs.ShapeLemmas.{IsWithout, without_extension}

-- ---- the tables, by computation

-- an attribute stands under some key
abbrev pub has_key : JsonForm → Kind → Attribute → Bool
has_key form kind a = list_any (stands_under a) (keys form kind)

-- the attributes of a kind, but for `meta`, which is the last
abbrev pub front : List Attribute → List Attribute
front [] = []
front (a ∷ []) = []
front (a ∷ b ∷ more) = a ∷ front (b ∷ more)

-- `meta` is the last
pub meta_last : (kind : Kind) → attributes kind ≡ front (attributes kind) ++ (Meta ∷ [])
meta_last User = refl
meta_last Group = refl

-- an attribute other than `meta` that is `groups`, or stands under some key that is kept
abbrev pub is_in_front : Kind → Attribute → Bool
is_in_front kind a = not (sameb the_attribute a Meta) && (sameb the_attribute a Groups || has_key Stored kind a)

-- so are all of them
pub front_keys : (kind : Kind) → list_all (is_in_front kind) (front (attributes kind)) ≡ true
unfolding keys extension_keys
front_keys User = refl
front_keys Group = refl

-- `meta` stands under such a key
meta_key : (kind : Kind) → has_key Stored kind Meta ≡ true
unfolding keys
meta_key User = refl
meta_key Group = refl

-- so does `id`
id_key : (kind : Kind) → has_key Stored kind Id ≡ true
unfolding keys
id_key User = refl
id_key Group = refl

-- `groups` is no key that is kept
groups_clear : (kind : Kind) → is_clear key_text (attribute_name Groups) (keys Stored kind) ≡ true
unfolding keys
groups_clear User = refl
groups_clear Group = refl

-- nor is `meta.location`
pub location_clear : is_clear sub_attribute_name (sub_attribute_name Location) (ordered_sub_attributes Stored Meta) ≡ true
unfolding ordered_sub_attributes
location_clear = refl

-- a schema that compares equal to the one that is there is that one
some_schema : (o : Option Schema) (s t : Schema) → o ≡ Some s → option_eq (sameb the_schema) o (Some t) ≡ true → t ≡ s
some_schema None s t e h = cc
some_schema (Some x) s t e h = let f = same_true the_schema tt x t h in cc

module _ (form : JsonForm) where
  -- ---- attributes of the core schema

  -- the members of a part
  abbrev pub members_of : Content → Members
  members_of c = members_where key_text (key_data form c) (keys form c.kind)

  -- they make up its JSON
  part_object : (c : Content) → data_of form c ≡ object (members_of c)
  unfolding data_of
  part_object c = refl

  -- the key under which an attribute stands finds it
  of_key : (c : Content) (a : Attribute) (k : JsonKey) (ms : Members) → extension_of a ≡ None → stands_under a k ≡ true → get_member (key_text k) ms ≡ key_data form c k
      → get_member (attribute_name a) ms ≡ attribute_data form (rows c) a
  of_key c a (Of b) ms n t e =
      let p = and_parts (is_none (extension_of a)) (sameb the_attribute a b) t in
      subst (λ (x : Attribute). get_member (attribute_name x) ms ≡ attribute_data form (rows c) x) (sym (attribute_one a b p.1)) e
  of_key c a Schemas ms n t e = cc
  of_key c a (Extension s) ms n t e = let f = rw n at t in cc

  -- an attribute is looked up in the object of its schema
  with_schema : (c : Content) (a : Attribute) (o : Option Schema) → extension_of a ≡ o → attribute_in a (data_of form c) ≡ option_and_then (get (attribute_name a)) (object_with o (object (members_of c)))
  with_schema c a o e = (λ i. option_and_then (get (attribute_name a)) (object_with (e i) (part_object c i)))

  -- an attribute of the core schema is found, with its value
  core_in : (c : Content) (a : Attribute) → extension_of a ≡ None → has_key form c.kind a ≡ true → attribute_in a (data_of form c) ≡ attribute_data form (rows c) a
  core_in c a n h =
      let found = get_member-present key_text (key_data form c) (stands_under a) (keys form c.kind) (part_keys form c.kind) h in
      with_schema c a None n ∙ of_key c a found.0 (members_of c) n found.1 found.2

  -- ---- attributes of an extension

  -- its object is found, and has a key for the attribute
  ext_key : (c : Content) (a : Attribute) (s : Schema) (k : JsonKey) (ms : Members) → extension_of a ≡ Some s → stands_under a k ≡ true → get_member (key_text k) ms ≡ key_data form c k
      → (get_member (urn s) ms ≡ extension_data form (rows c) s) × (list_any (sameb the_attribute a) (extension_keys s) ≡ true)
  ext_key c a s (Of b) ms x t e = let f = rw x at t in cc
  ext_key c a s Schemas ms x t e = cc
  ext_key c a s (Extension u) ms x t e =
      let p = and_parts (option_eq (sameb the_schema) (extension_of a) (Some u)) (list_any (sameb the_attribute a) (extension_keys u)) t in
      let same : u ≡ s = some_schema (extension_of a) s u x p.0 in
      subst (λ (v : Schema). (get_member (urn v) ms ≡ extension_data form (rows c) v) × (list_any (sameb the_attribute a) (extension_keys v) ≡ true)) same (e, p.1)

  -- in it the attribute is found, with its value
  ext_member : (rs : List Row) (a : Attribute) (s : Schema) → list_any (sameb the_attribute a) (extension_keys s) ≡ true
      → get_member (attribute_name a) (members_where attribute_name (attribute_data form rs) (extension_keys s)) ≡ attribute_data form rs a
  ext_member rs a s h =
      let ms = members_where attribute_name (attribute_data form rs) (extension_keys s) in
      let found = get_member-present attribute_name (attribute_data form rs) (sameb the_attribute a) (extension_keys s) (extension_attributes s) h in
      subst (λ (x : Attribute). get_member (attribute_name x) ms ≡ attribute_data form rs x) (sym (attribute_one a found.0 found.1)) found.2

  -- an attribute is found with its value, or isn't found and no row has it
  abbrev pub IsShown : Content → Attribute → Type 0
  IsShown c a = (attribute_in a (data_of form c) ≡ attribute_data form (rows c) a) ⊎ ((attribute_in a (data_of form c) ≡ None) × IsWithout a (rows c))

  -- an attribute is found in the object of its extension, or no row has it
  ext_data : (rs : List Row) (a : Attribute) (s : Schema) → extension_of a ≡ Some s → list_any (sameb the_attribute a) (extension_keys s) ≡ true
      → (option_and_then (get (attribute_name a)) (extension_data form rs s) ≡ attribute_data form rs a) ⊎ ((option_and_then (get (attribute_name a)) (extension_data form rs s) ≡ None) × IsWithout a rs)
  unfolding extension_data
  ext_data rs a s x h =
      elim (cases_Bool (has_extension rs s)) [
        | inl t ↦ inl (rw t (ext_member rs a s h))
        | inr n ↦ inr (rw n refl, without_extension s a rs x n)
      ]

  -- an attribute of an extension
  ext_in : (c : Content) (a : Attribute) (s : Schema) → extension_of a ≡ Some s → has_key form c.kind a ≡ true → IsShown c a
  ext_in c a s x h =
      let found = get_member-present key_text (key_data form c) (stands_under a) (keys form c.kind) (part_keys form c.kind) h in
      let p = ext_key c a s found.0 (members_of c) x found.1 found.2 in
      let e : attribute_in a (data_of form c) ≡ option_and_then (get (attribute_name a)) (extension_data form (rows c) s) = with_schema c a (Some s) x ∙ ap (option_and_then (get (attribute_name a))) p.0 in
      elim (ext_data (rows c) a s x p.1) [ inl d ↦ inl (e ∙ d) | inr d ↦ inr (e ∙ d.0, d.1) ]

  -- ---- all attributes

  -- an attribute of the core schema or of an extension
  shown_with : (c : Content) (a : Attribute) (o : Option Schema) → extension_of a ≡ o → has_key form c.kind a ≡ true → IsShown c a
  shown_with c a None e h = inl (core_in c a e h)
  shown_with c a (Some s) e h = ext_in c a s e h

  -- an attribute that stands under a key
  pub attribute_shown : (c : Content) (a : Attribute) → has_key form c.kind a ≡ true → IsShown c a
  attribute_shown c a h = shown_with c a (extension_of a) refl h

-- ---- the JSON that is kept

-- `id` is found with its value
pub id_shown : (c : Content) → attribute_in Id (data_of Stored c) ≡ attribute_data Stored (rows c) Id
id_shown c = core_in Stored c Id refl (id_key c.kind)

-- so is `meta`
pub meta_shown : (c : Content) → attribute_in Meta (data_of Stored c) ≡ attribute_data Stored (rows c) Meta
meta_shown c = core_in Stored c Meta refl (meta_key c.kind)

-- `groups` isn't found
pub groups_absent : (c : Content) → attribute_in Groups (data_of Stored c) ≡ None
groups_absent c = with_schema Stored c Groups None refl ∙ get_member-absent key_text (key_data Stored c) (attribute_name Groups) (keys Stored c.kind) (groups_clear c.kind)
