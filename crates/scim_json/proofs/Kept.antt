-- What is written for a part is read back as the same value.
use Rattle.std.proofs.Common.{◌≡◌, ℕ, List, [], Bool, true, false, Option, Some, None, option_map, option_and_then, refl, sym, ap, ◌∙◌, arith, append-nil}
use Rattle.std.specs.Prelude.{if◌then◌else◌, filter}
use Rattle.json.specs.Json as json
use Rattle.json.specs.Lex.{tokens}
use Rattle.json.proofs.Printed.Tokens.{tokens-print}
use Rattle.json.proofs.Printed.Trees.{value-json_tokens, ArePrintable-json_tokens}
use Rattle.serde_json.specs.Data.{Data}
use Rattle.serde_json.specs.Read.{of_json, read, max_depth}
use Rattle.serde_json.specs.Written.{outline, compact_text}
use Rattle.serde_json.proofs.Texts.{print-outline}
use Rattle.scim_schema.specs.declared.Attribute.{Attribute}
use Rattle.scim_schema.specs.declared.schema_urns.Schema.{Schema}
use Rattle.scim_schema.specs.Names.{attribute_name, sub_attribute_name}
use Rattle.scim_schema.specs.Schemas.{core_schema, extensions}
use Rattle.scim_schema.specs.Units.{whole}
use Rattle.scim_cell.specs.declared.atoms.Atom.{Atom}
use Rattle.scim_cell.specs.declared.atoms.Atom.TheVariants.{Text, Truth, Moment}
use Rattle.scim_cell.specs.Content.{Content}
use Rattle.scim_cell.specs.Rows.{Row, rows, values}
use Rattle.scim_schema.specs.declared.json_keys.JsonForm.{JsonForm}
use Rattle.scim_schema.specs.declared.json_keys.JsonForm.TheVariants.{Stored}
use Rattle.scim_schema.specs.declared.json_keys.JsonKey.{JsonKey}
use Rattle.scim_schema.specs.declared.json_keys.JsonKey.TheVariants.{Of, Schemas, Extension}
use Rattle.scim_schema.specs.declared.json_keys.JsonShape.{JsonShape}
use Rattle.scim_schema.specs.declared.json_keys.JsonShape.TheVariants.{Simple, Complex, MultiValued}
use Rattle.scim_schema.specs.JsonKeys.{key_text, keys, extension_keys, ordered_sub_attributes, shape_of}
use Rattle.scim_json.specs.PartData.{atom_data, field_data, value_data, sub_data, shaped_data, attribute_data, urn_data, has_extension, schemas_data, extension_data, key_data, data_of, stored_data}
use Rattle.scim_json.specs.Laws.{KeptReadsBack}
use Rattle.scim_json.specs.Tokens.{value_tokens}
use Rattle.scim_json.proofs.Ascending.{IsKept, IfKept, AreKept-item, AreKept-items, IsKept-array, IfKept-array_of, IsKept-object, IfKept-object_of, deeper}
use Rattle.scim_schema.proofs.Facts.{part_keys, extension_attributes, sub_attributes}

-- the value of an atom
IsKept-atom : (n : ℕ) (a : Atom) → IsKept n (atom_data a)
IsKept-atom n (Text t) = record { reads = refl; exact = refl; numbered = tt; shallow = omega arith }
IsKept-atom n (Truth b) = record { reads = refl; exact = refl; numbered = tt; shallow = omega arith }
IsKept-atom n (Moment m) = record { reads = refl; exact = refl; numbered = tt; shallow = omega arith }

-- the value of an atom that may be there
IfKept-atom : (n : ℕ) (o : Option Atom) → IfKept n (option_map atom_data o)
IfKept-atom n None = tt
IfKept-atom n (Some a) = IsKept-atom n a

-- a value that is there where a test passes
IfKept-then : (n : ℕ) (b : Bool) (d : Data) → IsKept n d → IfKept n (if b then Some d else None)
IfKept-then n true d h = h
IfKept-then n false d h = tt

-- one value of a multi-valued attribute
IsKept-value : (form : JsonForm) (a : Attribute) (r : Row) → IsKept 1 (value_data form a r)
IsKept-value form a r = IsKept-object sub_attribute_name (field_data a r.fields) 0 (λ b. IfKept-atom 0 _) (ordered_sub_attributes form a) (sub_attributes form a)

-- the value of an attribute, by its shape
IfKept-shaped : (form : JsonForm) (s : JsonShape) (rs : List Row) (a : Attribute) → IfKept 2 (shaped_data form s rs a)
IfKept-shaped form Simple rs a = IfKept-atom 2 _
IfKept-shaped form Complex rs a = IfKept-object_of 2 _ (IsKept-object sub_attribute_name (sub_data rs a) 1 (λ b. IfKept-atom 1 _) (ordered_sub_attributes form a) (sub_attributes form a))
IfKept-shaped form MultiValued rs a = IfKept-array_of 1 _ (AreKept-items 1 (value_data form a) (IsKept-value form a) (values (whole a) rs))

-- the value of an attribute
IfKept-attribute : (form : JsonForm) (rs : List Row) (a : Attribute) → IfKept 2 (attribute_data form rs a)
IfKept-attribute form rs a = IfKept-shaped form (shape_of a) rs a

-- the URN of a schema
IsKept-urn : (n : ℕ) (s : Schema) → IsKept n (urn_data s)
IsKept-urn n s = record { reads = refl; exact = refl; numbered = tt; shallow = omega arith }

-- the value of `schemas`
IsKept-schemas : (rs : List Row) (core : Schema) (extended : List Schema) → IsKept 3 (schemas_data rs core extended)
IsKept-schemas rs core extended = IsKept-array 2 _ (AreKept-item 2 _ _ (IsKept-urn 2 core) (AreKept-items 2 urn_data (IsKept-urn 2) (filter (has_extension rs) extended)))

-- the object of an extension
IfKept-extension : (form : JsonForm) (rs : List Row) (s : Schema) → IfKept 3 (extension_data form rs s)
unfolding extension_data
IfKept-extension form rs s = IfKept-then 3 (has_extension rs s) _ (IsKept-object attribute_name (attribute_data form rs) 2 (IfKept-attribute form rs) (extension_keys s) (extension_attributes s))

-- the value of a key
IfKept-key : (form : JsonForm) (c : Content) (k : JsonKey) → IfKept 3 (key_data form c k)
IfKept-key form c (Of a) = deeper 2 _ (IfKept-attribute form (rows c) a)
IfKept-key form c Schemas = IsKept-schemas (rows c) (core_schema c.kind) (extensions c.kind)
IfKept-key form c (Extension s) = IfKept-extension form (rows c) s

-- the JSON of a part
pub data_of-IsKept : (form : JsonForm) (c : Content) → IsKept 4 (data_of form c)
unfolding data_of
data_of-IsKept form c = IsKept-object key_text (key_data form c) 3 (IfKept-key form c) (keys form c.kind) (part_keys form c.kind)

-- a text with the tokens of a value is read as the value
pub read_from_tokens : (d : Data) (s : List ℕ) → IsKept 4 d → tokens s ≡ value_tokens d → read s ≡ Some d
read_from_tokens d s h same =
    ap (λ o. option_and_then of_json (option_and_then (λ p. json.if_last p.0 p.1) o)) (ap (json.value max_depth) (same ∙ sym (append-nil _)) ∙ value-json_tokens (outline d) max_depth [] (omega (arith, h.shallow)))
    ∙ h.reads

-- a text with the tokens of a part's JSON is read as that JSON
pub read_from_part : (form : JsonForm) (c : Content) (s : List ℕ) → tokens s ≡ value_tokens (data_of form c) → read s ≡ Some (data_of form c)
read_from_part form c s same = read_from_tokens (data_of form c) s (data_of-IsKept form c) same

-- so is the text that is written of the value
read_from_text : (d : Data) → IsKept 4 d → read (compact_text d) ≡ Some d
read_from_text d h =
    read_from_tokens d (compact_text d) h (ap tokens (sym (print-outline d)) ∙ tokens-print (value_tokens d) (ArePrintable-json_tokens (outline d) h.numbered))

-- and the one that is kept of a part
pub kept_reads_back : KeptReadsBack
unfolding stored_data
kept_reads_back c = read_from_text (data_of Stored c) (data_of-IsKept Stored c)
