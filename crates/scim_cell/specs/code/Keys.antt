-- Keys for the look-up of values: values that are the same have the same key.
use Rattle.std.specs.Prelude.{ℕ, ◌≡◌, String, List, [], ◌++◌, Option, Some, None, is_some, true, false, codes, decimal, length, if◌then◌else◌}
use Rattle.std.specs.List.{list_any, flat_map}
use Rattle.std.specs.Str.{bytes_eq}
use Rattle.std.specs.declared.alloc.Global.{Global}
use Rattle.std.specs.BTreeMap.{BTreeMap, get_by_text}
use Rattle.scim_schema.specs.declared.Attribute.{Attribute}
use Rattle.scim_schema.specs.declared.SubAttribute.{SubAttribute}
use Rattle.scim_schema.specs.Names.{sub_attribute_name}
use Rattle.scim_cell.specs.declared.atoms.Atom.{Atom}
use Rattle.scim_cell.specs.declared.atoms.Atom.TheVariants.{Text, Truth, Moment}
use Rattle.scim_cell.specs.declared.rows.Field.{Field}
use Rattle.scim_cell.specs.Rows.{Row}
use Rattle.scim_cell.specs.SameValues.{is_members, member_value}

-- the text that an atom adds to a key
abbrev pub atom_key : Atom → List ℕ
atom_key (Text t) = t
atom_key (Truth true) = codes "true"
atom_key (Truth false) = []
atom_key (Moment m) = []

-- the text that an atom adds to a key, or the empty text if there is no atom
abbrev pub some_key : Option Atom → List ℕ
some_key None = []
some_key (Some atom) = atom_key atom

-- the name of a sub-attribute, or the empty text if there is no sub-attribute
abbrev pub name_key : Option SubAttribute → List ℕ
name_key None = []
name_key (Some b) = sub_attribute_name b

-- the text that a field adds to a key: the name of the sub-attribute, the length of the atom's text and the
-- atom's text
unfoldable pub field_key : Field → List ℕ
field_key f = name_key f.leaf.sub_attribute ++ (codes " " ++ (decimal (length (atom_key f.atom)) ++ (codes " " ++ atom_key f.atom)))

-- the texts that the fields add to a key, joined in order
abbrev pub fields_key : List Field → List ℕ
fields_key fs = flat_map field_key fs

-- the key of a value; values that are the same have the same key
abbrev pub key_of : Attribute → Row → List ℕ
key_of a r = if is_members a then some_key (member_value r) else fields_key r.fields

-- a map from keys to indexes
abbrev pub Places : Type 0
Places = BTreeMap (String Global) ℕ

-- the map contains a key exactly if one of the values has this key
abbrev pub Covers : Places → Attribute → List Row → Type 0
Covers m a rs = (q : List ℕ) → is_some (get_by_text m q) ≡ list_any (λ r. bytes_eq q (key_of a r)) rs
