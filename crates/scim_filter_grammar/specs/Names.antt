-- How attribute paths are spelled, and what they refer to in the attribute table.
use Rattle.std.specs.Prelude.{◌≡◌, ℕ, Bool, true, false, ◌&&◌, ◌||◌, ◌==◌, nat_le, List, [], ◌∷◌, ◌++◌, codes, Option, Some, None, option_and_then}
use Rattle.std.specs.List.{list_all}
use Rattle.scim_schema.specs.declared.Attribute.{Attribute}
use Rattle.scim_schema.specs.declared.SubAttribute.{SubAttribute}
use Rattle.scim_schema.specs.declared.Kind.{Kind}
use Rattle.scim_schema.specs.Lookup.{attribute_named, attribute_named_in, sub_attribute_named, schema_named}
use Rattle.scim_filter_grammar.specs.declared.tree.Meant.{Meant}
use Rattle.scim_filter_grammar.specs.declared.tree.Meant.TheVariants as meant
use Rattle.scim_filter_grammar.specs.declared.tree.Scope.{Scope}
use Rattle.scim_filter_grammar.specs.declared.tree.Scope.TheVariants.{Attributes, SubAttributes}
use Rattle.scim_filter_grammar.specs.declared.tree.AttributePath.{AttributePath}
use Rattle.scim_filter_grammar.specs.Bytes.{front, is_word, is_no_colon}

-- whether the byte is an ASCII letter
abbrev pub is_letter : ℕ → Bool
is_letter b = nat_le 65 b && nat_le b 90 || nat_le 97 b && nat_le b 122

-- whether the byte may be part of a name: a letter, a digit, "$", "-" or "_"
abbrev pub is_name_byte : ℕ → Bool
is_name_byte b = is_letter b || nat_le 48 b && nat_le b 57 || b == 36 || b == 45 || b == 95

-- whether the text is a letter, followed by letters, digits, "$", "-" and "_" (RFC 7643 section 2.1)
abbrev pub is_plain_name : List ℕ → Bool
is_plain_name [] = false
is_plain_name (b ∷ bs) = is_letter b && list_all is_name_byte bs

-- whether the text is a plain name or "$ref"
abbrev pub is_name : List ℕ → Bool
is_name text = is_plain_name text || is_word (codes "$ref") text

-- whether the byte may be part of a URN: a byte that may be part of a name, "." or ":"
abbrev pub is_urn_byte : ℕ → Bool
is_urn_byte b = is_name_byte b || b == 46 || b == 58

-- whether the text is a URN: it has "urn" before the first colon, and all its bytes may be part of a URN
abbrev pub is_urn : List ℕ → Bool
is_urn text = is_word (codes "urn") (front is_no_colon text) && list_all is_urn_byte text

-- the text of the names in a path: name [ "." name ]
abbrev pub names_text : List ℕ → Option (List ℕ) → List ℕ
names_text name None = name
names_text name (Some sub) = name ++ 46 ∷ sub

-- the text of a path: [ urn ":" ] names
abbrev pub path_text : Option (List ℕ) → List ℕ → List ℕ
path_text None names = names
path_text (Some urn) names = urn ++ 58 ∷ names

-- there is no text, or the text passes the test
abbrev pub IsPassed : (List ℕ → Bool) → Option (List ℕ) → Type 0
IsPassed test None = Unit {0}
IsPassed test (Some text) = test text ≡ true

-- whether a path may have this URN and sub-attribute in a scope; in brackets it may have neither
abbrev pub fits_scope : Scope → Option (List ℕ) → Option (List ℕ) → Bool
fits_scope (Attributes kind) urn sub = true
fits_scope (SubAttributes a) None None = true
fits_scope (SubAttributes a) None (Some sub) = false
fits_scope (SubAttributes a) (Some urn) sub = false

-- the attribute of a kind with this name, in the schema with this URN if one is given (RFC 7644 section
-- 3.10)
abbrev pub attribute_by : Kind → Option (List ℕ) → List ℕ → Option Attribute
attribute_by kind None name = attribute_named kind name
attribute_by kind (Some urn) name = option_and_then (λ s. attribute_named_in kind s name) (schema_named urn)

-- what a path names if a look-up among the attribute's sub-attributes had this result: the sub-attribute, or
-- Nothing for None
abbrev pub sub_meant : Attribute → Option SubAttribute → Meant
sub_meant a None = meant.Nothing
sub_meant a (Some b) = meant.SubAttribute a b

-- the attribute, or its sub-attribute with this name if a name is given; Nothing if the attribute or the
-- sub-attribute doesn't exist
abbrev pub meant_in : Option Attribute → Option (List ℕ) → Meant
meant_in None sub = meant.Nothing
meant_in (Some a) None = meant.Attribute a
meant_in (Some a) (Some sub) = sub_meant a (sub_attribute_named a sub)

-- the attribute or sub-attribute that the names of a path refer to in a scope; Nothing if a name is unknown
abbrev pub meant_by : Scope → Option (List ℕ) → List ℕ → Option (List ℕ) → Meant
meant_by (Attributes kind) urn name sub = meant_in (attribute_by kind urn name) sub
meant_by (SubAttributes a) urn name sub = meant_in a (Some name)

-- the text spells the path: [ urn ":" ] name [ "." name ]
pub record IsPath (scope : Scope) (text : List ℕ) (path : AttributePath) : Type 0 where
  pub urn_is : IsPassed is_urn path.urn
  pub name_is : is_name path.name ≡ true
  pub sub_is : IsPassed is_name path.sub_name
  pub fits : fits_scope scope path.urn path.sub_name ≡ true
  pub whole : text ≡ path_text path.urn (names_text path.name path.sub_name)
  pub leads : path.meant ≡ meant_by scope path.urn path.name path.sub_name
