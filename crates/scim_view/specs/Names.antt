-- The leaves that the texts of an attribute list name (RFC 7644 sections 3.9 and 3.10).
use Rattle.std.specs.Prelude.{ℕ, Bool, false, ◌||◌, List, Option, None, Some, option_map, unwrap_or}
use Rattle.std.specs.HashSet.{contains}
use Rattle.scim_schema.specs.declared.Kind.{Kind}
use Rattle.scim_schema.specs.declared.Attribute.{Attribute}
use Rattle.scim_schema.specs.declared.Leaf.{Leaf}
use Rattle.scim_schema.specs.declared.schema_urns.Schema.{Schema}
use Rattle.scim_schema.specs.Schemas.{extension_of, is_same_schema}
use Rattle.scim_schema.specs.Units.{leaf_at, is_same_attribute, is_same_leaf}
use Rattle.scim_filter_grammar.specs.declared.tree.Meant.{Meant}
use Rattle.scim_filter_grammar.specs.declared.tree.Meant.TheVariants.{Nothing, Attribute as AnAttribute, SubAttribute as ASubAttribute}
use Rattle.scim_filter_grammar.specs.declared.tree.AttributePath.{AttributePath}
use Rattle.scim_filter_grammar.specs.Spelled.{path_in}
use Rattle.scim_path.specs.Paths.{extension_named}
use Rattle.scim_view.specs.declared.attribute_lists.Names.{Names}

-- whether the option has a value and the test accepts it
abbrev pub is_there : {X : Type 0} → (X → Bool) → Option X → Bool
is_there test None = false
is_there test (Some x) = test x

-- whether the attribute of the leaf belongs to the extension
abbrev pub belongs_to : Schema → Leaf → Bool
belongs_to s l = is_there (is_same_schema s) (extension_of l.attribute)

-- whether a path with this meaning names the leaf, or the attribute of the leaf
abbrev pub is_meant : Meant → Leaf → Bool
is_meant Nothing l = false
is_meant (AnAttribute a) l = is_same_attribute a l.attribute
is_meant (ASubAttribute a b) l = is_same_leaf (leaf_at a b) l

-- the meaning of a text for a kind; `Nothing` if the text isn't a path
abbrev pub meaning_of : Kind → List ℕ → Meant
meaning_of kind t = unwrap_or (option_map (λ (p : AttributePath). p.meant) (path_in kind t)) Nothing

-- whether a text names a leaf of a kind: by the URN of its extension, or by the path of the leaf or its
-- attribute
abbrev pub names_leaf : Kind → List ℕ → Leaf → Bool
names_leaf kind t l = is_there (λ s. belongs_to s l) (extension_named kind t) || is_meant (meaning_of kind t) l

-- whether the extension of the attribute is among the names
abbrev pub has_extension_of : Names → Attribute → Bool
has_extension_of names a = is_there (contains is_same_schema names.extensions) (extension_of a)

-- whether the names include a leaf: the leaf itself, its attribute, or its extension
abbrev pub includes : Names → Leaf → Bool
includes names l = contains is_same_attribute names.attributes l.attribute || (contains is_same_leaf names.sub_attributes l || has_extension_of names l.attribute)
