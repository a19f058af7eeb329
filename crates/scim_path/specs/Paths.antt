-- The target that a path of a PATCH operation names (RFC 7644 section 3.5.2).
use Rattle.std.specs.Prelude.{nat_le, ◌≡◌, ◌≤◌, ℕ, Bool, List, length, find, Option, Some, None, option_and_then, MatchOption, Result, Ok, Err, if◌then◌else◌}
use Rattle.std.specs.List.{list_all}
use Rattle.scim_schema.specs.declared.Kind.{Kind}
use Rattle.scim_schema.specs.declared.Attribute.{Attribute}
use Rattle.scim_schema.specs.declared.SubAttribute.{SubAttribute}
use Rattle.scim_schema.specs.declared.schema_urns.Schema.{Schema}
use Rattle.scim_schema.specs.Characteristics.{is_multi_valued}
use Rattle.scim_schema.specs.Schemas.{urn, extensions}
use Rattle.scim_schema.specs.Lookup.{sub_attribute_named}
use Rattle.scim_schema.specs.declared.limits.TheConstants.{LONGEST_FILTER}
use Rattle.scim_filter_grammar.specs.declared.tree.Meant.{Meant}
use Rattle.scim_filter_grammar.specs.declared.tree.Meant.TheVariants as meant
use Rattle.scim_filter_grammar.specs.Bytes.{is_word, lone_word}
use Rattle.scim_filter_grammar.specs.Tree.{Tree, Values, tree_of}
use Rattle.scim_filter_grammar.specs.Types.{fits}
use Rattle.scim_filter_grammar.specs.Mentions.{is_known, mentioned_names}
use Rattle.scim_filter_grammar.specs.WrittenPaths.{Written, Plain, Filtered, IsWritten}
use Rattle.scim_path.specs.declared.faults.PathFault.{PathFault}
use Rattle.scim_path.specs.declared.faults.PathFault.TheVariants.{Syntax, Unknown}
use Rattle.scim_path.specs.declared.paths.Path.{Path}
use Rattle.scim_path.specs.declared.paths.Path.TheVariants as path

-- a target: all attributes of an extension, an attribute, a sub-attribute, or those values of a multi-valued
-- attribute that match a filter, or one sub-attribute of these values
pub data PathTarget : Type 0 where
  OfExtension : Schema → PathTarget
  OfAttribute : Attribute → PathTarget
  OfSubAttribute : Attribute → SubAttribute → PathTarget
  OfValues : Attribute → Tree → Option SubAttribute → PathTarget

-- the specified target that represents a path of the code
abbrev pub path_target : Path → PathTarget
path_target (path.Extension schema) = OfExtension schema
path_target (path.Attribute a) = OfAttribute a
path_target (path.SubAttribute a b) = OfSubAttribute a b
path_target (path.Values v) = OfValues v.attribute (tree_of v.filter) v.sub_attribute

-- the extension of a kind whose URN is the whole text, of at most 4,096 bytes
abbrev pub extension_named : Kind → List ℕ → Option Schema
extension_named kind text = if nat_le (length text) LONGEST_FILTER then option_and_then (λ word. find (λ s. is_word (urn s) word) (extensions kind)) (lone_word text) else None

-- the target of a path without a filter
abbrev pub names_target : Meant → Result PathTarget PathFault
names_target meant.Nothing = Err Unknown
names_target (meant.Attribute a) = Ok (OfAttribute a)
names_target (meant.SubAttribute a b) = Ok (OfSubAttribute a b)

-- whether the kind has every attribute and sub-attribute that a filter names
abbrev pub knows : Tree → Bool
knows tree = list_all is_known (mentioned_names tree)

-- the target of a value path with this sub-attribute after its brackets; Unknown for None
abbrev pub chosen_at : Attribute → Tree → Option SubAttribute → Result PathTarget PathFault
chosen_at a tree None = Err Unknown
chosen_at a tree (Some b) = Ok (OfValues a tree (Some b))

-- the target of a value path on an attribute, with the name of a sub-attribute after its brackets if there is
-- one; Unknown if the attribute has no such sub-attribute
abbrev pub chosen : Attribute → Tree → Option (List ℕ) → Result PathTarget PathFault
chosen a tree None = Ok (OfValues a tree None)
chosen a tree (Some name) = chosen_at a tree (sub_attribute_named a name)

-- the target of a value path: Unknown if the name before the brackets is unknown; else Syntax if it isn't the
-- name of a multi-valued attribute, or if a comparison doesn't suit the type of its attribute; else Unknown
-- if another name is unknown
abbrev pub filtered_target : Meant → Tree → Option (List ℕ) → Result PathTarget PathFault
filtered_target meant.Nothing tree sub = Err Unknown
filtered_target (meant.SubAttribute a b) tree sub = Err Syntax
filtered_target (meant.Attribute a) tree sub =
    if is_multi_valued a then (if fits tree then (if knows tree then chosen a tree sub else Err Unknown) else Err Syntax) else Err Syntax

-- the target that a written path names, or the fault Unknown or Syntax
abbrev pub written_target : Written → Result PathTarget PathFault
written_target (Plain p) = names_target p.meant
written_target (Filtered (Values p inner) sub) = filtered_target p.meant (Values p inner) sub
written_target (Filtered _ sub) = Err Syntax

-- the result for a text that isn't the URN of an extension: the result of `written_target` if the text spells
-- a path within 4,096 bytes and 32 open brackets, else Syntax
pub data Reads (kind : Kind) (text : List ℕ) : Result PathTarget PathFault → Type 0 where
  spelled : (w : Written) → length text ≤ LONGEST_FILTER → IsWritten kind 32 text w → Reads kind text (written_target w)
  unspelled : ((w : Written) → length text ≤ LONGEST_FILTER → ¬ (IsWritten kind 32 text w)) → Reads kind text (Err Syntax)

-- the result for a text: the extension if the text is its URN, else the result that `Reads` specifies
abbrev pub Names : Kind → List ℕ → Result PathTarget PathFault → Type 0
Names kind text r = MatchOption (extension_named kind text) (Reads kind text r) (λ schema. r ≡ Ok (OfExtension schema))

-- a text has at most one result: a target or a fault
abbrev pub TextsNameOneThing : Type 0
TextsNameOneThing = (kind : Kind) (text : List ℕ) (r s : Result PathTarget PathFault) → Names kind text r → Names kind text s → r ≡ s
