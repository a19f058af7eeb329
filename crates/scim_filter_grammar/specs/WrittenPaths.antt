-- Which texts spell which path of a PATCH operation (RFC 7644 section 3.5.2, figure 7).
use Rattle.std.specs.Prelude.{◌≡◌, ℕ, suc, List, ◌++◌, Option}
use Rattle.scim_schema.specs.declared.Kind.{Kind}
use Rattle.scim_filter_grammar.specs.declared.tree.AttributePath.{AttributePath}
use Rattle.scim_filter_grammar.specs.declared.tree.Scope.TheVariants.{Attributes, SubAttributes}
use Rattle.scim_filter_grammar.specs.declared.written_paths.WrittenPath.{WrittenPath}
use Rattle.scim_filter_grammar.specs.declared.written_paths.WrittenPath.TheVariants as written
use Rattle.scim_filter_grammar.specs.Names.{IsPath, IsPassed, is_name, names_text}
use Rattle.scim_filter_grammar.specs.Grammar.{IsBlank, Encloses, Spells, Disjunction}
use Rattle.scim_filter_grammar.specs.Tree.{Tree, Values, tree_of, attribute_meant}

-- the path of an attribute or sub-attribute, or a value path with an optional sub-attribute after it
pub data Written : Type 0 where
  Plain : AttributePath → Written
  Filtered : Tree → Option (List ℕ) → Written

-- the specified path that represents a path of the code
abbrev pub written_of : WrittenPath → Written
written_of (written.Plain path) = Plain path
written_of (written.Filtered filter sub) = Filtered (tree_of filter) sub

-- the text spells the path, path [ "[" filter "]" [ "." name ] ], with brackets nested at most n deep
pub data SpellsPath (kind : Kind) : ℕ → List ℕ → Written → Type 0 where
  plain : {n : ℕ} {text : List ℕ} {path : AttributePath} → IsPath (Attributes kind) text path → SpellsPath kind n text (Plain path)
  filtered : {n : ℕ} {a enclosed : List ℕ} {path : AttributePath} {t : Tree} {sub : Option (List ℕ)} (p : List ℕ) → IsPath (Attributes kind) p path
      → Spells (SubAttributes (attribute_meant path.meant)) Disjunction n a t → Encloses 91 93 a enclosed → IsPassed is_name sub
      → SpellsPath kind (suc n) (p ++ names_text enclosed sub) (Filtered (Values path t) sub)

-- the text spells the path, with spaces around it
pub record IsWritten (kind : Kind) (n : ℕ) (text : List ℕ) (w : Written) : Type 0 where
  pub before : List ℕ
  pub inner : List ℕ
  pub after : List ℕ
  pub before_blank : IsBlank before
  pub spells : SpellsPath kind n inner w
  pub after_blank : IsBlank after
  pub whole : text ≡ before ++ (inner ++ after)
