-- The filter and the path that a text spells, as functions of the text.
use Rattle.std.specs.Prelude.{◌≡◌, ◌≤◌, ◌↔◌, ℕ, true, nat_le, List, length, Option, Some, None, option_and_then, if◌then◌else◌}
use Rattle.std.specs.Result.{result_ok}
use Rattle.scim_schema.specs.declared.Kind.{Kind}
use Rattle.scim_schema.specs.declared.limits.TheConstants.{LONGEST_FILTER}
use Rattle.scim_filter_grammar.specs.declared.tree.AttributePath.{AttributePath}
use Rattle.scim_filter_grammar.specs.declared.tree.Scope.TheVariants.{Attributes}
use Rattle.scim_filter_grammar.specs.Bytes.{lone_word}
use Rattle.scim_filter_grammar.specs.Grammar.{IsFilter}
use Rattle.scim_filter_grammar.specs.Reading.{path_of, all_of}
use Rattle.scim_filter_grammar.specs.Tree.{Tree}
use Rattle.scim_filter_grammar.specs.Types.{fits}
use Rattle.scim_filter_grammar.specs.WrittenPaths.{Written, IsWritten, Plain}

-- the tree, if there is one and its comparisons and value paths suit the types of their attributes
abbrev pub fitting : Option Tree → Option Tree
fitting None = None
fitting (Some tree) = if fits tree then Some tree else None

-- the filter that a text spells within the limits and with the right types, if it spells one
unfoldable pub filter_in : Kind → List ℕ → Option Tree
filter_in kind text = if nat_le (length text) LONGEST_FILTER then fitting (result_ok (all_of (Attributes kind) text)) else None

-- the attribute path that a text spells within the limit, if it spells one (RFC 7644 section 3.10)
unfoldable pub path_in : Kind → List ℕ → Option AttributePath
path_in kind text = if nat_le (length text) LONGEST_FILTER then option_and_then (λ word. result_ok (path_of (Attributes kind) word)) (lone_word text) else None

-- `filter_in` returns a tree exactly if the text spells it by the grammar, within the limits, with the right
-- types
abbrev pub FiltersAreSpelled : Type 0
FiltersAreSpelled = (kind : Kind) (text : List ℕ) (tree : Tree) → (filter_in kind text ≡ Some tree) ↔ ((length text ≤ LONGEST_FILTER) × IsFilter kind 32 text tree × (fits tree ≡ true))

-- `path_in` returns a path exactly if the text spells it by the grammar, within 4,096 bytes
abbrev pub PathsAreSpelled : Type 0
PathsAreSpelled = (kind : Kind) (text : List ℕ) (path : AttributePath) → (path_in kind text ≡ Some path) ↔ ((length text ≤ LONGEST_FILTER) × IsWritten kind 0 text (Plain path))

-- a text spells at most one path of a PATCH operation, however many brackets are open in it
abbrev pub OnePathIsSpelled : Type 0
OnePathIsSpelled = (kind : Kind) (text : List ℕ) (m n : ℕ) (v w : Written) → IsWritten kind m text v → IsWritten kind n text w → v ≡ w
