-- The leaf that the text of `sortBy` names (RFC 7644 section 3.4.2.3).
use Rattle.std.specs.Prelude.{ℕ, List, Option, option_and_then}
use Rattle.scim_schema.specs.declared.Kind.{Kind}
use Rattle.scim_schema.specs.declared.Leaf.{Leaf}
use Rattle.scim_filter_grammar.specs.declared.tree.AttributePath.{AttributePath}
use Rattle.scim_filter_grammar.specs.Spelled.{path_in}
use Rattle.scim_filter_grammar.specs.Types.{compared_leaf}

-- the leaf that a text names to sort by; a complex attribute alone means its `value`
abbrev pub sort_leaf : Kind → List ℕ → Option Leaf
sort_leaf kind text = option_and_then (λ (path : AttributePath). compared_leaf path.meant) (path_in kind text)
