-- Texts that the rows that match a filter have.
use Rattle.std.specs.Prelude.{◌≡◌, ℕ, Bool, true, List, All}
use Rattle.std.specs.List.{list_any}
use Rattle.scim_schema.specs.declared.Leaf.{Leaf}
use Rattle.scim_schema.specs.Characteristics.{is_case_exact}
use Rattle.scim_schema.specs.Units.{is_same_leaf}
use Rattle.scim_cell.specs.Rows.{Row}
use Rattle.scim_filter_grammar.specs.Tree.{Tree}
use Rattle.scim_filter_grammar.specs.declared.tree.Literal.TheVariants.{Text}
use Rattle.scim_filter_grammar.specs.declared.tree.Operator.TheVariants.{Eq}
use Rattle.scim_filter.specs.Relation.{stands}
use Rattle.scim_filter.specs.Truth.{some_atom, truth}
use Rattle.scim_filter_texts.specs.declared.needs.NeededText.{NeededText}

-- whether some atom of the rows at the leaf equals the text, as `eq` compares (RFC 7644 section 3.4.2.2)
abbrev pub has_text : Leaf → List ℕ → List Row → Bool
has_text leaf text rs = some_atom (λ a. stands (is_case_exact leaf) Eq a (Text text)) leaf rs

-- whether the rows have one of these texts at its leaf
abbrev pub has_some_text : List NeededText → List Row → Bool
has_some_text texts rs = list_any (λ (t : NeededText). has_text t.leaf t.text.now rs) texts

-- whether the leaf of the text is one of these
abbrev pub is_at : List Leaf → NeededText → Bool
is_at leaves t = list_any (is_same_leaf t.leaf) leaves

-- the leaf of each text is one of these
abbrev pub AreAt : List Leaf → List NeededText → Type 0
AreAt leaves texts = All (λ (t : NeededText). is_at leaves t ≡ true) texts

-- all rows that match the filter have the text at the leaf
abbrev pub NeedsText : Tree → Leaf → List ℕ → Type 0
NeedsText tree leaf text = (rs : List Row) → truth tree rs ≡ true → has_text leaf text rs ≡ true

-- all rows that match the filter have one of these texts at its leaf
abbrev pub NeedsSome : Tree → List NeededText → Type 0
NeedsSome tree texts = (rs : List Row) → truth tree rs ≡ true → has_some_text texts rs ≡ true
