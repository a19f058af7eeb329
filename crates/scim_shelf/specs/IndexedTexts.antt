-- The texts under which a resource is indexed.
use Rattle.std.specs.Prelude.{ℕ, Bool, false, ◌&&◌, not, List, nat_eq, string_bytes, Option, None, Some}
use Rattle.std.specs.List.{list_any}
use Rattle.std.specs.Cmp.Lexicographic.{pointwise}
use Rattle.scim_schema.specs.declared.Kind.{Kind}
use Rattle.scim_schema.specs.declared.Leaf.{Leaf}
use Rattle.scim_schema.specs.IndexedLeaves.{indexed_leaves}
use Rattle.scim_schema.specs.Units.{is_same_leaf}
use Rattle.scim_cell.specs.Content.{Content}
use Rattle.scim_value.specs.declared.uniqueness.UniqueName.{UniqueName}
use Rattle.scim_shelf.specs.declared.leaf_texts.LeafText.{LeafText}
use Rattle.scim_shelf.specs.Stores.{compared_text, has_text}

-- Whether the texts at a leaf of the resources of a kind are indexed.
abbrev pub is_indexed : Kind → Leaf → Bool
is_indexed kind leaf = list_any (is_same_leaf leaf) (indexed_leaves kind)

-- Whether the resource is indexed under the text at the leaf.
abbrev pub is_under_at : Leaf → List ℕ → Content → Bool
is_under_at leaf text c = is_indexed c.kind leaf && has_text leaf text c

-- Whether a look-up found a resource that is indexed under the text at the leaf.
abbrev pub is_under_at_in : Leaf → List ℕ → Option Content → Bool
is_under_at_in leaf text None = false
is_under_at_in leaf text (Some c) = is_under_at leaf text c

-- Whether the resource is indexed under the text.
abbrev pub is_under : UniqueName → Content → Bool
is_under q c = is_under_at q.leaf (string_bytes q.text) c

-- Whether a look-up found a resource that is indexed under the text.
abbrev pub is_under_in : UniqueName → Option Content → Bool
is_under_in q found = is_under_at_in q.leaf (string_bytes q.text) found

-- Whether a look-up found a text that compares as `text` at the leaf.
abbrev pub is_found : Leaf → List ℕ → Option (List ℕ) → Bool
is_found leaf text None = false
is_found leaf text (Some own) = pointwise nat_eq text (compared_text leaf own)

-- Whether the resource is indexed under one of the texts.
abbrev pub is_under_some : List LeafText → Content → Bool
is_under_some texts c = list_any (λ (t : LeafText). is_under_at t.leaf t.text.now c) texts

-- Whether a look-up found a resource that is indexed under one of the texts.
abbrev pub is_under_some_in : List LeafText → Option Content → Bool
is_under_some_in texts found = list_any (λ (t : LeafText). is_under_at_in t.leaf t.text.now found) texts

-- Whether one of the texts is at a leaf whose texts aren't indexed for the kind.
abbrev pub has_unindexed : Kind → List LeafText → Bool
has_unindexed kind texts = list_any (λ (t : LeafText). not (is_indexed kind t.leaf)) texts
