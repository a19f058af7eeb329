-- Texts and values of `groups` that every matching part has.
use Rattle.std.specs.Prelude.{◌≡◌, ℕ, true, List, Option}
use Rattle.scim_schema.specs.declared.Leaf.{Leaf}
use Rattle.scim_cell.specs.Content.{Content}
use Rattle.scim_cell.specs.Rows.{Row, rows}
use Rattle.scim_filter_grammar.specs.declared.tree.Filter.{Filter}
use Rattle.scim_filter_grammar.specs.Tree.{Tree}
use Rattle.scim_filter.specs.Truth.{truth}
use Rattle.scim_filter_texts.specs.declared.needs.NeededText.{NeededText}
use Rattle.scim_filter_texts.specs.Needed.{has_some_text, has_text}
use Rattle.scim_view.specs.Groups.{has_groups}
use Rattle.scim_query.specs.Pages.{is_match}

-- every part that matches the filter has the text at the leaf
abbrev pub NeedsText : Option Filter → Leaf → List ℕ → Type 0
NeedsText filter leaf text = (p : Content) → is_match filter p ≡ true → has_text leaf text (rows p) ≡ true

-- every part that matches the filter has one of these texts at its leaf
abbrev pub NeedsSome : Option Filter → List NeededText → Type 0
NeedsSome filter texts = (p : Content) → is_match filter p ≡ true → has_some_text texts (rows p) ≡ true

-- all rows that match the filter's tree have a value of `groups`
abbrev pub TreeNeedsGroups : Tree → Type 0
TreeNeedsGroups tree = (rs : List Row) → truth tree rs ≡ true → has_groups rs ≡ true

-- every part that matches the filter has a value of `groups`
abbrev pub NeedsGroups : Option Filter → Type 0
NeedsGroups filter = (p : Content) → is_match filter p ≡ true → has_groups (rows p) ≡ true
