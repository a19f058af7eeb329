-- Filters that match no visible part of a resource.
use Rattle.std.specs.Prelude.{◌≡◌, ℕ, Bool, false, not, Option, Some, List, [], filter}
use Rattle.std.specs.Option.{option_eq}
use Rattle.scim_schema.specs.declared.Kind.{Kind}
use Rattle.scim_schema.specs.declared.Leaf.{Leaf}
use Rattle.scim_schema.specs.Characteristics.{is_multi_valued}
use Rattle.scim_schema.specs.Units.{is_same_attribute}
use Rattle.scim_cell.specs.Content.{Content, IsPart}
use Rattle.scim_cell.specs.Rows.{Row, rows}
use Rattle.scim_filter_grammar.specs.declared.tree.Filter.{Filter}
use Rattle.scim_filter_grammar.specs.declared.tree.Meant.{Meant}
use Rattle.scim_filter_grammar.specs.declared.tree.Meant.TheVariants as meant
use Rattle.scim_filter_grammar.specs.Mentions.{mentioned_attribute}
use Rattle.scim_policy.specs.declared.rules.Decision.{Decision}
use Rattle.scim_view.specs.Groups.{memberships, visible_with}
use Rattle.scim_query.specs.Pages.{is_match}

-- the filter doesn't match the part of the resource that these decisions on reading its values make visible,
-- whichever groups list the resource
abbrev pub NeverMatches : Option Filter → (Row → Leaf → Decision) → Content → Type 0
NeverMatches filter decision c = (base : List ℕ) (groups : List Content) → is_match filter (visible_with decision (memberships base groups c.id) c) ≡ false

-- for every resource of the kind and any groups, the rows that these decisions make visible satisfy P
abbrev pub AllRows : (List Row → Type 0) → Kind → (Row → Leaf → Decision) → Type 0
AllRows P kind decision = (c : Content) → IsPart c → c.kind ≡ kind → (base : List ℕ) (groups : List Content) → P (rows (visible_with decision (memberships base groups c.id) c))

-- for every resource of the kind and any groups, the rows that these decisions make visible fail the test
abbrev pub NeverHolds : (List Row → Bool) → Kind → (Row → Leaf → Decision) → Type 0
NeverHolds test kind decision = AllRows (λ rs. test rs ≡ false) kind decision

-- the rows of the attribute in a path, which may also name a sub-attribute
abbrev pub rows_meant : Meant → List Row → List Row
rows_meant m rs = filter (λ (r : Row). option_eq is_same_attribute (mentioned_attribute m) (Some r.unit.attribute)) rs

-- in every resource of the kind, these decisions hide all rows of the attribute in the path
abbrev pub StaysUnseen : Meant → Kind → (Row → Leaf → Decision) → Type 0
StaysUnseen m kind decision = AllRows (λ rs. rows_meant m rs ≡ []) kind decision

-- whether the bracketed filter of a value path is evaluated even if the attribute has no
-- value; this is so if the path names a single-valued attribute
abbrev pub is_asked_of_none : Meant → Bool
is_asked_of_none (meant.Attribute a) = not (is_multi_valued a)
is_asked_of_none _ = false
