-- The computed `groups` of a user (RFC 7643 section 4.1.2), and the client's view of resources with them.
use Rattle.std.specs.Prelude.{ℕ, Bool, List, [], ◌∷◌, ◌++◌, map, filter, codes, Option, None, Some, if◌then◌else◌}
use Rattle.std.specs.List.{list_any}
use denote.Enum.Bare.{sameb}
use denote.Ref.{Bor}
use Rattle.scim_schema.specs.contracts.Attribute.{the_type as the_attribute}
use Rattle.scim_schema.specs.contracts.Kind.{the_type as the_kind}
use Rattle.scim_schema.specs.declared.Kind.TheVariants.{User, Group}
use Rattle.scim_schema.specs.declared.Leaf.{Leaf}
use Rattle.scim_schema.specs.declared.Attribute.TheVariants.{DisplayName, Groups}
use Rattle.scim_schema.specs.declared.SubAttribute.{SubAttribute}
use Rattle.scim_schema.specs.declared.SubAttribute.TheVariants.{Value, Reference, Display, TypeName}
use Rattle.scim_schema.specs.Units.{simple, leaf_at, whole}
use Rattle.scim_cell.specs.declared.atoms.Atom.{Atom}
use Rattle.scim_cell.specs.declared.atoms.Atom.TheVariants.{Text}
use Rattle.scim_cell.specs.declared.rows.Field.{Field}
use Rattle.scim_cell.specs.Content.{Content}
use Rattle.scim_cell.specs.Ids.{id_text}
use Rattle.scim_cell.specs.Order.{id_cmp}
use Rattle.scim_value.specs.Members.{lists}
use Rattle.scim_value.specs.Resource.{location}
use Rattle.scim_cell.specs.Rows.{Row, rows, put_values, restricted, content, cell_at}
use Rattle.scim_policy.specs.declared.rules.Decision.{Decision}
use Rattle.scim_view.specs.declared.computed_groups.SeenGroup.{SeenGroup}
use Rattle.scim_view.specs.View.{Viewer, read_in, may_be_seen, sees, view}
use Rattle.scim_view.specs.Sorted.{sorted_by}

-- the value of the option, if any, followed by the list
abbrev pub and_those : {X : Type 0} → Option X → List X → List X
and_those None xs = xs
and_those (Some x) xs = x ∷ xs

-- the view of each group that the client sees
abbrev pub seen : Viewer → List Content → List Content
seen v [] = []
seen v (g ∷ gs) = and_those (view v g) (seen v gs)

-- the text of an atom; None if there is no atom or it isn't a text
abbrev pub text_in : Option Atom → Option (List ℕ)
text_in (Some (Text t)) = Some t
text_in _ = None

-- the `displayName` in the visible part of a group, if any
abbrev pub display_of : Content → Option (List ℕ)
display_of g = text_in (cell_at (simple DisplayName) 0 (rows g))

-- the field of a value of `groups` with this sub-attribute and text
abbrev pub field : SubAttribute → List ℕ → Field
field b t = record { leaf = leaf_at Groups b; atom = Text t }

-- the field `display` of a value of `groups`, if the group has a name
abbrev pub display_field : Option (List ℕ) → List Field
display_field None = []
display_field (Some t) = field Display t ∷ []

-- the value of `groups` for a group with this id and, if it has one, this name: its id, its location
-- below the base, its name, and the type "direct"
abbrev pub membership_of : List ℕ → List ℕ → Option (List ℕ) → Row
membership_of base id display = record {
  unit = whole Groups;
  fields = field Value (id_text id) ∷ field Reference (location base Group id) ∷ (display_field display ++ field TypeName (codes "direct") ∷ []);
}

-- the value of `groups` for the visible part of a group
abbrev pub membership : List ℕ → Content → Row
membership base g = membership_of base g.id (display_of g)

-- the value of `groups` for a group as the code represents it
abbrev pub membership_at : List ℕ → Bor SeenGroup → Row
membership_at base g = membership_of base g.now.id g.now.display

-- the values of `groups` for the resource with this id: one for each of these groups that lists the
-- resource, sorted by the ids of the groups
abbrev pub memberships : List ℕ → List Content → List ℕ → List Row
memberships base gs id = map (membership base) (sorted_by id_cmp (filter (lists id) gs))

-- whether one of the rows is a value of `groups`
abbrev pub has_groups : List Row → Bool
has_groups rs = list_any (λ (r : Row). sameb the_attribute r.unit.attribute Groups) rs

-- the rows of a resource, with these values of `groups` if it is a user
abbrev pub rows_with : List Row → Content → List Row
rows_with ms c = if sameb the_kind c.kind User then put_values (whole Groups) ms (rows c) else rows c

-- the resource with these values of `groups`, restricted to the cells that the decisions on reading its values
-- make visible
unfoldable pub visible_with : (Row → Leaf → Decision) → List Row → Content → Content
visible_with decision ms c = content c.kind c.id (restricted (may_be_seen decision c.kind) (rows_with ms c))

-- the part of a resource that the client may see, with `groups` computed from the given groups
-- that the client sees
unfoldable pub with_groups : Viewer → List Content → Content → Content
with_groups v groups c = visible_with (read_in v c) (memberships v.base (seen v groups) c.id) c

-- the part of a resource that the client may see, with its computed `groups`; None if the client doesn't see
-- the resource
abbrev pub view_with_groups : Viewer → List Content → Content → Option Content
view_with_groups v groups c = if sees v c then Some (with_groups v groups c) else None

-- the view of each resource that the client sees, with the computed `groups`
abbrev pub views : Viewer → List Content → List Content → List Content
views v groups [] = []
views v groups (c ∷ cs) = and_those (view_with_groups v groups c) (views v groups cs)
