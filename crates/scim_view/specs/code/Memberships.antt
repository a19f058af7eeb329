-- The parts of groups that the code keeps, and the fields of `groups` that it makes from them.
use Rattle.std.specs.Prelude.{ℕ, Bool, not, ◌&&◌, List, [], filter, if◌then◌else◌}
use Rattle.std.specs.List.{list_any}
use Rattle.std.specs.declared.cmp.Ordering.{Ordering}
use Rattle.std.specs.Ordering.{nat_cmp}
use Rattle.std.specs.Cmp.Lexicographic.{slice_cmp}
use denote.Enum.Bare.{sameb}
use Rattle.scim_schema.specs.declared.Kind.{Kind}
use Rattle.scim_schema.specs.declared.Leaf.{Leaf}
use Rattle.scim_schema.specs.contracts.Kind.{the_type as the_kind}
use Rattle.scim_schema.specs.declared.Kind.TheVariants.{User}
use Rattle.scim_schema.specs.declared.Attribute.TheVariants.{Id, Members}
use Rattle.scim_schema.specs.declared.SubAttribute.TheVariants.{Value}
use Rattle.scim_schema.specs.Units.{simple, leaf_at, whole}
use Rattle.scim_schema.specs.Mutability.{is_write_only}
use Rattle.scim_cell.specs.declared.rows.Field.{Field}
use Rattle.scim_cell.specs.Content.{Content}
use Rattle.scim_cell.specs.Ids.{id_text}
use Rattle.scim_cell.specs.Rows.{Row, rows, values, atom_in}
use Rattle.scim_policy.specs.declared.rules.Decision.{Decision}
use Rattle.scim_policy.specs.Patterns.{PatternRule, decisions_of, whole_decision}
use Rattle.scim_value.specs.Members.{is_text}
use Rattle.scim_view.specs.declared.computed_groups.SeenGroup.{SeenGroup}
use Rattle.scim_view.specs.Groups.{display_of}
use Rattle.scim_view.specs.View.{decision_in, may_be_seen}

-- the fields that the decisions on reading resources of the kind make visible
abbrev pub shown_fields : (Leaf → Decision) → Kind → List Field → List Field
shown_fields decision kind fs = filter (λ (f : Field). not (is_write_only kind f.leaf) && (decision f.leaf).allow) fs

-- the parts of a visible group that the code keeps: its id and its name
abbrev pub kept_of : Content → SeenGroup
kept_of g = record { id = g.id; display = display_of g }

-- whether the row's `value` is the text of the id
abbrev pub names_id : List ℕ → Row → Bool
names_id id r = is_text (id_text id) (atom_in (leaf_at Members Value) r.fields)

-- whether a member of the group has the id as its `value`, and the decisions on reading let it be seen
abbrev pub lists_shown : (Row → Leaf → Decision) → List ℕ → Content → Bool
lists_shown decision id g = list_any (λ r. names_id id r && may_be_seen decision g.kind r (leaf_at Members Value)) (values (whole Members) (rows g))

-- whether the rules of patterns let the group be seen, and in it a member with this id
abbrev pub tells_of : (Leaf → List PatternRule) → List ℕ → Content → Bool
tells_of rules id g = (whole_decision (decisions_of (rules (simple Id)))).allow && lists_shown (decision_in rules) id g

-- the groups that may appear in the `groups` of a resource: all for a user, none for a group
abbrev pub telling : Content → List Content → List Content
telling c groups = if sameb the_kind c.kind User then groups else []

-- the order of groups in the code: by id
abbrev pub kept_cmp : SeenGroup → SeenGroup → Ordering
kept_cmp a b = slice_cmp nat_cmp a.id b.id
