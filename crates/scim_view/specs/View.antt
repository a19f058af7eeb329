-- The part of a resource that a client sees.
use Rattle.std.specs.Prelude.{ℕ, Bool, not, ◌&&◌, List, Option, None, Some, if◌then◌else◌}
use Rattle.std.specs.List.{list_any}
use denote.Enum.Bare.{sameb}
use Rattle.scim_schema.specs.declared.Kind.{Kind}
use Rattle.scim_schema.specs.declared.Leaf.{Leaf}
use Rattle.scim_schema.specs.declared.Attribute.{Attribute}
use Rattle.scim_schema.specs.declared.Attribute.TheVariants.{Id}
use Rattle.scim_schema.specs.contracts.Attribute.{the_type as the_attribute}
use Rattle.scim_schema.specs.declared.Op.TheVariants.{Read}
use Rattle.scim_schema.specs.Units.{simple}
use Rattle.scim_schema.specs.Mutability.{is_write_only}
use Rattle.scim_schema.specs.Table.{leaves}
use Rattle.scim_cell.specs.Content.{Content}
use Rattle.scim_cell.specs.Rows.{Row, Test, rows, restricted, content}
use Rattle.scim_filter.specs.Truth.{truth_in_value}
use Rattle.scim_policy.specs.declared.rules.Decision.{Decision}
use Rattle.scim_policy.specs.Rules.{Rule}
use Rattle.scim_policy.specs.Decide.{decide}
use Rattle.scim_policy.specs.Opened.{allows}
use Rattle.scim_policy.specs.Patterns.{PatternRule, decided_for, decisions_of, decide_in, pattern, pattern_rules, whole_decision}
use Rattle.scim_view.specs.declared.viewers.Viewer.{Viewer as ViewerInCode}

-- the client for whom a resource is viewed: the policy's rules, the client's name, and the base
-- URL of all locations
pub record Viewer : Type 0 where
  pub policy : List Rule
  pub client : List ℕ
  pub base : List ℕ

-- the `Viewer` with the policy, the client and the base of a viewer in code
abbrev pub viewer_of : ViewerInCode → Viewer
viewer_of v = record { policy = v.policy.now; client = v.client.now; base = v.base.now }

-- the policy's decision on the client's read access to the leaf of the resource, for all values
abbrev pub read_decision : Viewer → Content → Leaf → Decision
read_decision v c l = decide v.policy v.client Read c l

-- whether the client may read the leaf of the resource in all values
abbrev pub may_read : Viewer → Content → Leaf → Bool
may_read v c l = (read_decision v c l).allow

-- whether the client sees that the resource exists: it may read its `id`
unfoldable pub sees : Viewer → Content → Bool
sees v c = may_read v c (simple Id)

-- ---- reading, value by value

-- the policy's decision on the client's read access to the leaf in one value, which is a row of the stored
-- resource
abbrev pub read_in : Viewer → Content → Row → Leaf → Decision
read_in v c r l = decide_in v.policy v.client c l r

-- the rules of the leaf's pattern for the client's reading of the resource
abbrev pub read_rules : Viewer → Content → Leaf → List PatternRule
read_rules v c l = pattern_rules v.policy v.client c l

-- the decisions of the rules of the leaf's pattern for the client's reading of the resource
abbrev pub read_pattern : Viewer → Content → Leaf → List Decision
read_pattern v c l = pattern v.policy v.client c l

-- the decision that rules of patterns make on reading a leaf in one value
abbrev pub decision_in : (Leaf → List PatternRule) → Row → Leaf → Decision
decision_in rules r l = decided_for (λ t. truth_in_value t r) (rules l)

-- whether the decisions on reading make a leaf of a kind visible in a value: reading it there is allowed, and the
-- leaf isn't writeOnly
abbrev pub may_be_seen : (Row → Leaf → Decision) → Kind → Test
may_be_seen decision kind r l = not (is_write_only kind l) && (decision r l).allow

-- whether patterns may make some leaf of the attribute visible in a resource of the kind: some rule of the leaf's
-- pattern allows, and the leaf isn't writeOnly; if true, no value need match the rule's filter
abbrev pub shows_some : (Leaf → List Decision) → Kind → Attribute → Bool
shows_some pattern kind a = list_any (λ l. sameb the_attribute l.attribute a && (not (is_write_only kind l) && list_any allows (pattern l))) (leaves kind)

-- the part of the resource that the decisions on reading its values make visible; a value without a visible cell
-- is omitted, and later values move up to its position
unfoldable pub visible_by : (Row → Leaf → Decision) → Content → Content
visible_by decision c = content c.kind c.id (restricted (may_be_seen decision c.kind) (rows c))

-- the part of the resource that the rules of patterns make visible; None if its `id` may not be read: no value
-- filter covers `id`, so its pattern has one rule
unfoldable pub view_by : (Leaf → List PatternRule) → Content → Option Content
view_by rules c = if (whole_decision (decisions_of (rules (simple Id)))).allow then Some (visible_by (decision_in rules) c) else None

-- whether the row belongs to one of the attributes, and the decisions on reading make the leaf visible in it
abbrev pub may_be_seen_of : List Attribute → (Row → Leaf → Decision) → Kind → Test
may_be_seen_of attributes decision kind r l = list_any (sameb the_attribute r.unit.attribute) attributes && may_be_seen decision kind r l

-- the resource with only the cells of these attributes that the decisions on reading its values make visible
unfoldable pub visible_attributes : List Attribute → (Row → Leaf → Decision) → Content → Content
visible_attributes attributes decision c = content c.kind c.id (restricted (may_be_seen_of attributes decision c.kind) (rows c))

-- the part of the resource that the client may see
unfoldable pub visible : Viewer → Content → Content
visible v c = visible_by (read_in v c) c

-- the part of the resource that the client may see; None if it doesn't see that the resource exists
abbrev pub view : Viewer → Content → Option Content
view v c = if sees v c then Some (visible v c) else None
