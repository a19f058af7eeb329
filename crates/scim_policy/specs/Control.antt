-- The values of a resource that the decisions of a policy depend on.
use Rattle.std.specs.Prelude.{◌≡◌, ◌||◌, ℕ, Bool, List, filter, Some}
use Rattle.std.specs.List.{list_any}
use Rattle.std.specs.Option.{option_eq}
use Rattle.scim_schema.specs.declared.Kind.{Kind}
use Rattle.scim_schema.specs.declared.Op.{Op}
use Rattle.scim_schema.specs.declared.Leaf.{Leaf}
use Rattle.scim_schema.specs.declared.Attribute.{Attribute}
use Rattle.scim_schema.specs.Units.{is_same_attribute}
use Rattle.scim_schema.specs.UniqueLeaves.{unique_leaves}
use Rattle.scim_cell.specs.Content.{Content}
use Rattle.scim_cell.specs.Rows.{Row, rows}
use Rattle.scim_filter_grammar.specs.declared.mentions.Named.{Named}
use Rattle.scim_filter_grammar.specs.Mentions.{mentioned_names}
use Rattle.scim_policy.specs.Rules.{Rule, Target}
use Rattle.scim_policy.specs.Decide.{decide}

-- whether a target names an attribute
abbrev pub names_attribute : Attribute → Target → Bool
names_attribute a t = list_any (λ (n : Named). option_eq is_same_attribute n.attribute (Some a)) (mentioned_names t.tree)

-- whether a target of one of the rules names the attribute
abbrev pub is_named_in : List Rule → Attribute → Bool
is_named_in policy a = list_any (λ (r : Rule). list_any (names_attribute a) r.targets) policy

-- whether values of the attribute must be unique among the resources of the kind (RFC 7643 section 2.2)
abbrev pub is_unique : Kind → Attribute → Bool
is_unique kind a = list_any (λ (l : Leaf). is_same_attribute l.attribute a) (unique_leaves kind)

-- the values of those attributes of a resource that a policy's targets name or that must be unique
unfoldable pub control : List Rule → Content → List Row
control policy c = filter (λ (r : Row). is_named_in policy r.unit.attribute || is_unique c.kind r.unit.attribute) (rows c)

-- if two resources of one kind have equal values of `control`, the policy makes the same decisions on both
abbrev pub DecisionsRestOnControl : Type 0
DecisionsRestOnControl =
    (policy : List Rule) (client : List ℕ) (op : Op) (a b : Content) (l : Leaf)
    → a.kind ≡ b.kind → control policy a ≡ control policy b → decide policy client op a l ≡ decide policy client op b l
