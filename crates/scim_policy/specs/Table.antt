-- The decisions in a decision table.
use Rattle.std.specs.Prelude.{ℕ, zero, suc, false, List, [], ◌∷◌, Option, None, Some, if◌then◌else◌}
use denote.Enum.Bare.{sameb}
use denote.Enum.Declared.{tag_of}
use Rattle.scim_schema.specs.declared.Leaf.{Leaf}
use Rattle.scim_schema.specs.declared.SubAttribute.{SubAttribute}
use Rattle.scim_schema.specs.contracts.Attribute.{the_type as the_attribute}
use Rattle.scim_schema.specs.contracts.SubAttribute.{the_type as the_sub_attribute}
use Rattle.scim_policy.specs.declared.rules.Decision.{Decision}
use Rattle.scim_policy.specs.declared.decisions.AttributeDecisions.{AttributeDecisions}
use Rattle.scim_policy.specs.declared.decisions.Decisions.{Decisions}

-- the first value if it is present, else the second one
abbrev pub or_else : {Y : Type 0} → Option Y → Option Y → Option Y
or_else None o = o
or_else (Some y) o = Some y

-- the decision on a single sub-attribute, if any
abbrev pub at_sub_attribute : SubAttribute → List (SubAttribute × Decision) → Option Decision
at_sub_attribute b [] = None
at_sub_attribute b (pair ∷ more) = if sameb the_sub_attribute pair.0 b then Some pair.1 else at_sub_attribute b more

-- the decision on the sub-attribute alone; None if there is no sub-attribute or no decision on it
abbrev pub alone : Option SubAttribute → List (SubAttribute × Decision) → Option Decision
alone None pairs = None
alone (Some b) pairs = at_sub_attribute b pairs

-- the decision on a leaf in the entry of its attribute: the one on the sub-attribute alone if there is one,
-- else the one on the whole attribute
abbrev pub in_attribute : Option SubAttribute → AttributeDecisions → Option Decision
in_attribute sub e = or_else (alone sub e.sub_attributes.items) e.whole

-- the decision on a leaf in the list of entries, where n is the number of the leaf's attribute
abbrev pub in_attributes : ℕ → Option SubAttribute → List AttributeDecisions → Option Decision
in_attributes n sub [] = None
in_attributes zero sub (e ∷ es) = in_attribute sub e
in_attributes (suc n) sub (e ∷ es) = in_attributes n sub es

-- the decision on a leaf so far, if any
unfoldable pub decided : Decisions → Leaf → Option Decision
decided ds l = or_else (in_attributes (tag_of the_attribute l.attribute) l.sub_attribute ds.attributes.items) ds.rest

-- the decision, or the denial by rule 0 if there is no decision
abbrev pub or_denied : Option Decision → Decision
or_denied None = record { rule = 0; allow = false }
or_denied (Some d) = d

-- the decision on a leaf; if there is none in the table, rule 0 denies
unfoldable pub decision : Decisions → Leaf → Decision
decision ds l = or_denied (decided ds l)
