-- The patterns of all leaves in a table.
use Rattle.std.specs.Prelude.{ℕ, Bool, true, ◌&&◌, nat_lt, List, [], ◌∷◌, ◌++◌, map, filter, Option, None, Some}
use Rattle.std.specs.List.{list_any}
use Rattle.std.specs.Option.{option_eq}
use Rattle.scim_schema.specs.declared.Attribute.{Attribute}
use Rattle.scim_schema.specs.declared.Leaf.{Leaf}
use Rattle.scim_schema.specs.Units.{is_same_attribute}
use Rattle.scim_policy.specs.declared.rules.Decision.{Decision}
use Rattle.scim_policy.specs.declared.access_rights.Rights.{Rights}
use Rattle.scim_policy.specs.declared.patterns.PartialRule.{PartialRule}
use Rattle.scim_policy.specs.declared.patterns.Patterns.{Patterns}
use Rattle.scim_policy.specs.Rules.{FilteredPath}
use Rattle.scim_policy.specs.Fits.{attribute_before, covers_in_part}
use Rattle.scim_policy.specs.Access.{Access}
use Rattle.scim_policy.specs.Patterns.{PatternRule, decisions_of, filters_on, whole_decision}
use Rattle.scim_policy.specs.Table.{or_denied, decided, decision}

-- the decision of a rule, and its paths with a value filter
abbrev pub partial_paths : PartialRule → Decision × List FilteredPath
partial_paths p = (p.decision, p.filtered.now)

-- whether the attribute before the path's brackets is one of these
abbrev pub is_on : List Attribute → FilteredPath → Bool
is_on attributes p = list_any (λ (a : Attribute). option_eq is_same_attribute (attribute_before p.tree) (Some a)) attributes

-- whether the number is less than that of the decision; true if there is no decision
abbrev pub is_before : ℕ → Option Decision → Bool
is_before n None = true
is_before n (Some d) = nat_lt n d.rule

-- whether a rule covers the leaf at some values, and no earlier one at all values, by the decision of the first
-- that does
abbrev pub counts : Leaf → Option Decision → (Decision × List FilteredPath) → Bool
counts l whole p = list_any (covers_in_part l) p.1 && is_before p.0.rule whole

-- what a rule decides on some values of the leaf
abbrev pub partial_rule : Leaf → (Decision × List FilteredPath) → PatternRule
partial_rule l p = record { decision = p.0; filters = Some (filters_on l p.1) }

-- the rules of a leaf's pattern that decide on some values
abbrev pub partial_rules : Leaf → Option Decision → List (Decision × List FilteredPath) → List PatternRule
partial_rules l whole ps = map (partial_rule l) (filter (counts l whole) ps)

-- the last rule of a pattern, which decides on all values; rule 0, which denies, for None
abbrev pub last_rule : Option Decision → PatternRule
last_rule whole = record { decision = or_denied whole; filters = None }

-- the decision of the last rule of a leaf's pattern in a table
unfoldable pub last_decision : Patterns → Leaf → Decision
last_decision ps l = or_denied (decided ps.last l)

-- the rules of a leaf's pattern in a table
unfoldable pub rules_in : Patterns → Leaf → List PatternRule
rules_in ps l = partial_rules l (decided ps.last l) (map partial_paths ps.partial.items) ++ last_rule (decided ps.last l) ∷ []

-- ---- a client's rights

-- the rules of a leaf's pattern for reading, in the client's rights
abbrev pub reading_rules_in : Rights → Leaf → List PatternRule
reading_rules_in r l = rules_in r.read l

-- the decisions in the three tables of a client's rights: on reading, on modifying and on deleting
abbrev pub access_in : Rights → Access
access_in r = record {
  read = λ l. whole_decision (decisions_of (rules_in r.read l));
  patterns = λ l. decisions_of (rules_in r.read l);
  modify = decision r.modify;
  delete = decision r.delete;
}
