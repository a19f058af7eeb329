-- Laws about the patterns of leaves.
use Rattle.std.specs.Prelude.{◌≡◌, ℕ, true, ◌==◌, Bool, List, [], ◌∷◌, length, slice_get, Some}
use Rattle.std.specs.List.{list_all}
use Rattle.scim_schema.specs.declared.Op.TheVariants.{Read}
use Rattle.scim_schema.specs.declared.Leaf.{Leaf}
use Rattle.scim_cell.specs.Content.{Content}
use Rattle.scim_cell.specs.Rows.{Row, rows, attribute_rows}
use Rattle.scim_policy.specs.declared.rules.Decision.{Decision}
use Rattle.scim_policy.specs.Rules.{KindPaths, Rule}
use Rattle.scim_policy.specs.Decide.{decide}
use Rattle.scim_policy.specs.Patterns.{pattern_rules, pattern, decide_in, decide_at}
use Rattle.scim_policy.specs.Control.{control}

-- whether no rule has a path with a value filter
abbrev pub is_plain : List Rule → Bool
is_plain policy = list_all (λ (r : Rule). list_all (λ (p : KindPaths). length p.filtered == 0) r.paths) policy

-- in a policy without value filters, a leaf's pattern is the decision of the policy, which also decides at each
-- position
pub record IsOneDecision (policy : List Rule) (client : List ℕ) (c : Content) (l : Leaf) : Type 0 where
  pub one : pattern policy client c l ≡ decide policy client Read c l ∷ []
  pub positions : (k : ℕ) → decide_at policy client c l k ≡ decide policy client Read c l
  pub values : (r : Row) → decide_in policy client c l r ≡ decide policy client Read c l

abbrev pub PlainPoliciesDecideOnce : Type 0
PlainPoliciesDecideOnce = (policy : List Rule) (client : List ℕ) (c : Content) (l : Leaf) → is_plain policy ≡ true → IsOneDecision policy client c l

-- the decision at a position is the decision in the value there
abbrev pub PositionsAreDecidedByValue : Type 0
PositionsAreDecidedByValue =
    (policy : List Rule) (client : List ℕ) (c : Content) (l : Leaf) (k : ℕ) (r : Row)
    → slice_get (attribute_rows l.attribute (rows c)) k ≡ Some r → decide_at policy client c l k ≡ decide_in policy client c l r

-- reading a leaf is allowed as a whole exactly if each rule of its pattern allows; then it is allowed at each
-- position, and in each value
pub record IsAllowedWholly (policy : List Rule) (client : List ℕ) (c : Content) (l : Leaf) : Type 0 where
  pub every : (decide policy client Read c l).allow ≡ list_all (λ (d : Decision). d.allow) (pattern policy client c l)
  pub positions : (decide policy client Read c l).allow ≡ true → (k : ℕ) → (decide_at policy client c l k).allow ≡ true
  pub values : (decide policy client Read c l).allow ≡ true → (r : Row) → (decide_in policy client c l r).allow ≡ true

abbrev pub WholesAllowEachValue : Type 0
WholesAllowEachValue = (policy : List Rule) (client : List ℕ) (c : Content) (l : Leaf) → IsAllowedWholly policy client c l

-- if two resources of one kind have equal values of `control`, the leaf's pattern has the same rules on both, with
-- the same value filters
abbrev pub PatternsRestOnControl : Type 0
PatternsRestOnControl =
    (policy : List Rule) (client : List ℕ) (a b : Content) (l : Leaf)
    → a.kind ≡ b.kind → control policy a ≡ control policy b → pattern_rules policy client a l ≡ pattern_rules policy client b l
