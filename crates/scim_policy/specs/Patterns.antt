-- Which rules decide on reading the values of a leaf: the pattern of the leaf.
use Rattle.std.specs.Prelude.{ℕ, Bool, true, false, not, List, [], ◌∷◌, ◌++◌, map, filter, Option, None, Some, if◌then◌else◌}
use Rattle.std.specs.List.{list_any, enumerate_from}
use Rattle.scim_schema.specs.declared.Op.TheVariants.{Read}
use Rattle.scim_schema.specs.declared.Leaf.{Leaf}
use Rattle.scim_cell.specs.Content.{Content}
use Rattle.scim_cell.specs.Rows.{Row, rows}
use Rattle.scim_filter_grammar.specs.Tree.{Tree}
use Rattle.scim_filter.specs.Truth.{truth_at, truth_in_value}
use Rattle.scim_policy.specs.declared.rules.Decision.{Decision}
use Rattle.scim_policy.specs.Rules.{FilteredPath, Rule}
use Rattle.scim_policy.specs.Fits.{covers_in, covers_in_part, filtered_on, fits}

-- the filters of those paths with a value filter that cover the leaf
abbrev pub filters_on : Leaf → List FilteredPath → List Tree
filters_on l ps = map (λ (p : FilteredPath). p.tree) (filter (covers_in_part l) ps)

-- ---- the pattern of a leaf

-- a rule of a pattern: its decision, and the filters of which a value must match one; None if it is for all
-- values
pub record PatternRule : Type 0 where
  pub decision : Decision
  pub filters : Option (List Tree)

-- the decision of a numbered rule
abbrev pub decision_of : (ℕ × Rule) → Decision
decision_of n = record { rule = n.0; allow = n.1.allow }

-- the numbered rules up to and with the first that covers the leaf at all values; if there is none, rule 0 is
-- behind them, which denies
abbrev pub up_to_whole : Content → Leaf → List (ℕ × Rule) → List PatternRule
up_to_whole c l [] = record { decision = record { rule = 0; allow = false }; filters = None } ∷ []
up_to_whole c l (n ∷ more) =
    if covers_in c l n.1
    then record { decision = decision_of n; filters = None } ∷ []
    else record { decision = decision_of n; filters = Some (filters_on l (filtered_on c.kind n.1.paths)) } ∷ up_to_whole c l more

-- the rules that decide on reading the values of a leaf, in order: those that fit, up to and with the first that
-- covers the leaf at all values
unfoldable pub pattern_rules : List Rule → List ℕ → Content → Leaf → List PatternRule
pattern_rules policy client c l = up_to_whole c l (filter (λ (numbered : ℕ × Rule). fits client Read c l numbered.1) (enumerate_from 1 policy))

-- the decisions of rules of a pattern
abbrev pub decisions_of : List PatternRule → List Decision
decisions_of rs = map (λ (r : PatternRule). r.decision) rs

-- the pattern of a leaf for reading: the decisions of its rules
abbrev pub pattern : List Rule → List ℕ → Content → Leaf → List Decision
pattern policy client c l = decisions_of (pattern_rules policy client c l)

-- ---- what a pattern decides

-- the first element, or the denial by rule 0 if there is none
abbrev pub first_or_denied : List Decision → Decision
first_or_denied [] = record { rule = 0; allow = false }
first_or_denied (d ∷ ds) = d

-- the decision on a leaf as a whole, for all its values: the first that denies; if all allow, the first
abbrev pub whole_decision : List Decision → Decision
whole_decision ds = first_or_denied (filter (λ (d : Decision). not d.allow) ds ++ ds)

-- whether a rule of a pattern is for a value, by a test that tells which filters the value matches
abbrev pub is_for_value : (Tree → Bool) → PatternRule → Bool
is_for_value matches r = is_for_filters matches r.filters
  where
    is_for_filters : (Tree → Bool) → Option (List Tree) → Bool
    is_for_filters matches None = true
    is_for_filters matches (Some trees) = list_any matches trees

-- the decision of the first rule that is for a value
abbrev pub decided_for : (Tree → Bool) → List PatternRule → Decision
decided_for matches rs = first_or_denied (decisions_of (filter (is_for_value matches) rs))

-- the decision on reading the leaf in one value
unfoldable pub decide_in : List Rule → List ℕ → Content → Leaf → Row → Decision
decide_in policy client c l value = decided_for (λ t. truth_in_value t value) (pattern_rules policy client c l)

-- the decision on reading the leaf at a position; a filter sees no cells at a position past the last value
unfoldable pub decide_at : List Rule → List ℕ → Content → Leaf → ℕ → Decision
decide_at policy client c l position = decided_for (λ t. truth_at t position (rows c)) (pattern_rules policy client c l)
