-- What each rule adds to a table of patterns.
use Rattle.std.specs.Prelude.{◌≡◌, ◌≤◌, ℕ, Bool, true, false, List, [], ◌∷◌, ◌++◌, map, filter, All, Option, None, Some}
use Rattle.std.specs.List.{enumerate_from}
use Rattle.scim_schema.specs.declared.Kind.{Kind}
use Rattle.scim_schema.specs.declared.Op.TheVariants.{Read}
use Rattle.scim_schema.specs.declared.Leaf.{Leaf}
use Rattle.scim_cell.specs.Content.{Content}
use Rattle.scim_policy.specs.declared.rules.Decision.{Decision}
use Rattle.scim_policy.specs.declared.patterns.Patterns.{Patterns}
use Rattle.scim_policy.specs.Rules.{FilteredPath, Rule}
use Rattle.scim_policy.specs.Fits.{filtered_on, fits, paths_on}
use Rattle.scim_policy.specs.Patterns.{PatternRule, up_to_whole}
use Rattle.scim_policy.specs.PatternTable.{partial_paths, partial_rules, last_rule}
use Rattle.scim_policy.specs.Table.{or_else, decided}
use Rattle.scim_policy.specs.code.Walk.{by_paths}

-- what a rule with these paths with a value filter adds: nothing if there are none
abbrev pub partial_of : Decision → List FilteredPath → List (Decision × List FilteredPath)
partial_of d [] = []
partial_of d (p ∷ ps) = (d, p ∷ ps) ∷ []

-- the new table has the decisions of the old one, and those of the rule's paths on resources of the kind
pub record AddsRule (kind : Kind) (r : Rule) (d : Decision) (old new : Patterns) : Type 0 where
  pub last : (l : Leaf) → decided new.last l ≡ or_else (decided old.last l) (by_paths (paths_on kind r.paths) d l)
  pub partial : map partial_paths new.partial.items ≡ map partial_paths old.partial.items ++ partial_of d (filtered_on kind r.paths)

-- the new table is the old one with the rule added if the rule is for reading, else it is the old one
pub record AddsIf (reads : Bool) (kind : Kind) (r : Rule) (d : Decision) (old new : Patterns) : Type 0 where
  pub added : reads ≡ true → AddsRule kind r d old new
  pub same : reads ≡ false → new ≡ old

-- the rules of a pattern behind those that were walked, of the rules that fit: the one that covers the leaf at
-- all values if it was walked, else the others
abbrev pub rules_left : Content → Leaf → Option Decision → List (ℕ × Rule) → List PatternRule
rules_left c l None fitting = up_to_whole c l fitting
rules_left c l (Some d) fitting = last_rule (Some d) ∷ []

-- the rules that fit, of rules numbered from n
abbrev pub fitting_from : List ℕ → Content → Leaf → ℕ → List Rule → List (ℕ × Rule)
fitting_from client c l n rs = filter (λ (numbered : ℕ × Rule). fits client Read c l numbered.1) (enumerate_from n rs)

-- a table to which the rules up to a number were added gives, with the rules that are left, all rules of each
-- leaf's pattern
pub record HasWalked (c : Content) (left : Leaf → List (ℕ × Rule)) (all : Leaf → List PatternRule) (number : ℕ) (ps : Patterns) : Type 0 where
  pub goes : (l : Leaf) → partial_rules l (decided ps.last l) (map partial_paths ps.partial.items) ++ rules_left c l (decided ps.last l) (left l) ≡ all l
  pub low_partial : All (λ (p : Decision × List FilteredPath). p.0.rule ≤ number) (map partial_paths ps.partial.items)
  pub low_last : (l : Leaf) (d : Decision) → decided ps.last l ≡ Some d → d.rule ≤ number
