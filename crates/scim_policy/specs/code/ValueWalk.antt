-- How the fields of a value are decided, with each value filter evaluated once.
use Rattle.std.specs.Prelude.{Bool, ◌&&◌, List, map, filter}
use Rattle.std.specs.List.{list_any}
use denote.Ref.{Bor}
use Rattle.scim_cell.specs.declared.rows.Field.{Field}
use Rattle.scim_cell.specs.Rows.{Row}
use Rattle.scim_filter.specs.Truth.{truth_in_value}
use Rattle.scim_policy.specs.declared.rules.Decision.{Decision}
use Rattle.scim_policy.specs.declared.patterns.MatchingRule.{MatchingRule}
use Rattle.scim_policy.specs.Rules.{FilteredPath}
use Rattle.scim_policy.specs.Fits.{covers_in_part}

-- whether the path covers a field of the value
abbrev pub covers_field : List Field → FilteredPath → Bool
covers_field fs p = list_any (λ (f : Field). covers_in_part f.leaf p) fs

-- the paths that cover a field of the value, and whose filter the value matches
abbrev pub matched_in : Row → List FilteredPath → List FilteredPath
matched_in value ps = filter (λ (p : FilteredPath). covers_field value.fields p && truth_in_value p.tree value) ps

-- a rule with only those paths
abbrev pub matching : Row → (Decision × List FilteredPath) → Decision × List FilteredPath
matching value p = (p.0, matched_in value p.1)

-- the decision of a rule, and its paths that a value matches
abbrev pub matching_paths : MatchingRule → Decision × List FilteredPath
matching_paths m = (m.decision, map (λ (p : Bor FilteredPath). p.now) m.matched.items)
