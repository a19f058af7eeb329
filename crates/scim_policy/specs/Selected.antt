-- Rules that were selected once for reading many resources, and the patterns that they give.
use Rattle.std.specs.Prelude.{ℕ, Bool, ◌&&◌, ◌||◌, List, filter}
use Rattle.scim_schema.specs.declared.Op.TheVariants.{Read}
use Rattle.scim_schema.specs.declared.Leaf.{Leaf}
use Rattle.scim_cell.specs.Content.{Content}
use Rattle.scim_policy.specs.Rules.{Rule}
use Rattle.scim_policy.specs.Fits.{covers_in, covers_partly, is_target_met}
use Rattle.scim_policy.specs.Patterns.{PatternRule, up_to_whole}

-- whether the rule covers the leaf at all values or, for reading, at some, and has no target or one that matches
-- the resource
abbrev pub is_met_for_reading : Content → Leaf → (ℕ × Rule) → Bool
is_met_for_reading c l numbered = is_target_met c numbered.1 && (covers_in c l numbered.1 || covers_partly Read c l numbered.1)

-- the rules of the leaf's pattern, of rules that were selected for reading
unfoldable pub rules_by : List (ℕ × Rule) → Content → Leaf → List PatternRule
rules_by selected c l = up_to_whole c l (filter (is_met_for_reading c l) selected)
