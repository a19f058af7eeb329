-- Which rule of a policy decides.
use Rattle.std.specs.Prelude.{ℕ, List}
use Rattle.scim_schema.specs.declared.Op.{Op}
use Rattle.scim_schema.specs.declared.Op.TheVariants.{Read}
use Rattle.scim_schema.specs.declared.Leaf.{Leaf}
use Rattle.scim_cell.specs.Content.{Content}
use Rattle.scim_policy.specs.declared.rules.Decision.{Decision}
use Rattle.scim_policy.specs.Rules.{Rule}
use Rattle.scim_policy.specs.Fits.{decide_wholly}
use Rattle.scim_policy.specs.Patterns.{pattern, whole_decision}

-- the decision of the policy on a leaf: for reading, the decision of the leaf's pattern on all values; for another
-- operation, the decision of the first rule that fits
unfoldable pub decide : List Rule → List ℕ → Op → Content → Leaf → Decision
decide policy client Read c l = whole_decision (pattern policy client c l)
decide policy client op c l = decide_wholly policy client op c l
