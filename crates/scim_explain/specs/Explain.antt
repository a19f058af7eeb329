-- The explanation of a decision.
use Rattle.std.specs.Prelude.{ℕ, Bool, List, map, filter_map, Option, None, Some}
use Rattle.std.specs.List.{before_first, enumerate_from}
use Rattle.scim_schema.specs.declared.Op.{Op}
use Rattle.scim_schema.specs.declared.Leaf.{Leaf}
use Rattle.scim_cell.specs.Content.{Content}
use Rattle.scim_policy.specs.declared.misfits.Misfit.{Misfit}
use Rattle.scim_policy.specs.declared.rules.Decision.{Decision}
use Rattle.scim_policy.specs.Rules.{Rule}
use Rattle.scim_policy.specs.Fits.{decide_wholly, fits_wholly, misfit_of}
use Rattle.scim_explain.specs.declared.explanations.Earlier.{Earlier}
use Rattle.scim_explain.specs.declared.explanations.Earlier.TheVariants as earlier

-- the entry of a rule, by whether it allows and its misfit; a rule without a misfit decides in part
abbrev pub entry_with : Bool → Option Misfit → Earlier
entry_with allow None = earlier.InPart allow
entry_with allow (Some misfit) = earlier.Misfit misfit

-- the entry of a rule before the deciding one: its misfit, or what it decides in part if it fits
abbrev pub entry_of : List ℕ → Op → Content → Leaf → Rule → Earlier
entry_of client op c l r = entry_with r.allow (misfit_of client op c l r)

-- a decision, with the entries of the rules before the deciding one
pub record Explanation : Type 0 where
  pub entries : List Earlier
  pub decision : Decision

-- the decision of the first rule that fits and covers the leaf at all values, which for reading is the last of the
-- leaf's pattern; with the entries of the rules before it, or of all rules if there is none
abbrev pub explained : List Rule → List ℕ → Op → Content → Leaf → Explanation
explained policy client op c l = record {
  entries = map (entry_of client op c l) (before_first (fits_wholly client op c l) policy);
  decision = decide_wholly policy client op c l;
}

-- what the rule with this number decides in part, by its entry; None if it doesn't fit
abbrev pub part_of : ℕ → Earlier → Option Decision
part_of number (earlier.Misfit misfit) = None
part_of number (earlier.InPart allow) = Some (record { rule = number; allow = allow })

-- what rules decide in part, by their entries, in order; the first entry is of the rule with the number `first`
abbrev pub parts_from : ℕ → List Earlier → List Decision
parts_from first entries = filter_map (λ (numbered : ℕ × Earlier). part_of numbered.0 numbered.1) (enumerate_from first entries)

-- what the rules before the deciding one decide in part, in order
abbrev pub parts : Explanation → List Decision
parts e = parts_from 1 e.entries
