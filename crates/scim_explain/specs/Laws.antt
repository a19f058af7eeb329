-- Laws about explanations and idle rules.
use Rattle.std.specs.Prelude.{◌≡◌, ◌≢◌, true, ◌==◌, ◌-◌, ℕ, false, List, [], ◌∷◌, ◌++◌, All, length, map, take, if◌then◌else◌}
use Rattle.scim_schema.specs.declared.Op.{Op}
use Rattle.scim_schema.specs.declared.Op.TheVariants.{Read}
use Rattle.scim_schema.specs.declared.Leaf.{Leaf}
use Rattle.scim_cell.specs.Content.{Content}
use Rattle.scim_policy.specs.declared.rules.Decision.{Decision}
use Rattle.scim_policy.specs.Rules.{Rule}
use Rattle.scim_policy.specs.Fits.{fits, fits_wholly}
use Rattle.scim_policy.specs.Decide.{decide}
use Rattle.scim_policy.specs.Patterns.{decide_at, pattern}
use Rattle.scim_explain.specs.declared.never_deciding.IdleRule.{IdleRule}
use Rattle.scim_explain.specs.Explain.{Explanation, entry_of, explained, parts}
use Rattle.scim_explain.specs.Idle.{covers_rule, idle_rules}

-- the rules that an explanation has entries for: the rules before the deciding rule, or all if none decides
abbrev pub rules_before : List Rule → Explanation → List Rule
rules_before policy e = if e.decision.rule == 0 then policy else take (e.decision.rule - 1) policy

-- an explanation has one entry for each rule before the deciding rule, or for each rule if none decides
abbrev pub TellsOfEachEarlierRule : Type 0
TellsOfEachEarlierRule =
    (policy : List Rule) (client : List ℕ) (op : Op) (c : Content) (l : Leaf)
    → length (explained policy client op c l).entries ≡ (let e = explained policy client op c l in if e.decision.rule == 0 then length policy else e.decision.rule - 1)

-- the entries of an explanation are, in order, those of the rules before the deciding rule, or of all rules if
-- none decides: the misfit of a rule that has one, and of another rule what it decides in part
abbrev pub TellsTheEntryOfEach : Type 0
TellsTheEntryOfEach =
    (policy : List Rule) (client : List ℕ) (op : Op) (c : Content) (l : Leaf)
    → (explained policy client op c l).entries ≡ map (entry_of client op c l) (rules_before policy (explained policy client op c l))

-- no rule before the deciding rule fits and covers the leaf at all values; if none decides, no rule does
abbrev pub NoEarlierRuleFitsWholly : Type 0
NoEarlierRuleFitsWholly =
    (policy : List Rule) (client : List ℕ) (op : Op) (c : Content) (l : Leaf)
    → All (λ r. fits_wholly client op c l r ≡ false) (rules_before policy (explained policy client op c l))

-- for reading, what an explanation tells to be decided in part, and its decision behind it, are the pattern of
-- the leaf
abbrev pub TellsThePattern : Type 0
TellsThePattern =
    (policy : List Rule) (client : List ℕ) (c : Content) (l : Leaf)
    → (let e = explained policy client Read c l in parts e ++ e.decision ∷ []) ≡ pattern policy client c l

-- for any other operation, nothing is decided in part
abbrev pub DecidesNothingElseInPart : Type 0
DecidesNothingElseInPart =
    (policy : List Rule) (client : List ℕ) (op : Op) (c : Content) (l : Leaf) → op ≢ Read → parts (explained policy client op c l) ≡ []

-- a rule that covers another rule fits wherever the other rule fits, and covers the leaf at all values there
abbrev pub CoveringRulesFit : Type 0
CoveringRulesFit =
    (e r : Rule) (client : List ℕ) (op : Op) (c : Content) (l : Leaf) → covers_rule e r ≡ true → fits client op c l r ≡ true → fits_wholly client op c l e ≡ true

-- no idle rule of a policy is the deciding rule
abbrev pub IdleRulesNeverDecide : Type 0
IdleRulesNeverDecide =
    (policy : List Rule) (client : List ℕ) (op : Op) (c : Content) (l : Leaf) → All (λ (idle : IdleRule). (decide policy client op c l).rule ≢ idle.rule) (idle_rules policy)

-- no idle rule of a policy is in the pattern of a leaf
abbrev pub IdleRulesAreInNoPattern : Type 0
IdleRulesAreInNoPattern =
    (policy : List Rule) (client : List ℕ) (c : Content) (l : Leaf)
    → All (λ (idle : IdleRule). All (λ (d : Decision). d.rule ≢ idle.rule) (pattern policy client c l)) (idle_rules policy)

-- no idle rule of a policy decides on reading a leaf at a position
abbrev pub IdleRulesDecideNoValue : Type 0
IdleRulesDecideNoValue =
    (policy : List Rule) (client : List ℕ) (c : Content) (l : Leaf) (position : ℕ)
    → All (λ (idle : IdleRule). (decide_at policy client c l position).rule ≢ idle.rule) (idle_rules policy)
