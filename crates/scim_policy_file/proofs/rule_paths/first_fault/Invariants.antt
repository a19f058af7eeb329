use Rattle.std.proofs.Common.{◌≡◌, map, drop}
use Rattle.scim_policy_file.specs.code.Written.{text_at}
use Rattle.scim_policy_file.specs.code.Standings.{faults_from, first_of}
use Rattle.scim_policy_file.proofs.rule_paths.first_fault.Given as goal

-- the entries before this one have no fault, so the first of those that are left is the first of all
abbrev pub invariant-loop-text : goal.invariant-loop-text
invariant-loop-text l =
    (l.place ≡ l._text-index)
    × (first_of (faults_from l.place (map (λ c. c.items) l.columns) (map text_at (drop l.place l.texts))) ≡ first_of (faults_from 0 (map (λ c. c.items) l.columns) (map text_at l.texts)))
