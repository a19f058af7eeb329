use Rattle.std.proofs.Common.{◌≡◌, ◌++◌, map, take}
use Rattle.scim_policy_file.specs.Paths.{paths_for}
use Rattle.scim_policy_file.specs.code.Written.{text_at}
use Rattle.scim_policy_file.specs.code.Standings.{columns_on}
use Rattle.scim_policy_file.proofs.rule_paths.paths_on_kinds.Given as goal

-- the paths and the columns so far are those on the kinds before this one
abbrev pub invariant-loop-kind : goal.invariant-loop-kind
invariant-loop-kind l =
    (l.paths.items ≡ map (paths_for l.version (map text_at l.texts)) (take l.kind-index l.kinds))
    × (map (λ c. c.items) l.columns.items ≡ map (λ c. c.items) l.initial.columns.items ++ columns_on l.version l.ops (take l.kind-index l.kinds) (map text_at l.texts))
