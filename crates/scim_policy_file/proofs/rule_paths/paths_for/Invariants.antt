use Rattle.std.proofs.Common.{◌≡◌, ◌++◌, map, take}
use Rattle.std.specs.Prelude.{filter_map}
use Rattle.scim_policy_file.specs.Paths.{path_named, with_filter, without_filter}
use Rattle.scim_policy_file.specs.code.Written.{text_at}
use Rattle.scim_policy_file.specs.code.Standings.{standings_on}
use Rattle.scim_policy_file.proofs.rule_paths.paths_for.Given as goal

-- the paths and the standings so far are those of the texts before this one
abbrev pub invariant-loop-text : goal.invariant-loop-text
invariant-loop-text l =
    (l.plain.items ≡ filter_map without_filter (filter_map (λ t. path_named l.version t l.kind) (map text_at (take l.text-index l.texts))))
    × (l.filtered.items ≡ filter_map with_filter (filter_map (λ t. path_named l.version t l.kind) (map text_at (take l.text-index l.texts))))
    × (l.standings.items ≡ l.initial.standings.items ++ standings_on l.version l.ops (map text_at (take l.text-index l.texts)) l.kind)
