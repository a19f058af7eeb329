use Rattle.std.proofs.Common.{◌≡◌, drop}
use Rattle.scim_schema.specs.declared.Leaf.{Leaf}
use Rattle.scim_policy.specs.Table.{or_else}
use Rattle.scim_policy.specs.Table.{decided}
use Rattle.scim_policy.specs.code.Walk.{by_paths}
use Rattle.scim_policy.proofs.decisions.Decisions.add_paths.Given as goal

abbrev pub invariant-loop-path : goal.invariant-loop-path
invariant-loop-path l =
    (m : Leaf) → or_else (decided l.self m) (by_paths (drop l.path-index l.paths) l.decision m) ≡ or_else (decided l.fn.self m) (by_paths l.paths l.decision m)
