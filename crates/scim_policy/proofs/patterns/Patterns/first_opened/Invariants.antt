use Rattle.std.proofs.Common.{◌≡◌, drop}
use Rattle.std.specs.List.{filter_map}
use Rattle.scim_schema.specs.declared.Leaf.{Leaf}
use Rattle.scim_schema.specs.Table.{leaves}
use Rattle.scim_policy.specs.Opened.{opened_at, opening}
use Rattle.scim_policy.specs.Patterns.{decisions_of}
use Rattle.scim_policy.specs.PatternTable.{rules_in}
use Rattle.scim_policy.proofs.patterns.Patterns.first_opened.Given as goal

abbrev pub invariant-loop-leaf : goal.invariant-loop-leaf
invariant-loop-leaf l =
    let opened = λ (m : Leaf). opening m (opened_at (decisions_of (rules_in l.self m)) (decisions_of (rules_in l.after m))) in
    filter_map opened (drop l.leaf-index l.leaf-items) ≡ filter_map opened (leaves l.fn.kind)
