use Rattle.std.proofs.Common.{◌≡◌, drop}
use Rattle.std.specs.List.{list_any}
use Rattle.scim_filter.specs.Truth.{truth_in_value}
use Rattle.scim_policy.specs.Patterns.{filters_on}
use Rattle.scim_policy.proofs.patterns.PartialRule.is_for_value.Given as goal

abbrev pub invariant-loop-path : goal.invariant-loop-path
invariant-loop-path l =
    list_any (λ t. truth_in_value t l.value) (filters_on l.leaf (drop l.path-index l.path-items))
    ≡ list_any (λ t. truth_in_value t l.value) (filters_on l.leaf l.path-items)
