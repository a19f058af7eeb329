use Rattle.std.proofs.Common.{◌≡◌}
use Rattle.std.specs.Prelude.{filter, not}
use Rattle.scim_filter_grammar.specs.Tree.{tree_of}
use Rattle.scim_filter.specs.Truth.{truth_in_value}
use Rattle.scim_patch_values.proofs.matches.remove_matches.Given as goal

abbrev pub invariant-loop-value : goal.invariant-loop-value
invariant-loop-value l = l.left.items ≡ filter (λ value. not (truth_in_value (tree_of l.matching) value)) l.yielded
