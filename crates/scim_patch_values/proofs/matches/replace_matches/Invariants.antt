use Rattle.std.proofs.Common.{◌≡◌}
use Rattle.std.specs.Prelude.{map}
use Rattle.scim_filter_grammar.specs.Tree.{tree_of}
use Rattle.scim_patch_values.specs.Matches.{replaced_at_match}
use Rattle.scim_patch_values.proofs.matches.replace_matches.Given as goal

abbrev pub invariant-loop-value : goal.invariant-loop-value
invariant-loop-value l = l.left.items ≡ map (replaced_at_match (tree_of l.matching) l.given) l.yielded
