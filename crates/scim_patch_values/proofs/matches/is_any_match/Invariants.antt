use Rattle.std.proofs.Common.{◌≡◌, drop}
use Rattle.scim_filter_grammar.specs.Tree.{tree_of}
use Rattle.scim_patch_values.specs.Matches.{is_any_match}
use Rattle.scim_patch_values.proofs.matches.is_any_match.Given as goal

-- those that are left decide
abbrev pub invariant-loop-value : goal.invariant-loop-value
invariant-loop-value l = is_any_match (tree_of l.matching) (drop l.value-index l.values) ≡ is_any_match (tree_of l.matching) l.values
