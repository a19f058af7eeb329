use Rattle.std.proofs.Common.{◌≡◌, drop, map}
use Rattle.std.specs.Prelude.{is_some}
use Rattle.json.specs.Find.{as_str}
use Rattle.json.specs.Value.{value_view}
use Rattle.scim_policy_file.specs.Lists.{each}
use Rattle.scim_fault_details.proofs.shape_details.first_other.Given as goal

-- the answer for the items that are left is that for all
abbrev pub invariant-loop-index : goal.invariant-loop-index
invariant-loop-index l = is_some (each as_str (map value_view (drop l.index l.items))) ≡ is_some (each as_str (map value_view l.items))
