use Rattle.std.proofs.Common.{◌≡◌, ◌++◌, drop, string_bytes}
use Rattle.scim_explain.specs.Tables as spec
use Rattle.scim_explain.specs.code.InquiryParts.{inquiry_in}
use Rattle.scim_explain.proofs.decision_table.leaf_lines.Given as goal

-- the lines so far, and those of the leaves from this one on, are those of all
abbrev pub invariant-loop-leaf : goal.invariant-loop-leaf
invariant-loop-leaf l = string_bytes l.text ++ spec.leaf_lines (inquiry_in l.inquiry) (drop l.leaf-index l.leaves) ≡ spec.leaf_lines (inquiry_in l.inquiry) l.leaves
