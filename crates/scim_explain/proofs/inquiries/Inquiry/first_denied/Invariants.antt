use Rattle.std.proofs.Common.{◌≡◌, drop}
use Rattle.scim_explain.specs.Inquiries as spec
use Rattle.scim_explain.specs.code.InquiryParts.{inquiry_in}
use Rattle.scim_explain.proofs.inquiries.Inquiry.first_denied.Given as goal

-- the first is among those that are left
abbrev pub invariant-loop-leaf : goal.invariant-loop-leaf
invariant-loop-leaf l = spec.first_denied (inquiry_in l.self) l.unit (drop l.leaf-index l.leaves) ≡ spec.first_denied (inquiry_in l.self) l.unit l.leaves
