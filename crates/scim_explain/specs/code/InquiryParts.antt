-- What the parts of an inquiry say.
use Rattle.std.specs.Prelude.{Option, None, Some}
use Rattle.scim_schema.specs.declared.Leaf.{Leaf}
use Rattle.scim_policy.specs.declared.rules.Decision.{Decision}
use Rattle.scim_policy.specs.declared.access_rights.Rights.{Rights}
use Rattle.scim_policy.specs.declared.decisions.Decisions.{Decisions}
use Rattle.scim_policy.specs.PatternTable.{access_in}
use Rattle.scim_policy.specs.Table.{decision}
use Rattle.scim_explain.specs.declared.inquiries.Inquiry.{Inquiry as InquiryParts}
use Rattle.scim_explain.specs.Inquiries.{Inquiry}

-- the decision on a leaf in a table, or if there is no table, on reading the leaf in all its values
abbrev pub decision_in : Rights → Option Decisions → Leaf → Decision
decision_in rights None l = (access_in rights).read l
decision_in rights (Some decisions) l = decision decisions l

-- the inquiry that the parts hold
abbrev pub inquiry_in : InquiryParts → Inquiry
inquiry_in i = record {
  op = i.op;
  kind = i.kind;
  on = decision_in i.rights i.decisions;
  access = access_in i.rights;
}
