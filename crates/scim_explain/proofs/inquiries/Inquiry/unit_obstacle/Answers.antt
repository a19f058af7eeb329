use Rattle.std.proofs.Common.{sym, ap, ◌∙◌}
use Rattle.std.specs.Prelude.{Some, option_map}
use Rattle.scim_schema.specs.declared.Leaf.{Leaf}
use Rattle.scim_schema.specs.declared.Unit.{Unit as AttributeUnit}
use Rattle.scim_schema.specs.declared.Op.TheVariants.{Create}
use Rattle.scim_policy.specs.declared.rules.Decision.{Decision}
use Rattle.scim_explain.specs.declared.inquiries.Obstacle.TheVariants.{Denied}
use Rattle.scim_explain.specs.Inquiries.{first_denied, unit_obstacle}
use Rattle.scim_explain.specs.code.InquiryParts.{inquiry_in}
use Rattle.scim_explain.proofs.inquiries.Inquiry.unit_obstacle.Goals as goal

pub returns-in-Some : goal.returns-in-Some
unfolding unit_obstacle
returns-in-Some c =
    let i = inquiry_in c.args.self.now in
    let first = sym c.in-Some.is ∙ c.first_denied.ensures ∙ ap (λ (u : AttributeUnit). first_denied i u c.leaves.result.now) c.unit_of.ensures ∙ ap (first_denied i _) c.leaves.ensures in
    ap (λ (d : Decision). Some (Denied Create c.in-Some.denied d)) c.decision.ensures
    ∙ ap (option_map (λ (m : Leaf). Denied Create m (i.on m))) first

pub returns-in-None : goal.returns-in-None
unfolding unit_obstacle
returns-in-None c =
    let i = inquiry_in c.args.self.now in
    let first = sym c.in-None.is ∙ c.first_denied.ensures ∙ ap (λ (u : AttributeUnit). first_denied i u c.leaves.result.now) c.unit_of.ensures ∙ ap (first_denied i _) c.leaves.ensures in
    ap (option_map (λ (m : Leaf). Denied Create m (i.on m))) first
