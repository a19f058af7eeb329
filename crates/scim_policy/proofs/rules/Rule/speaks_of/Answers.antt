use Rattle.std.proofs.Common.{◌∙◌, sym, ap, Bool}
use Rattle.std.specs.Prelude.{◌&&◌}
use Rattle.scim_schema.specs.declared.Kind.{Kind}
use Rattle.scim_policy.specs.Fits.{is_about, is_target_met}
use Rattle.scim_policy.proofs.RuleLemmas.{speaks_grouped}
use Rattle.scim_policy.proofs.rules.Rule.speaks_of.Goals as goal

pub returns-in_ok-is_target_met : goal.returns-in_ok-is_target_met
returns-in_ok-is_target_met c =
    let about = c.is_about.ensures ∙ ap (λ (k : Kind). is_about c.args.client.now c.args.op k c.args.self.now) c.kind.ensures in
    c.in_ok-is_target_met.ensures
    ∙ ap (λ (b : Bool). b && is_target_met c.args.resource.now c.args.self.now) (sym c.if-is_about.true ∙ about)
    ∙ sym (speaks_grouped c.args.client.now c.args.op c.args.resource.now c.args.self.now)

pub returns-else-is_about : goal.returns-else-is_about
returns-else-is_about c =
    let about = c.is_about.ensures ∙ ap (λ (k : Kind). is_about c.args.client.now c.args.op k c.args.self.now) c.kind.ensures in
    c.if-is_about.false
    ∙ ap (λ (b : Bool). b && is_target_met c.args.resource.now c.args.self.now) (sym c.if-is_about.false ∙ about)
    ∙ sym (speaks_grouped c.args.client.now c.args.op c.args.resource.now c.args.self.now)
