use Rattle.std.proofs.Common.{sym, ap, ◌∙◌, ℕ, ◌-◌, arith}
use Rattle.std.specs.Prelude.{Some, filter, length, option_map}
use Rattle.scim_policy_warnings.specs.declared.losses.Scope.TheVariants.{OneUnit}
use Rattle.scim_policy_warnings.specs.Warnings.{gives_part}
use Rattle.scim_policy_warnings.specs.code.OutlookParts.{outlook_in}
use Rattle.scim_policy_warnings.proofs.LossLemmas.{first_of_lost, loss_among, some_pass}
use Rattle.scim_policy_warnings.proofs.losses.Outlook.unit_loss.Goals as goal

pub overflow_sub-result : goal.overflow_sub-result
overflow_sub-result c =
    let one = some_pass (gives_part (outlook_in c.args.self.now) c.args.rule.now) c.args.self.now.lost.items c.in_ok-first.first (sym c.in_ok-first.ensures) in
    omega (arith, one, c.parts.ensures)

pub returns : goal.returns
returns c =
    let p = gives_part (outlook_in c.args.self.now) c.args.rule.now in
    let us = c.args.self.now.lost.items in
    ap (λ (n : ℕ). Some (record { scope = OneUnit c.in_ok-first.first.unit (n - 1); missing = c.in_ok-first.first.missing })) c.parts.ensures
    ∙ ap (option_map (loss_among (length (filter p us)))) c.in_ok-first.ensures
    ∙ sym (first_of_lost p us)

pub returns-in_err-first : goal.returns-in_err-first
returns-in_err-first c =
    let p = gives_part (outlook_in c.args.self.now) c.args.rule.now in
    let us = c.args.self.now.lost.items in
    c.from_residual.ensures ∙ ap (option_map (loss_among (length (filter p us)))) c.in_err-first.ensures ∙ sym (first_of_lost p us)
