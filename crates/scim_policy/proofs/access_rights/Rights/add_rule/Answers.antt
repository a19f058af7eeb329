use Rattle.std.proofs.Common.{◌∙◌, sym}
use Rattle.std.proofs.lemmas.Result.{on_ok_weaker}
use Rattle.scim_schema.specs.declared.Op.TheVariants.{Modify, Delete}
use Rattle.scim_policy.proofs.AccessLemmas.{adds_ours, adds_other, adds_reading, adds_no_reading}
use Rattle.scim_policy.proofs.access_rights.Rights.add_rule.Goals as goal

pub returns-then-not-branch-clause-read : goal.returns-then-not-branch-clause-read
returns-then-not-branch-clause-read c =
    adds_no_reading c.args.client.now c.args.resource.now c.args.rule.now (record { rule = c.args.number; allow = c.args.rule.now.allow }) c.args.self.now.read (sym c.in_ok-is_for.ensures ∙ c.if-not-branch.true)

pub returns-then-not-branch-clause-modify : goal.returns-then-not-branch-clause-modify
returns-then-not-branch-clause-modify c = adds_other c.args.client.now Modify c.args.resource.now c.args.number c.args.rule.now c.args.self.now.modify (sym c.in_ok-is_for.ensures ∙ c.if-not-branch.true)

pub returns-then-not-branch-clause-delete : goal.returns-then-not-branch-clause-delete
returns-then-not-branch-clause-delete c = adds_other c.args.client.now Delete c.args.resource.now c.args.number c.args.rule.now c.args.self.now.delete (sym c.in_ok-is_for.ensures ∙ c.if-not-branch.true)

pub returns-clause-read : goal.returns-clause-read
returns-clause-read c =
    on_ok_weaker c.add_rule_for-2.result (λ _. adds_reading c.args.client.now c.args.resource.now c.kind-kind.result c.args.rule.now (record { rule = c.args.number; allow = c.args.rule.now.allow }) c.args.self.now.read c.add_rule_for_reading.new.self
    (sym c.in_ok-is_for.ensures ∙ c.if-not-branch.false) c.kind-kind.ensures c.in_ok-add_rule_for_reading.ensures) c.add_rule_for-2.ensures

pub returns-clause-modify : goal.returns-clause-modify
returns-clause-modify c =
    on_ok_weaker c.add_rule_for-2.result (λ _. adds_ours c.args.client.now Modify c.args.resource.now c.kind-kind.result c.args.number c.args.rule.now c.args.self.now.modify c.add_rule_for.new.self
    (sym c.in_ok-is_for.ensures ∙ c.if-not-branch.false) c.kind-kind.ensures c.in_ok-add_rule_for.ensures) c.add_rule_for-2.ensures

pub returns-clause-delete : goal.returns-clause-delete
returns-clause-delete c =
    on_ok_weaker c.add_rule_for-2.result (λ added. adds_ours c.args.client.now Delete c.args.resource.now c.kind-kind.result c.args.number c.args.rule.now c.args.self.now.delete c.add_rule_for-2.new.self
    (sym c.in_ok-is_for.ensures ∙ c.if-not-branch.false) c.kind-kind.ensures added) c.add_rule_for-2.ensures
