use Rattle.std.proofs.Common.{◌≡◌, ◌+◌, ◌∙◌, sym, ap, true, Option, drop, ℕ}
use Rattle.scim_schema.specs.declared.Kind.{Kind}
use Rattle.scim_policy.specs.declared.rules.Decision.{Decision}
use Rattle.scim_policy.specs.Table.{or_else}
use Rattle.scim_policy.specs.Fits.{paths_on, speaks_of}
use Rattle.scim_policy.specs.Table.{decided}
use Rattle.scim_policy.specs.code.Walk.{by_paths, by_rule, by_rules}
use Rattle.scim_policy.proofs.TableLemmas.{all_known}
use Rattle.scim_policy.proofs.RuleLemmas.{rules_step, spoken}
use Rattle.scim_policy.proofs.decisions.Decisions.add_rules.Goals as goal

pub returns-then-is_some : goal.returns-then-is_some
returns-then-is_some c l =
    let client = c.args.client.now in
    let resource = c.args.resource.now in
    let n = c.loop-rule.number + 1 in
    let speaks : speaks_of client c.args.op resource c.rule-item.result ≡ true = sym c.in_ok-speaks_of.ensures ∙ c.if-branch.true in
    let added : decided c.add_rule.new.self l ≡ or_else (decided c.loop-rule.self l) (by_rule client c.args.op resource l n c.rule-item.result) =
    c.in_ok-add_rule.ensures l
    ∙ ap (λ (k : Kind). or_else (decided c.loop-rule.self l) (by_paths (paths_on k c.rule-item.result.paths) (record { rule = n; allow = c.rule-item.result.allow }) l)) c.kind.ensures
    ∙ ap (λ (o : Option Decision). or_else (decided c.loop-rule.self l) o) (sym (spoken client c.args.op resource l n c.rule-item.result speaks)) in
    let all : or_else (decided c.add_rule.new.self l) (by_rules client c.args.op resource l (n + 1) (drop (c.loop-rule.rule-index + 1) c.args.rules.now)) ≡ or_else (decided c.loop-rule.self l) (by_rules client c.args.op resource l n (drop c.loop-rule.rule-index c.args.rules.now)) =
    rules_step client c.args.op resource l c.args.rules.now c.loop-rule.rule-index n c.rule-item.result _ _ c.loop-rule-test.true c.rule-item.is added in
    sym (all_known c.add_rule.new.self l _ (sym c.is_some.ensures ∙ c.if-is_some.true))
    ∙ all
    ∙ ap (λ (k : ℕ). or_else (decided c.loop-rule.self l) (by_rules client c.args.op resource l (k + 1) (drop c.loop-rule.rule-index c.args.rules.now))) c.loop-rule.invariant.0
    ∙ c.loop-rule.invariant.1 l
