use Rattle.std.proofs.Common.{◌≡◌, ◌∙◌, sym, ap, subst, ℕ, List, ◌++◌, ◌∷◌, [], length, ◌+◌}
use Rattle.std.proofs.lemmas.List.{length_push}
use Rattle.scim_policy.specs.Rules.{Rule}
use Rattle.scim_policy_file.proofs.FileLemmas.{AreRead, read_more}
use Rattle.scim_policy_file.proofs.policy_files.read_rules.Goals as goal

pub loop-value-preserved : goal.loop-value-preserved
loop-value-preserved c =
    let rules = c.loop-value.rules.items in
    let i = c.loop-value.value-index in
    let r = c.in_ok-read_rule.field-0 in
    let items : c.push.new.values.items ≡ rules ++ r ∷ [] = c.in_ok-push.ensures.items in
    let long : length c.push.new.values.items ≡ length rules + 1 = ap (λ (rs : List Rule). length rs) items ∙ length_push rules r in
    let more : AreRead c.args.version (rules ++ r ∷ []) (i + 1) c.args.values.now = read_more c.args.version rules i c.loop-value.number c.args.values.now c.value-item.result r c.loop-value-test.true c.value-item.is c.loop-value.invariant.0 c.in_ok-read_rule.ensures.rule c.loop-value.invariant.2 in
    (ap (λ (n : ℕ). n + 1) c.loop-value.invariant.0, long ∙ ap (λ (n : ℕ). n + 1) c.loop-value.invariant.1, subst (λ (rs : List Rule). AreRead c.args.version rs (i + 1) c.args.values.now) (sym items) more)
