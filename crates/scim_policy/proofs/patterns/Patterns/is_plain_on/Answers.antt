use Rattle.std.proofs.Common.{◌∙◌, sym}
use Rattle.std.proofs.lemmas.Bool.{not-true}
use Rattle.scim_policy.proofs.PatternLemmas.{plain_rules}
use Rattle.scim_policy.proofs.patterns.Patterns.is_plain_on.Goals as goal

pub returns : goal.returns
returns c = λ plain. plain_rules c.args.self.now c.args.attributes.now (sym c.has_rule_on.ensures ∙ not-true c.has_rule_on.result plain)
