use Rattle.std.proofs.Common.{sym, ◌∙◌}
use Rattle.scim_policy.specs.PatternTable.{rules_in}
use Rattle.scim_search.specs.ReadPatterns.{AreRulesOn}
use Rattle.scim_search.proofs.WalkLemmas.{seen_by}
use Rattle.scim_search.proofs.read_patterns.ReadPatterns.show_all.Goals as goal

pub returns-in-Alike : goal.returns-in-Alike
returns-in-Alike c shows v are d own =
    let ps = c.in-Alike.patterns in
    let alike : AreRulesOn v c.args.self.now.kind (λ x. rules_in ps) = rw c.in-Alike.is at are in
    sym (seen_by v d ps (alike d own)) ∙ sym c.shows_id.ensures ∙ shows
