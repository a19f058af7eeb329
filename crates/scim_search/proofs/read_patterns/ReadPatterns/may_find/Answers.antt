use Rattle.std.proofs.Common.{sym, ◌∙◌, true≢false}
use Rattle.scim_policy.specs.PatternTable.{rules_in}
use Rattle.scim_search.specs.ReadPatterns.{AreRulesOn}
use Rattle.scim_search.proofs.WalkLemmas.{never_seen, seen_by}
use Rattle.scim_search.proofs.read_patterns.ReadPatterns.may_find.Goals as goal

pub returns-then-shows_id : goal.returns-then-shows_id
returns-then-shows_id c fails v groups d are part own seen =
    let ps = c.in-Alike.patterns in
    let alike : AreRulesOn v c.args.self.now.kind (λ x. rules_in ps) = rw c.in-Alike.is at are in
    never_seen c.args.query.now.filter ps v groups d (alike d own) (c.may_match.ensures fails d part own)

pub returns-else-shows_id : goal.returns-else-shows_id
returns-else-shows_id c fails v groups d are part own seen =
    let ps = c.in-Alike.patterns in
    let alike : AreRulesOn v c.args.self.now.kind (λ x. rules_in ps) = rw c.in-Alike.is at are in
    absurd (true≢false (sym seen ∙ sym (c.shows_id.ensures ∙ seen_by v d ps (alike d own)) ∙ fails))
