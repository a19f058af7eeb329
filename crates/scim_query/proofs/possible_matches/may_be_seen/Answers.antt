use Rattle.std.proofs.Common.{sym, ◌∙◌}
use Rattle.scim_policy.specs.PatternTable.{rules_in}
use Rattle.scim_view.specs.View.{decision_in}
use Rattle.scim_query.proofs.PossibleMatchLemmas.{stays_unseen, nothing_meant}
use Rattle.scim_query.proofs.possible_matches.may_be_seen.Goals as goal

pub returns-else-eq : goal.returns-else-eq
returns-else-eq c unseen =
    stays_unseen c.args.meant c.in-Some.attribute c.args.kind (rules_in c.args.patterns.now)
    (sym c.mentioned_attribute.ensures ∙ c.in-Some.is) (sym c.eq.ensures ∙ c.if-eq.false) (sym c.shows_some.ensures ∙ unseen)

pub returns-in-None : goal.returns-in-None
returns-in-None c unseen = nothing_meant c.args.meant c.args.kind (decision_in (rules_in c.args.patterns.now)) (sym c.mentioned_attribute.ensures ∙ c.in-None.is)
