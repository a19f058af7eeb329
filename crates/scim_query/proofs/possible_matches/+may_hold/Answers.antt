use Rattle.std.proofs.Common.{sym, ◌∙◌}
use Rattle.scim_filter_grammar.specs.Tree.{view}
use Rattle.scim_query.proofs.PossibleMatchLemmas.{present_fails, compare_fails, position_fails}
use Rattle.scim_query.proofs.possible_matches.+may_hold.Goals as goal

pub returns-in-Present : goal.returns-in-Present
returns-in-Present t c unseen =
    rw c.in-Present.is (λ p part same base gs. present_fails c.in-Present.path _ (c.may_be_seen.ensures unseen p part same base gs))

pub returns-else-holds_of_none : goal.returns-else-holds_of_none
returns-else-holds_of_none t c unseen =
    let none = sym c.holds_of_none.ensures ∙ c.if-holds_of_none.false in
    rw c.in-Compare.is (λ p part same base gs. compare_fails c.in-Compare.path c.in-Compare.operator c.in-Compare.literal _ none (c.may_be_seen-else-holds_of_none.ensures unseen p part same base gs))

pub returns-else-is_asked_of_none : goal.returns-else-is_asked_of_none
returns-else-is_asked_of_none t c unseen =
    let none = sym c.is_asked_of_none.ensures ∙ c.if-is_asked_of_none.false in
    rw c.in-Values.is (λ p part same base gs. position_fails (view c.in-Values.field-1.value) c.in-Values.path.meant _ none (c.may_be_seen-else-is_asked_of_none.ensures unseen p part same base gs))
