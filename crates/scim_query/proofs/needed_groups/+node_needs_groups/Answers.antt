use Rattle.std.proofs.Common.{sym, ◌∙◌}
use Rattle.scim_filter_grammar.specs.Tree.{view}
use Rattle.scim_query.proofs.NeededGroupsLemmas.{present_needs, compare_needs, values_need}
use Rattle.scim_query.proofs.needed_groups.+node_needs_groups.Goals as goal

pub returns-in-Present : goal.returns-in-Present
returns-in-Present t c needs = rw c.in-Present.is (present_needs c.in-Present.path (c.names_groups.ensures needs))

pub returns-in-Values : goal.returns-in-Values
returns-in-Values t c needs = rw c.in-Values.is (values_need c.in-Values.path (view c.in-Values.field-1.value) (c.names_groups-in-Values.ensures needs))

pub returns-then-not-holds_of_none : goal.returns-then-not-holds_of_none
returns-then-not-holds_of_none t c needs =
    let fails = sym c.holds_of_none.ensures ∙ c.if-not-holds_of_none.true in
    rw c.in-Compare.is (compare_needs c.in-Compare.path c.in-Compare.operator c.in-Compare.literal (c.names_groups-then-not-holds_of_none.ensures needs) fails)
