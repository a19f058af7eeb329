use Rattle.std.proofs.Common.{◌∙◌, sym, ap}
use Rattle.std.specs.Option.{option_map}
use Rattle.scim_cell.specs.Rows.{restricted_row}
use Rattle.scim_query.proofs.KeyLemmas.{sorted_by_marked, sorted_by_first}
use Rattle.scim_query.proofs.sort_keys.sorting_value.Goals as goal

pub returns-in-Some : goal.returns-in-Some
returns-in-Some g c = sorted_by_marked (g.T.RowTest.keeps c.args.test.now) c.args.values.now c.in-Some.value.now (sym c.in-Some.ensures)

pub returns-in-None : goal.returns-in-None
returns-in-None g c =
    let keeps = g.T.RowTest.keeps c.args.test.now in
    ap (option_map (restricted_row keeps)) c.first_left.ensures ∙ sorted_by_first keeps c.args.values.now (sym c.in-None.ensures)
