use Rattle.std.proofs.Common.{◌∙◌, sym, ap}
use Rattle.std.specs.Option.{option_copied}
use Rattle.scim_schema.specs.declared.Unit.{Unit as AttributeUnit}
use Rattle.scim_cell.specs.Rows.{rows, values}
use Rattle.scim_query.proofs.KeyLemmas.{none_sorts, admitted_sorts, hidden_sorts}
use Rattle.scim_query.proofs.sort_keys.sorting_atom.Goals as goal

pub returns-in_err-value-clause-atom : goal.returns-in_err-value-clause-atom
returns-in_err-value-clause-atom g c =
    let own = c.values.ensures.rows ∙ ap (λ (u : AttributeUnit). values u (rows c.args.part.now)) c.unit_of.ensures in
    ap option_copied c.from_residual.ensures
    ∙ none_sorts (g.T.RowTest.keeps c.args.test.now) c.args.leaf (rows c.args.part.now) c.values.result.now own c.in_err-value.ensures

pub returns-then-is_kept-clause-atom : goal.returns-then-is_kept-clause-atom
returns-then-is_kept-clause-atom g c =
    let own = c.values.ensures.rows ∙ ap (λ (u : AttributeUnit). values u (rows c.args.part.now)) c.unit_of.ensures in
    c.get.ensures
    ∙ admitted_sorts (g.T.RowTest.keeps c.args.test.now) c.args.leaf (rows c.args.part.now) c.values.result.now own c.in_ok-value.value.now (sym c.if-is_kept.ensures) c.in_ok-value.ensures

pub returns-else-is_kept-clause-atom : goal.returns-else-is_kept-clause-atom
returns-else-is_kept-clause-atom g c =
    let own = c.values.ensures.rows ∙ ap (λ (u : AttributeUnit). values u (rows c.args.part.now)) c.unit_of.ensures in
    hidden_sorts (g.T.RowTest.keeps c.args.test.now) c.args.leaf (rows c.args.part.now) c.values.result.now own c.in_ok-value.value.now (sym c.if-is_kept.ensures) c.in_ok-value.ensures
