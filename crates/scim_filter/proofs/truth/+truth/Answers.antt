use Rattle.std.proofs.Common.{◌≡◌, ◌∙◌, sym, true, false, arith}
use Rattle.std.proofs.lemmas.Grind.{common_steps}
use Rattle.scim_schema.specs.Characteristics.{is_multi_valued}
use Rattle.scim_filter_grammar.specs.Tree.{view}
use Rattle.scim_filter.specs.Truth.{truth}
use Rattle.scim_filter.specs.code.Cells.{rows_in}
use Rattle.scim_filter.proofs.LookLemmas.{values_of_looked, own_looked, own_looked_alike}
use Rattle.scim_filter.proofs.truth.+truth.Goals as goal

pub some_value_holds-loop-row-init : goal.some_value_holds-loop-row-init
some_value_holds-loop-row-init g t c =
    values_of_looked g.T.RowTest.keeps c.args.look.now (truth (view c.args.filter.now)) c.args.attribute c.args.rows.now

pub some_position_holds-returns-then-is_multi_valued : goal.some_position_holds-returns-then-is_multi_valued
some_position_holds-returns-then-is_multi_valued g t c =
    let multi : is_multi_valued c.in-Attribute.attribute ≡ true = sym c.is_multi_valued.ensures ∙ c.if-is_multi_valued.true in
    let alike = own_looked_alike g.T.RowTest.keeps c.args.look.now c.in-Attribute.attribute c.around-rows.result.now (rows_in c.args.cells) c.around-rows.ensures in
    rw (c.in-Attribute.is, multi, ← alike) c.some_value_holds.ensures

pub some_position_holds-returns-else-is_multi_valued : goal.some_position_holds-returns-else-is_multi_valued
some_position_holds-returns-else-is_multi_valued g t c =
    let single : is_multi_valued c.in-Attribute.attribute ≡ false = sym c.is_multi_valued.ensures ∙ c.if-is_multi_valued.false in
    rw (c.in-Attribute.is, single, own_looked g.T.RowTest.keeps c.args.look.now c.in-Attribute.attribute (rows_in c.args.cells), ← c.around-rows.ensures) c.node_holds.ensures

pub node_holds-returns-in-Values : goal.node_holds-returns-in-Values
node_holds-returns-in-Values g t c = rw (c.in-Values.is, ← c.deref-in-Values.ensures) c.some_position_holds.ensures

-- by name, so that a body that breaks it is refused at once
pub some_value_holds-returns-then-branch : goal.some_value_holds-returns-then-branch
some_value_holds-returns-then-branch c = grind (arith, common_steps)

-- by name, so that a body that breaks it is refused at once
pub some_value_holds-loop-row-preserved : goal.some_value_holds-loop-row-preserved
some_value_holds-loop-row-preserved c = grind (arith, common_steps)
