use Rattle.std.proofs.Common.{ap, ◌∙◌, []}
use Rattle.std.specs.List.{list_any}
use Rattle.std.proofs.lemmas.List.{take_all}
use Rattle.scim_view.specs.Names.{includes, names_leaf}
use Rattle.scim_view.proofs.NamesLemmas.{text_more}
use Rattle.scim_view.proofs.attribute_lists.Names.of.Goals as goal

pub loop-text-preserved : goal.loop-text-preserved
loop-text-preserved c leaf =
    text_more (λ t. names_leaf c.args.kind t.now leaf) c.args.texts.now c.loop-text.text-index (record { ref_ptr = (0, 0); now = [] }) (includes c.loop-text.names leaf) _ c.loop-text-test.true
    (c.in_ok-add.ensures leaf) (c.loop-text.invariant leaf)

pub returns : goal.returns
returns c l = c.loop-text.invariant l ∙ ap (list_any (λ t. names_leaf c.args.kind t.now l)) (take_all c.loop-text.text-index c.args.texts.now c.loop-text-test.false)
