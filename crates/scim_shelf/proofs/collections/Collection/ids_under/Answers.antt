use Rattle.std.proofs.Common.{[], ◌∙◌, ap, Bool, ◌||◌, get_or}
use Rattle.std.specs.Prelude.{find}
use Rattle.scim_schema.specs.declared.Attribute.TheVariants.{Id}
use Rattle.scim_schema.specs.Units.{simple}
use Rattle.scim_shelf.specs.declared.leaf_texts.LeafText.{LeafText}
use Rattle.scim_shelf.specs.Indexed.{has_id}
use Rattle.scim_shelf.specs.IndexedTexts.{is_under_at_in}
use Rattle.scim_shelf.proofs.UnderLemmas.{some_more}
use Rattle.scim_shelf.proofs.collections.Collection.ids_under.Goals as goal

pub loop-own-preserved : goal.loop-own-preserved
loop-own-preserved c = λ cs h i.
    let texts = c.args.texts.now in
    let k = c.loop-own.own-index in
    let first : LeafText = record { leaf = simple Id; text = record { ref_ptr = (0, 0); now = [] } } in
    let own = get_or texts k first in
    c.in_ok-add_ids_under.ensures cs h i
    ∙ ap (λ (b : Bool). b || is_under_at_in own.leaf own.text.now (find (has_id i) cs)) (c.loop-own.invariant cs h i)
    ∙ some_more texts k first (find (has_id i) cs) c.loop-own-test.true
