use Rattle.std.proofs.Common.{◌∙◌, ap, Bool, ◌&&◌, ◌||◌, get_or, arith}
use Rattle.std.specs.Prelude.{string_bytes}
use Rattle.scim_schema.specs.declared.Attribute.TheVariants.{Id}
use Rattle.scim_schema.specs.declared.Leaf.{Leaf}
use Rattle.scim_schema.specs.IndexedLeaves.{indexed_leaves}
use Rattle.scim_schema.specs.Units.{is_same_leaf, simple}
use Rattle.scim_shelf.specs.Owners.{is_among}
use Rattle.scim_shelf.specs.IndexedTexts.{is_under, is_under_at}
use Rattle.scim_shelf.proofs.ValueLemmas.{at_leaf, leaf_more, under_leaves}
use Rattle.scim_shelf.proofs.indexed_texts.texts_indexed.Goals as goal

pub loop-leaf-preserved : goal.loop-leaf-preserved
loop-leaf-preserved c = λ q.
    let resource = c.args.resource.now in
    let t = string_bytes q.text in
    let leaves = c.indexed_leaves-leaf-items.result.now in
    let leaf = get_or leaves c.loop-leaf.leaf-index (simple Id) in
    let before = is_among q c.loop-leaf.texts.items in
    leaf_more q.leaf leaves c.loop-leaf.leaf-index (simple Id) (is_under q resource) before (is_among q c.push_texts.new.texts.items)
    (omega arith) (c.loop-leaf.invariant q)
    (c.in_ok-push_texts.ensures q
    ∙ ap (λ (b : Bool). before || b)
    (ap (λ (b : Bool). is_same_leaf leaf q.leaf && b) (c.indexed_values.ensures t) ∙ at_leaf leaf q.leaf (λ (l : Leaf). is_under_at l t resource)))

pub returns : goal.returns
returns c = λ q.
    c.loop-leaf.invariant q
    ∙ under_leaves q c.args.resource.now c.indexed_leaves-leaf-items.result.now c.loop-leaf.leaf-index (omega arith)
    (c.indexed_leaves-leaf-items.ensures ∙ ap indexed_leaves c.kind.ensures)
