use Rattle.std.proofs.Common.{sym, ◌∙◌, ap, Bool, ◌&&◌, not, take, arith}
use Rattle.std.specs.List.{list_any}
use Rattle.std.proofs.Math.Bool.{and_assoc}
use Rattle.scim_schema.specs.declared.Attribute.TheVariants.{Id}
use Rattle.scim_schema.specs.IndexedLeaves.{indexed_leaves}
use Rattle.scim_schema.specs.Units.{is_same_leaf, simple}
use Rattle.scim_shelf.specs.Owners.{is_among}
use Rattle.scim_shelf.specs.IndexedTexts.{is_under}
use Rattle.scim_shelf.proofs.ValueLemmas.{leaf_more, under_leaves}
use Rattle.scim_shelf.proofs.indexed_texts.texts_beyond.Goals as goal

pub loop-leaf-preserved : goal.loop-leaf-preserved
loop-leaf-preserved c = λ q.
    let leaves = c.indexed_leaves-leaf-items.result.now in
    let beyond = is_under q c.args.old.now && not (is_under q c.args.new.now) in
    leaf_more q.leaf leaves c.loop-leaf.leaf-index (simple Id) beyond (is_among q c.loop-leaf.gone.items) (is_among q c.push_beyond.new.gone.items)
    (omega arith) (c.loop-leaf.invariant q) (c.in_ok-push_beyond.ensures q)

pub returns : goal.returns
returns c = λ q.
    let old = c.args.old.now in
    let kept = is_under q c.args.new.now in
    let leaves = c.indexed_leaves-leaf-items.result.now in
    let k = c.loop-leaf.leaf-index in
    c.loop-leaf.invariant q
    ∙ sym (and_assoc (list_any (λ l. is_same_leaf l q.leaf) (take k leaves)) (is_under q old) (not kept))
    ∙ ap (λ (b : Bool). b && not kept) (under_leaves q old leaves k (omega arith) (c.indexed_leaves-leaf-items.ensures ∙ ap indexed_leaves c.kind.ensures))
