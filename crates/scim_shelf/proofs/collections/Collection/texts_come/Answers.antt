use Rattle.std.proofs.Common.{◌≡◌, sym, ◌∙◌, ap, ℕ, Bool, ◌&&◌, ◌||◌, not, List, take, get_or, arith}
use Rattle.std.specs.Prelude.{find, string_bytes}
use Rattle.std.specs.List.{list_any}
use Rattle.std.proofs.Math.Bool.{and_assoc}
use Rattle.scim_schema.specs.declared.Leaf.{Leaf}
use Rattle.scim_schema.specs.declared.Attribute.TheVariants.{Id}
use Rattle.scim_schema.specs.IndexedLeaves.{indexed_leaves}
use Rattle.scim_schema.specs.Units.{is_same_leaf, simple}
use Rattle.scim_shelf.specs.Stores.{has_text_in}
use Rattle.scim_shelf.specs.Indexed.{has_id}
use Rattle.scim_shelf.specs.Owners.{is_among}
use Rattle.scim_shelf.specs.IndexedTexts.{is_under, is_under_in}
use Rattle.scim_shelf.specs.TextIndex.{is_noted}
use Rattle.scim_shelf.proofs.ValueLemmas.{beyond_at, leaf_more, under_leaves}
use Rattle.scim_shelf.proofs.collections.Collection.texts_come.Goals as goal

pub loop-leaf-preserved : goal.loop-leaf-preserved
loop-leaf-preserved c = λ cs h q.
    let leaves = c.indexed_leaves-leaf-items.result.now in
    let k = c.loop-leaf.leaf-index in
    let leaf : Leaf = get_or leaves k (simple Id) in
    let t = string_bytes q.text in
    let new = c.args.new.now in
    let values = c.values_to_note-values.result.now in
    let found = find (has_id new.id) cs in
    let before = is_among q c.loop-leaf.come.items in
    let noted : is_noted c.args.self.now.texts q c.id.result ≡ is_under_in q found =
    h.noted q c.id.result ∙ ap (λ (i : List ℕ). is_under_in q (find (has_id i) cs)) c.id.ensures in
    leaf_more q.leaf leaves k (simple Id) (is_under q new && not (is_under_in q found)) before (is_among q c.push_unnoted.new.come.items)
    (omega arith) (c.loop-leaf.invariant cs h q)
    (c.in_ok-push_unnoted.ensures q
    ∙ ap (λ (b : Bool). before || b)
    ((λ j. is_same_leaf leaf q.leaf && (has_text_in leaf t values && not (noted j)))
    ∙ beyond_at leaf q values new found (c.values_to_note-values.ensures cs h t)))

pub returns : goal.returns
returns c = λ cs h q.
    let new = c.args.new.now in
    let had = is_under_in q (find (has_id new.id) cs) in
    let leaves = c.indexed_leaves-leaf-items.result.now in
    let k = c.loop-leaf.leaf-index in
    c.loop-leaf.invariant cs h q
    ∙ sym (and_assoc (list_any (λ (l : Leaf). is_same_leaf l q.leaf) (take k leaves)) (is_under q new) (not had))
    ∙ ap (λ (b : Bool). b && not had) (under_leaves q new leaves k (omega arith) (c.indexed_leaves-leaf-items.ensures ∙ ap indexed_leaves c.kind.ensures))
