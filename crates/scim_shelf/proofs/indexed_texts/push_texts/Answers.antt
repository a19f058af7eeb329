use Rattle.std.proofs.Common.{◌∙◌, ap, ◌<◌, Bool, ◌&&◌, ◌||◌, List, length, arith}
use Rattle.std.specs.Prelude.{string_bytes}
use Rattle.scim_schema.specs.Units.{is_same_leaf}
use Rattle.scim_value.specs.declared.uniqueness.UniqueName.{UniqueName}
use Rattle.scim_shelf.specs.Owners.{is_among}
use Rattle.scim_shelf.proofs.TextLemmas.{none_more, one_added}
use Rattle.scim_shelf.proofs.indexed_texts.push_texts.Goals as goal
use Rattle.scim_shelf.proofs.indexed_texts.push_texts.Goals.{in-Some+in_ok-text+in_ok-push, in_default}

pub loop-value-preserved : goal.loop-value-preserved
loop-value-preserved c =
    let leaf = c.args.leaf in
    let values = c.args.values.now in
    let k = c.loop-value.value-index in
    let value = c.value-item.result in
    let texts = c.loop-value.texts.items in
    let inside : k < length values = omega arith in
    elim c.match-text_at.branch [
      | in-Some+in_ok-text+in_ok-push w ↦ λ q.
          ap (λ (ns : List UniqueName). is_among q ns) ((λ i. (w.texts-is i).items) ∙ w.in_ok-push.ensures.items)
          ∙ one_added leaf values k value inside c.value-item.is q texts w.in_ok-text.text w.in-Some.text.now (is_among q c.args.texts.now.items)
          w.in_ok-text.ensures (w.in-Some.ensures (string_bytes q.text)) (c.loop-value.invariant q)
      | in_default w ↦ λ q.
          ap (λ (ns : List UniqueName). is_among q ns) (λ i. (w.texts-is i).items)
          ∙ c.loop-value.invariant q
          ∙ ap (λ (b : Bool). is_among q c.args.texts.now.items || (is_same_leaf leaf q.leaf && b))
          (none_more leaf values k value inside c.value-item.is (string_bytes q.text) (w.in_default.ensures (string_bytes q.text)))
    ]
