use Rattle.std.proofs.Common.{◌≡◌, sym, ◌∙◌, ap, ◌<◌, List, true, cond, length, take, arith}
use Rattle.std.specs.Prelude.{Some, string_bytes}
use Rattle.std.specs.BTreeSet.{contains_text}
use Rattle.std.specs.Cmp.Lexicographic.{nat_list_eq_equiv}
use Rattle.std.specs.Str.{bytes_eq}
use Rattle.std.proofs.lemmas.Map.Text.{btree_set_updates_text}
use Rattle.scim_shelf.specs.Stores.{compared_text, has_text_in}
use Rattle.scim_shelf.specs.IndexedTexts.{is_found}
use Rattle.scim_shelf.proofs.TextLemmas.{none_more, text_more}
use Rattle.scim_shelf.proofs.ValueLemmas.{or_cond}
use Rattle.scim_shelf.proofs.indexed_texts.texts_of.Goals as goal
use Rattle.scim_shelf.proofs.indexed_texts.texts_of.Goals.{in-Some+in_ok-compared+in_ok-insert, in_default}

pub loop-value-preserved : goal.loop-value-preserved
loop-value-preserved c =
    let leaf = c.args.leaf in
    let values = c.args.values.now in
    let k = c.loop-value.value-index in
    let value = c.value-item.result in
    let inside : k < length values = omega arith in
    elim c.match-text_at.branch [
      | in-Some+in_ok-compared+in_ok-insert w ↦ λ t.
          let own = w.in-Some.text.now in
          let text = string_bytes w.in_ok-compared.field-0 in
          let same : bytes_eq text t ≡ is_found leaf t (Some own) =
          ap (λ (u : List _). bytes_eq u t) w.in_ok-compared.ensures ∙ nat_list_eq_equiv.symm (compared_text leaf own) t in
          (λ i. contains_text (w.texts-is i) t)
          ∙ btree_set_updates_text text c.loop-value.texts _ true w.in_ok-insert.ensures.updates t
          ∙ (λ i. cond (same i) true (c.loop-value.invariant t i))
          ∙ or_cond (is_found leaf t (Some own)) (has_text_in leaf t (take k values))
          ∙ sym (text_more leaf values k value inside c.value-item.is t (Some own) (w.in-Some.ensures t))
      | in_default w ↦ λ t.
          (λ i. contains_text (w.texts-is i) t) ∙ c.loop-value.invariant t ∙ none_more leaf values k value inside c.value-item.is t (w.in_default.ensures t)
    ]
