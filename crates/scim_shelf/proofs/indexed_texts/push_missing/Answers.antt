use Rattle.std.proofs.Common.{◌≡◌, ◌∙◌, ap, Bool, ◌&&◌, ◌||◌, not}
use Rattle.std.specs.Prelude.{string_bytes}
use Rattle.std.specs.BTreeSet.{contains_text}
use Rattle.std.proofs.lemmas.Result.{on_ok_weaker}
use Rattle.scim_schema.specs.declared.Leaf.{Leaf}
use Rattle.scim_schema.specs.Units.{is_same_leaf}
use Rattle.scim_shelf.specs.Stores.{has_text_in}
use Rattle.scim_shelf.specs.Owners.{is_among}
use Rattle.scim_shelf.specs.IndexedTexts.{is_under_at}
use Rattle.scim_shelf.proofs.ValueLemmas.{at_leaf}
use Rattle.scim_shelf.proofs.indexed_texts.push_missing.Goals as goal

pub returns : goal.returns
returns c =
    let leaf = c.args.leaf in
    let new = c.args.new.now in
    on_ok_weaker c.push_all.result
    (λ among q.
    let t = string_bytes q.text in
    let has = has_text_in leaf t c.args.values.now in
    let left : contains_text c.remove_texts.new.texts t ≡ (has && not (is_under_at leaf t new)) =
    c.in_ok-remove_texts.ensures t ∙ (λ i. c.in_ok-missing.ensures t i && not (c.indexed_values.ensures t i)) in
    among q
    ∙ ap (λ (b : Bool). is_among q c.args.gone.now.items || b)
    (ap (λ (b : Bool). is_same_leaf leaf q.leaf && b) left
    ∙ at_leaf leaf q.leaf (λ (l : Leaf). has && not (is_under_at l t new))))
    c.push_all.ensures
