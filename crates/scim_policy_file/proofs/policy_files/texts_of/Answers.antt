use Rattle.std.proofs.Common.{◌≡◌, ◌∙◌, sym, ap, subst, ℕ, List, ◌+◌, ◌++◌, ◌∷◌, [], get_or, map, None, Some}
use Rattle.std.proofs.lemmas.List.{map-append}
use Rattle.json.specs.Find.{as_str}
use Rattle.json.specs.Value.{value_view}
use Rattle.scim_policy_file.specs.code.Written.{text_at}
use Rattle.scim_policy_file.proofs.ListLemmas.{IsMade, made_more, made_none}
use Rattle.scim_policy_file.proofs.policy_files.texts_of.Goals as goal

pub loop-item-preserved : goal.loop-item-preserved
loop-item-preserved c =
    let texts = c.loop-item.texts.items in
    let i = c.loop-item.item-index in
    let item = c.item-item.result in
    let text = c.in-Some.text in
    let gives : as_str (value_view (get_or c.args.items.now i item)) ≡ Some text.now = ap (λ w. as_str (value_view w)) (sym c.item-item.is) ∙ sym c.in-Some.ensures in
    let items : map text_at c.push.new.values.items ≡ map text_at texts ++ text.now ∷ [] = ap (map text_at) c.in_ok-push.ensures.items ∙ map-append text_at texts (text ∷ []) in
    let more = made_more value_view as_str (map text_at texts) i c.args.items.now item text.now c.loop-item-test.true gives c.loop-item.invariant in
    subst (λ (all : List (List ℕ)). IsMade value_view as_str all (i + 1) c.args.items.now) (sym items) more

pub returns-in_default : goal.returns-in_default
returns-in_default c =
    let i = c.loop-item.item-index in
    let item = c.item-item.result in
    let gives : as_str (value_view (get_or c.args.items.now i item)) ≡ None = ap (λ w. as_str (value_view w)) (sym c.item-item.is) ∙ sym c.in_default.ensures in
    sym (made_none value_view as_str (map text_at c.loop-item.texts.items) i c.args.items.now item c.loop-item-test.true gives c.loop-item.invariant)
