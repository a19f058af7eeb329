use Rattle.std.proofs.Common.{◌≡◌, ℕ, ◌≤◌, ◌++◌, ◌∷◌, [], sym, ◌∙◌, ap, subst, arith, length, map, take, String, Global, string_bytes}
use Rattle.std.specs.Prelude.{Some}
use Rattle.std.proofs.Math.Seq.{take-length}
use Rattle.serde_json.specs.Data.{depth}
use Rattle.serde_json.specs.Read.{read, max_depth}
use Rattle.serde_json.specs.View.{view}
use Rattle.serde_json.specs.declared.value.Value.{Value}
use Rattle.scim_foreign_users.proofs.ExportLemmas.{item_shallow, items_viewed, text_more}
use Rattle.scim_foreign_users.proofs.exports.texts_of.Goals as goal

pub loop-item-preserved : goal.loop-item-preserved
loop-item-preserved c =
    let vs = c.args.items.now in
    let i = c.loop-item.item-index in
    let v = c.item-item.result in
    let text = c.in_ok-to_string.field-0 in
    let shallow = subst (λ (w : Value). depth (view w) ≤ max_depth) (sym c.item-item.is) (item_shallow vs i v max_depth c.requires c.loop-item-test.true) in
    let pushed : c.push.new.values.items ≡ c.loop-item.texts.items ++ text ∷ [] = c.in_ok-push.ensures.items in
    ap (map (λ (t : String Global). read (string_bytes t))) pushed
    ∙ text_more c.loop-item.texts.items text vs i v c.loop-item-test.true c.item-item.is c.loop-item.invariant (c.in_ok-to_string.ensures.reads_back shallow)

pub returns : goal.returns
returns c =
    let vs = c.args.items.now in
    let all : c.loop-item.item-index ≡ length vs = omega arith in
    c.loop-item.invariant
    ∙ ap (λ (n : ℕ). map (λ (v : Value). Some (view v)) (take n vs)) all
    ∙ ap (map (λ (v : Value). Some (view v))) (take-length vs)
    ∙ sym (items_viewed vs)
