use Rattle.std.proofs.Common.{◌≡◌, refl, sym, ◌∙◌, ap, Bool, false, ◌&&◌, ◌||◌, not, [], length}
use Rattle.std.specs.Prelude.{Some, string_bytes}
use Rattle.std.proofs.Math.Bool.{or-false}
use Rattle.std.proofs.lemmas.Bool.{and_right, eqb-true}
use Rattle.std.proofs.lemmas.List.{nil_from_length}
use Rattle.std.proofs.lemmas.Result.{on_ok_weaker}
use Rattle.scim_schema.specs.Units.{is_same_leaf}
use Rattle.scim_shelf.specs.Stores.{has_text_in}
use Rattle.scim_shelf.specs.Owners.{is_among}
use Rattle.scim_shelf.specs.IndexedTexts.{is_under}
use Rattle.scim_shelf.proofs.ValueLemmas.{beyond_at}
use Rattle.scim_shelf.proofs.indexed_texts.push_beyond.Goals as goal

pub returns-then-is_empty : goal.returns-then-is_empty
returns-then-is_empty c = λ q.
    let leaf = c.args.leaf in
    let t = string_bytes q.text in
    let new = c.args.new.now in
    let values = c.values_beyond-values.result.now in
    let none : values ≡ [] = nil_from_length values (eqb-true (length values) 0 (sym c.is_empty.ensures ∙ c.if-is_empty.true)) in
    let here = is_same_leaf leaf q.leaf in
    let before = is_among q c.args.gone.now.items in
    sym (or-false before)
    ∙ ap (λ (b : Bool). before || b)
    (sym (and_right here false refl) ∙ (λ i. here && (has_text_in leaf t (sym none i) && not (is_under q new)))
    ∙ beyond_at leaf q values c.args.old.now (Some new) (c.values_beyond-values.ensures t))

pub returns : goal.returns
returns c =
    on_ok_weaker c.push_missing.result
    (λ among q. among q
    ∙ ap (λ (b : Bool). is_among q c.args.gone.now.items || b)
    (beyond_at c.args.leaf q c.values_beyond-values.result.now c.args.old.now (Some c.args.new.now) (c.values_beyond-values.ensures (string_bytes q.text))))
    c.push_missing.ensures
