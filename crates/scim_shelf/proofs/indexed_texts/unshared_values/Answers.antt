use Rattle.std.proofs.Common.{◌≡◌, sym, ◌∙◌, ap, ◌||◌, ◌-◌, length, take, drop}
use Rattle.std.proofs.lemmas.List.{take_rest}
use Rattle.scim_shelf.specs.Stores.{has_text_in}
use Rattle.scim_shelf.proofs.ValueLemmas.{beyond_shared, before_shared, in_parts, widened}
use Rattle.scim_shelf.proofs.indexed_texts.unshared_values.Goals as goal

pub returns : goal.returns
returns c = λ t.
    let leaf = c.args.leaf in
    let has = has_text_in leaf t in
    let values = c.args.values.now in
    let others = c.args.others.now in
    let k = c.shared_values-first.result in
    let n = c.shared_at_end-last.result in
    let rest = take (length values - k) (drop k values) in
    let other_rest = take (length others - k) (drop k others) in
    let all : (has (take k others) || has other_rest) ≡ has others =
    ap (λ r. has (take k others) || has r) (take_rest others k) ∙ in_parts leaf t others k in
    let kept = take (length rest - n) rest in
    (λ i. has kept || sym all i)
    ∙ widened (has kept) (has rest) (has other_rest) (has (take k others))
    (before_shared leaf t rest other_rest (length rest - n) (length other_rest - n) (c.shared_at_end-last.ensures.same t))
    ∙ (λ i. has rest || all i)
    ∙ beyond_shared leaf t values others k (c.shared_values-first.ensures.same t)
