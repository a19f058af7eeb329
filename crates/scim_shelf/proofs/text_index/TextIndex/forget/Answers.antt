use Rattle.std.proofs.Common.{◌∙◌, ap, ◌<◌, ◌&&◌, Bool, false, cond, length, arith}
use Rattle.scim_shelf.specs.Owners.{is_alike}
use Rattle.scim_shelf.specs.TextIndex.{is_same, is_noted}
use Rattle.scim_shelf.proofs.NoteLemmas.{text_more}
use Rattle.scim_shelf.proofs.text_index.TextIndex.forget.Goals as goal

pub loop-text-preserved : goal.loop-text-preserved
loop-text-preserved c =
    let texts = c.args.texts.now in
    let k = c.loop-text.text-index in
    let text = c.text-item.result in
    let inside : k < length texts = omega arith in
    λ q i.
    let same = is_same c.args.id i in
    c.forget_one.ensures q i ∙ ap (λ (b : Bool). cond (is_alike text q && same) false b) (c.loop-text.invariant q i)
    ∙ text_more q texts k text same false (is_noted c.args.self.now q i) inside c.text-item.is
