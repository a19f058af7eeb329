use Rattle.std.proofs.Common.{◌∙◌, ap, ◌<◌, ◌&&◌, Bool, true, cond, length, arith}
use Rattle.scim_shelf.specs.Owners.{is_alike}
use Rattle.scim_shelf.specs.TextIndex.{is_same, is_noted}
use Rattle.scim_shelf.proofs.NoteLemmas.{text_more, others_stay}
use Rattle.scim_shelf.proofs.text_index.TextIndex.note_each.Goals as goal

pub loop-text-preserved : goal.loop-text-preserved
loop-text-preserved c =
    let texts = c.args.texts.now in
    let k = c.loop-text.text-index in
    let text = c.text-item.result in
    let inside : k < length texts = omega arith in
    λ q i.
    let same = is_same c.args.id i in
    c.in_ok-note_one.ensures.ok q i ∙ ap (λ (b : Bool). cond (is_alike text q && same) true b) (c.loop-text.invariant q i)
    ∙ text_more q texts k text same true (is_noted c.args.self.now q i) inside c.text-item.is

pub returns-in_err-note_one-clause-others : goal.returns-in_err-note_one-clause-others
returns-in_err-note_one-clause-others c = λ q i other.
    c.in_err-note_one.ensures.err q i ∙ c.loop-text.invariant q i
    ∙ others_stay q c.args.texts.now c.loop-text.text-index (is_same c.args.id i) (is_noted c.args.self.now q i) other
