use Rattle.std.proofs.Common.{sym, ◌∙◌, ◌<◌, ◌||◌, length, arith}
use Rattle.scim_shelf.proofs.ValueLemmas.{text_before}
use Rattle.scim_shelf.proofs.indexed_texts.shared_at_end.Goals as goal

pub loop-shared-preserved : goal.loop-shared-preserved
loop-shared-preserved c =
    let leaf = c.args.leaf in
    let some = c.args.some.now in
    let others = c.args.others.now in
    let shared = c.loop-shared.shared in
    let one = c.index-some-some.result in
    let other = c.index-others-others.result in
    let inside : shared < length some = omega arith in
    let inside_others : shared < length others = omega arith in
    record {
      some = omega arith;
      others = omega arith;
      same = λ t.
          text_before leaf t some shared one inside c.index-some-some.is
          ∙ (λ i. c.has_same_text.ensures c.if-has_same_text.true t i || c.loop-shared.invariant.same t i)
          ∙ sym (text_before leaf t others shared other inside_others c.index-others-others.is);
    }
