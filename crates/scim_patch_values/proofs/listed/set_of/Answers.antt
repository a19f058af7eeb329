use Rattle.std.proofs.Common.{◌≡◌, ◌∙◌, ap, sym, arith, length, ◌<◌, rules, List, ℕ}
use Rattle.std.proofs.lemmas.List.{take_more}
use Rattle.scim_patch_values.proofs.TextLemmas.{one_more}
use Rattle.scim_patch_values.proofs.listed.set_of.Goals as goal

pub loop-text-preserved : goal.loop-text-preserved
loop-text-preserved c = λ q.
    rw (take_more c.args.texts.now c.loop-text.text-index c.text-item.result (omega arith))
    (one_more c.loop-text.set c.insert.new.self c.in_ok-from_str.field-0 _ _ (c.in_ok-from_str.ensures.ok ∙ c.as_str.ensures ∙ c.text-item.is) c.in_ok-insert.ensures.updates c.loop-text.invariant q)
