use Rattle.std.proofs.Common.{ap, ◌∙◌, arith}
use Rattle.std.proofs.lemmas.List.{take_more}
use Rattle.scim_cell.specs.code.Keys.{key_of}
use Rattle.scim_cell.proofs.KeyLemmas.{covers_push}
use Rattle.scim_cell.proofs.distinct_values.places_of.Goals as goal

pub loop-place-preserved : goal.loop-place-preserved
loop-place-preserved c = λ q.
    rw (take_more c.args.values.now c.loop-place.place c.index-values-place.result (omega arith))
    (covers_push c.loop-place.places c.insert.new.self c.in_ok-key.field-0 c.loop-place.place c.args.attribute _ _
    (c.in_ok-key.ensures ∙ ap (key_of c.args.attribute) c.index-values-place.is)
    c.in_ok-insert.ensures.updates c.loop-place.invariant q)
