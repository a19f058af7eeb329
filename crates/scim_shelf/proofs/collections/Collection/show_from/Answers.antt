use Rattle.std.proofs.Common.{◌≡◌, ◌∙◌, ap, subst, ℕ, List, length, take, drop}
use Rattle.std.specs.List.{FoldsTo}
use Rattle.std.proofs.lemmas.Iterator.{YieldsList-from_take}
use Rattle.std.proofs.lemmas.Iterator.Adapters.{YieldsList-from_skip}
use Rattle.std.proofs.lemmas.Iterator.Consumers.{YieldsList-at, YieldsList-end, YieldsList-from_rest}
use Rattle.std.proofs.lemmas.List.{length-map}
use Rattle.scim_cell.specs.Content.{Content}
use Rattle.scim_cell.specs.Kinds.{of_kind}
use Rattle.scim_shelf.specs.Indexed.{picked}
use Rattle.scim_shelf.proofs.KindLemmas.{ids_of, picked_window}
use Rattle.scim_shelf.proofs.PickLemmas.{folds_picked}
use Rattle.scim_shelf.proofs.collections.Collection.show_from.Goals as goal

pub loop-id-preserved : goal.loop-id-preserved
loop-id-preserved g c = λ cs h.
    folds_picked g.V.Visitor.takes c.args.kind c.args.visitor.now c.loop-id.visitor c.show_one.new.visitor cs c.loop-id.yielded c.in-Some.id
    (c.loop-id.invariant cs h) (c.in_ok-show_one.ensures cs h)

pub returns : goal.returns
returns g c = λ cs h.
    let kind = c.args.kind in
    let skipped = c.args.skipped in
    let count = c.args.count in
    let keys = c.of-ids.result.now.keys in
    let chain = YieldsList-from_take count
    (YieldsList-at c.take-id-items.ensures.source
    (YieldsList-from_skip skipped (YieldsList-at c.skip.ensures.source (YieldsList-from_rest keys c.iter.ensures.rest)) c.skip.ensures.count))
    c.take-id-items.ensures.count in
    let seen = YieldsList-end (YieldsList-at c.into_iter-id-iterator.ensures.into_iter_gives chain)
    c.loop-id.yielded _ c.loop-id.yielded_by _ _ c.in-None.is c.next.ensures.steps in
    let same : keys ≡ ids_of kind cs = c.of-ids.ensures ∙ h.kinds kind in
    let shown = ap (λ (ids : List (List ℕ)). of_kind kind (picked cs ids)) (seen.0 ∙ ap (λ (ks : List (List ℕ)). take count (drop skipped ks)) same)
    ∙ picked_window kind skipped count cs h.keyed_apart in
    record {
      number = c.len-total.ensures.len ∙ ap length same ∙ length-map (of_kind kind cs) (λ (d : Content). d.id);
      took = subst (λ (ds : List Content). FoldsTo g.V.Visitor.takes c.args.visitor.now ds c.loop-id.visitor) shown (c.loop-id.invariant cs h);
    }
