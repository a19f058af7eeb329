use Rattle.std.proofs.Common.{rules, ◌≡◌, ◌∙◌, ap, subst, List, map}
use Rattle.std.specs.List.{FoldsTo}
use Rattle.std.proofs.lemmas.Map.Iter.{iter_end}
use Rattle.scim_cell.specs.Content.{Content}
use Rattle.scim_cell.specs.Kinds.{of_kind}
use Rattle.scim_shelf.specs.Indexed.{picked}
use Rattle.scim_shelf.proofs.PickLemmas.{folds_picked, picked_all}
use Rattle.scim_shelf.proofs.collections.Collection.show_several.Goals as goal

pub loop-id-preserved : goal.loop-id-preserved
loop-id-preserved g c = λ cs h.
    folds_picked g.V.Visitor.takes c.args.kind c.args.visitor.now c.loop-id.visitor c.show_one.new.visitor cs c.loop-id.yielded c.in-Some.id
    (c.loop-id.invariant cs h) (c.in_ok-show_one.ensures cs h)

pub returns : goal.returns
returns g c = λ cs h.
    let all : map (λ id. id.now) c.loop-id.yielded ≡ c.args.ids.now.keys = search (rules, iter_end) in
    let same = ap (of_kind c.args.kind) (ap (picked cs) all ∙ picked_all cs h.keyed_apart c.args.ids.now.keys c.into_iter-id-iterator.ensures.into_iter_gives.4) in
    subst (λ (ds : List Content). FoldsTo g.V.Visitor.takes c.args.visitor.now ds c.loop-id.visitor) same (c.loop-id.invariant cs h)
