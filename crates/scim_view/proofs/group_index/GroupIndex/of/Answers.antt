use Rattle.std.proofs.Common.{◌≡◌, sym, ◌∙◌, ap, subst, List, ◌++◌, ◌∷◌, [], take, ◌+◌}
use Rattle.std.proofs.lemmas.List.{take_more, take_all}
use Rattle.scim_cell.specs.Content.{Content}
use Rattle.scim_view.specs.View.{viewer_of}
use Rattle.scim_view.specs.Indexes.{IsIndexOf}
use Rattle.scim_view.proofs.group_index.GroupIndex.of.Goals as goal

pub loop-group-preserved : goal.loop-group-preserved
loop-group-preserved c =
    let gs = c.args.groups.now in
    let i = c.loop-group.group-index in
    let g = c.group-item.result in
    let more : take (i + 1) gs ≡ take i gs ++ g ∷ [] = take_more gs i g c.loop-group-test.true ∙ ap (λ (x : Content). take i gs ++ x ∷ []) (sym c.group-item.is) in
    subst (λ (xs : List Content). IsIndexOf (viewer_of c.args.viewer.now) xs c.push.new.self) (sym more) (c.in_ok-push.ensures (viewer_of c.args.viewer.now) (take i gs) c.in_ok-patterns.ensures c.loop-group.invariant)

pub returns : goal.returns
returns c =
    let all : take c.loop-group.group-index c.args.groups.now ≡ c.args.groups.now = take_all c.loop-group.group-index c.args.groups.now c.loop-group-test.false in
    rw all at c.loop-group.invariant

pub loop-group-init : goal.loop-group-init
loop-group-init c = c.new-index.ensures (viewer_of c.args.viewer.now)
