use Rattle.std.proofs.Common.{◌≡◌, sym, ◌∙◌, ap, subst, take, List, [], ◌∷◌, ◌++◌, ◌+◌}
use Rattle.std.specs.List.{FoldsTo}
use Rattle.std.proofs.lemmas.Fn.{FoldsTo-push}
use Rattle.std.proofs.lemmas.List.{take_more}
use Rattle.scim_cell.specs.Content.{Content}
use Rattle.scim_shelf.proofs.shelf.show_all.Goals as goal

pub loop-resource-preserved : goal.loop-resource-preserved
loop-resource-preserved g c =
    let all = c.args.resources.now in
    let i = c.loop-resource.resource-index in
    let one : Content = c.resource-item.result in
    let more : take (i + 1) all ≡ take i all ++ one ∷ [] = take_more all i one c.loop-resource-test.true ∙ ap (λ (x : Content). take i all ++ x ∷ []) (sym c.resource-item.is) in
    subst (λ (xs : List Content). FoldsTo g.V.Visitor.takes c.args.visitor.now xs c.take.new.self) (sym more)
    (FoldsTo-push g.V.Visitor.takes c.args.visitor.now (take i all) c.loop-resource.visitor one c.take.new.self c.loop-resource.invariant c.in_ok-take.ensures)
