use Rattle.std.proofs.Common.{◌≡◌, sym, ◌∙◌, ap, List, ◌++◌, ◌∷◌, [], take, ◌+◌}
use Rattle.std.specs.Prelude.{Option}
use Rattle.std.proofs.lemmas.List.{take_more, append-nil}
use Rattle.scim_cell.specs.Content.{Content}
use Rattle.scim_view.specs.View.{viewer_of}
use Rattle.scim_view.specs.Groups.{and_those, view_with_groups, views}
use Rattle.scim_view.proofs.ListLemmas.{views_more}
use Rattle.scim_view.proofs.viewers.Viewer.views.Goals as goal
use Rattle.scim_view.proofs.viewers.Viewer.views.Goals.{in-Some+in_ok-push, in_default}

pub loop-resource-preserved : goal.loop-resource-preserved
loop-resource-preserved c =
    let viewer = viewer_of c.args.self.now in
    let groups = c.args.groups.now in
    let rs = c.args.resources.now in
    let i = c.loop-resource.resource-index in
    let r = c.resource-item.result in
    let before = views viewer groups (take i rs) in
    let more : take (i + 1) rs ≡ take i rs ++ r ∷ [] = take_more rs i r c.loop-resource-test.true ∙ ap (λ (x : Content). take i rs ++ x ∷ []) (sym c.resource-item.is) in
    let viewed : c.in_ok-view.view ≡ view_with_groups viewer groups r = c.in_ok-view.ensures groups c.in_ok-patterns.ensures c.in_ok-index.ensures in
    let end : before ++ and_those c.in_ok-view.view [] ≡ views viewer groups (take (i + 1) rs) =
    ap (λ (o : Option Content). before ++ and_those o []) viewed ∙ sym (ap (views viewer groups) more ∙ views_more viewer groups (take i rs) r) in
    elim c.match-view.branch [
      | in-Some+in_ok-push w ↦
          ap (λ v. v.items) w.views-is ∙ w.in_ok-push.ensures.items ∙ ap (λ (xs : List Content). xs ++ w.in-Some.view ∷ []) c.loop-resource.invariant
          ∙ ap (λ (o : Option Content). before ++ and_those o []) (sym w.in-Some.is) ∙ end
      | in_default w ↦
          ap (λ v. v.items) w.views-is ∙ c.loop-resource.invariant ∙ sym (append-nil before)
          ∙ ap (λ (o : Option Content). before ++ and_those o []) (sym w.in_default.is) ∙ end
    ]
